use Rattle.std.proofs.Common.{◌≡◌, map, subst, rules}
use Rattle.cr_base.specs.NameTable.{with_text}
use Rattle.cr_preproc.proofs.PathLists.{put_in}
use Rattle.cr_preproc.proofs.once.Once.add.Goals as goal

owned : (c : goal.In_ok-insert_full) → c.in_ok-to_vec.field-0.items ≡ c.args.path.now
owned c = search rules

pub returns-in_ok-insert_full-clause-added : goal.returns-in_ok-insert_full-clause-added
returns-in_ok-insert_full-clause-added c =
    subst (λ l. map (λ v. v.items) c.insert_full.new.self.keys ≡ with_text l c.args.path.now) c.self.view_is
    (put_in (λ v. v.items) c.args.path.now c.self.inside.paths.keys c.insert_full.new.self.keys c.in_ok-to_vec.field-0 (owned c) c.in_ok-insert_full.ensures.keys)
