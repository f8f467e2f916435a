use Rattle.std.proofs.Common.{sym, ap, ◌∙◌}
use Rattle.cr_macros.specs.Tokens.{has}
use Rattle.cr_preproc.proofs.PathLists.{any_map}
use Rattle.cr_preproc.proofs.once.Once.has.Goals as goal

pub returns : goal.returns
returns c =
    c.is_some.ensures ∙ c.get_index_of.ensures.found ∙ sym (any_map (λ v. v.items) c.args.path.now c.self.inside.paths.keys)
    ∙ ap (λ l. has l c.args.path.now) c.self.view_is
