use Rattle.std.proofs.Common.{sym, ap, ◌∙◌, ◌++◌, ◌∷◌, [], ℕ, List}
use Rattle.std.specs.BTreeMap.{insert_entry}
use Rattle.std.specs.Ordering.{nat_cmp}
use Rattle.std.specs.Cmp.Lexicographic.{slice_cmp}
use Rattle.std.specs.Option.{option_copied_mut}
use Rattle.cr_plan.proofs.Entries.{set_more, set_first}
use Rattle.cr_plan.proofs.Judged.{is_none}
use Rattle.cr_plan.proofs.editing.add_offset.Goals as goal

pub returns-in-Some : goal.returns-in-Some
returns-in-Some c = set_more c.args.by_path.now.entries _ c.args.path c.args.offset _ c.push.new.self (sym c.in-Some.ensures.value) c.in_ok-push.ensures.items (c.get_mut.follows.holds c.push.new.self).0

pub returns : goal.returns
returns c =
    let none = sym c.get_mut.ensures.value ∙ ap option_copied_mut (is_none c.get_mut.result c.in_default.not-Some) in
    set_first c.args.by_path.now.entries _ c.args.path c.args.offset c.push-2.new.self none (c.in_ok-push-2.ensures.items ∙ ap (λ (l : List ℕ). l ++ c.args.offset ∷ []) c.new-offsets.ensures.items)
    (c.in_ok-insert.ensures.entries ∙ (λ j. insert_entry (slice_cmp nat_cmp) (c.get_mut.follows.holds-at-none j).entries c.args.path c.push-2.new.self))
