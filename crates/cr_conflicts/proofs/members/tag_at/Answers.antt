use Rattle.std.proofs.Common.{ap, sym, ◌∙◌}
use Rattle.std.specs.Prelude.{slice_get, option_and_then}
use Rattle.cr_conflicts.proofs.Keyed.{tag_found}
use Rattle.cr_conflicts.proofs.members.tag_at.Goals as goal

pub returns-in_default : goal.returns-in_default
returns-in_default c =
    ap (option_and_then (slice_get c.args.rows.now)) (sym c.in_default.is ∙ c.first_at.ensures)
    ∙ tag_found c.args.rows.now c.args.tags.now.entries c.args.token c.requires.tags

pub returns : goal.returns
returns c =
    c.row_at.ensures
    ∙ ap (option_and_then (slice_get c.args.rows.now)) (sym c.in-Some.is ∙ c.first_at.ensures)
    ∙ tag_found c.args.rows.now c.args.tags.now.entries c.args.token c.requires.tags
