use Rattle.std.proofs.Common.{sym, ap, ◌∙◌}
use Rattle.serde_json.specs.View.{items_view}
use Rattle.cr_compdb.specs.Database.{units_in}
use Rattle.cr_compdb.proofs.Refusals.{no_array, has_array, gives_same}
use Rattle.cr_compdb.proofs.database.units_of.Goals as goal

pub returns-in-None : goal.returns-in-None
returns-in-None c = no_array _ (sym c.in-None.ensures)

pub returns-in-Some : goal.returns-in-Some
returns-in-Some c = gives_same _ _ _ _ (has_array _ _ (sym c.in-Some.ensures) ∙ ap (λ items. units_in (items_view items)) (sym c.deref.ensures.value)) c.units_in.ensures
