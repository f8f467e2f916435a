-- What declarations add is what conflicts with them.
use Rattle.std.proofs.Common.{◌⊎◌, ℕ, Option, List, length}
use Rattle.std.proofs.lemmas.Option.{slice_get_within}
use Rattle.cr_base.specs.declared.token.Name.{Name}
use Rattle.cr_facts.specs.FactOrder.{Facts}
use Rattle.cr_binding.specs.Source.{Source}
use Rattle.cr_binding.specs.State.{State}
use Rattle.cr_declared.specs.declared.rows.Row.{Row}
use Rattle.cr_declared.specs.declared.rows.UseRow.{UseRow}
use Rattle.cr_declared.specs.declared.rows.Slot.{Slot}
use Rattle.cr_groups.specs.declared.groups.Group.{Group}
use Rattle.cr_groups.specs.Adding.{Adds}
use Rattle.cr_groups.specs.Rows.{AreGroups}
use Rattle.cr_groups.proofs.Shown.{Views}
use Rattle.cr_conflicts.specs.Leasts.{AreLeastOf}
use Rattle.cr_conflicts.specs.Pairs.{AreLeast, FirstPairsAdd, IsOfPair}
use Rattle.cr_conflicts.specs.BothLinked.{LinkedAdds, IsOfLinked}
use Rattle.cr_groups.proofs.Added.{adds_same, adds_both}
use Rattle.cr_conflicts.proofs.Lowest.{all_least}
use Rattle.cr_conflicts.proofs.Paired.{pairs_from, pairs_to}
use Rattle.cr_conflicts.proofs.Bound.{linked_from, linked_to}

pub declarations_told : (unit : ℕ) (t : Source) (s : State) (old new : Name) (ps : List (List ℕ)) (rows : List Row) (uses : List UseRow) (es : List (Slot × Group)) (least : Slot → Option ℕ) (before mid after : Facts)
    → Views t s ps rows uses → AreGroups unit t s old new rows es → AreLeastOf old new rows least (length rows)
    → Adds before mid (FirstPairsAdd old new t.tokens rows es least (length rows)) → Adds mid after (LinkedAdds old new t.tokens rows es)
    → Adds before after (λ f. IsOfPair unit t s old new f ⊎ IsOfLinked unit t s old new f)
declarations_told unit t s old new ps rows uses es least before mid after shown groups lows h g =
    let low : AreLeast old new rows least = all_least old new rows least lows in
    adds_both before mid after (IsOfPair unit t s old new) (IsOfLinked unit t s old new)
    (adds_same before mid (FirstPairsAdd old new t.tokens rows es least (length rows)) (IsOfPair unit t s old new)
    (λ f a. pairs_from unit t s old new ps rows uses es least shown groups low f (a.0, a.1, a.3, a.4))
    (λ f a. let r = pairs_to unit t s old new ps rows uses es least shown groups low f a in (r.0, r.1, slice_get_within rows r.0 r.1 r.2, r.2, r.3))
    h)
    (adds_same mid after (LinkedAdds old new t.tokens rows es) (IsOfLinked unit t s old new)
    (λ f a. linked_from unit t s old new ps rows uses es shown groups f a)
    (λ f a. linked_to unit t s old new ps rows uses es shown groups f a)
    g)
