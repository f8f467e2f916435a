-- (d) Both names have linkage.
use Rattle.std.specs.Prelude.{◌≡◌, ℕ, Some, List, position, slice_get, max}
use Rattle.cr_base.specs.declared.token.Name.{Name}
use Rattle.cr_base.specs.declared.token.Place.{Place}
use Rattle.cr_base.specs.declared.token.Tok.{Tok}
use Rattle.cr_base.specs.declared.key.Key.{Key}
use Rattle.cr_scope.specs.declared.DeclNo.{DeclNo}
use Rattle.cr_scope.specs.Declarations.{Flat, number}
use Rattle.cr_capture.specs.declared.Mention.TheVariants as mention
use Rattle.cr_capture.specs.Conflicts.{AreBothLinked}
use Rattle.cr_facts.specs.declared.fact.Fact.{Fact}
use Rattle.cr_facts.specs.declared.fact.Fact.TheVariants as fact
use Rattle.cr_binding.specs.Source.{Source}
use Rattle.cr_binding.specs.State.{Declaration, State}
use Rattle.cr_binding.specs.Keys.{declaration_key}
use Rattle.cr_binding.specs.UnitConflicts.{place_at, Mentions}
use Rattle.cr_declared.specs.declared.rows.Row.{Row}
use Rattle.cr_declared.specs.declared.rows.Slot.{Slot}
use Rattle.cr_groups.specs.declared.groups.Group.{Group}
use Rattle.cr_groups.specs.Groups.{find_group}
use Rattle.cr_groups.specs.Rows.{place_in}
use Rattle.cr_declared.specs.Rows.{slot_of}
use Rattle.cr_groups.specs.Built.{is_linked_row}

abbrev pub LinkedAdds : (old new : Name) → List Tok → List Row → List (Slot × Group) → Fact → Type 0
LinkedAdds old new tokens rows es fa =
    (i : ℕ) × (j : ℕ) × (x : Row) × (y : Row) × (g : Group) × (position (is_linked_row old) rows ≡ Some i) × (position (is_linked_row new) rows ≡ Some j)
    × (slice_get rows i ≡ Some x) × (slice_get rows j ≡ Some y) × (find_group (slot_of x) es ≡ Some g)
    × (fa ≡ fact.Conflict g.key (place_in tokens (max x.decl.token y.decl.token)))

abbrev pub IsOfLinked : ℕ → Source → State → (old new : Name) → Fact → Type 0
IsOfLinked unit t s old new fa =
    (k : Key) × (p : Place) × (f : Flat) × (c : DeclNo) × (d : DeclNo) × (token : ℕ) × (e : Declaration)
    × (fa ≡ fact.Conflict k p) × Mentions t s f (mention.Declared c) × AreBothLinked f old new c d token
    × (slice_get s.declarations (number d) ≡ Some e) × (k ≡ declaration_key unit t s e) × (p ≡ place_at t token)
