-- How the least tokens of slots are gathered.
use Rattle.std.specs.Prelude.{◌≡◌, ◌⊎◌, ℕ, ◌<◌, ◌≤◌, true, cond, nat_lt, if◌then◌else◌, Option, Some, None, List, slice_get, MatchOption}
use Rattle.cr_base.specs.declared.token.Name.{Name}
use Rattle.cr_declared.specs.declared.rows.Row.{Row}
use Rattle.cr_declared.specs.declared.rows.Slot.{Slot}
use Rattle.cr_declared.specs.Rows.{same_slot, slot_of, is_in}
use Rattle.cr_groups.specs.Rows.{IsOneOf}
use Rattle.cr_conflicts.specs.Pairs.{find_least}

abbrev pub lower : Option ℕ → ℕ → ℕ
lower None i = i
lower (Some k) i = if nat_lt k i then k else i

abbrev pub AddsLeast : (old new : Name) → Row → List (Slot × ℕ) → List (Slot × ℕ) → Type 0
AddsLeast old new x es es' =
    (IsOneOf old new x.decl.name × ((a : Slot) → find_least es' a ≡ cond (same_slot a (slot_of x)) (Some (lower (find_least es (slot_of x)) x.decl.token)) (find_least es a)))
    ⊎ ((IsOneOf old new x.decl.name → ⊥) × (es' ≡ es))

pub record IsLeastOf (rows : List Row) (n : ℕ) (a : Slot) (m : ℕ) : Type 0 where
  pub least : (j : ℕ) (x : Row) → j < n → slice_get rows j ≡ Some x → is_in a x ≡ true → m ≤ x.decl.token
  pub reached : (j : ℕ) × (x : Row) × (j < n) × (slice_get rows j ≡ Some x) × (is_in a x ≡ true) × (m ≡ x.decl.token)

-- the least tokens among the first n rows
abbrev pub AreLeastOf : (old new : Name) → List Row → (Slot → Option ℕ) → ℕ → Type 0
AreLeastOf old new rows least n =
    (a : Slot) → IsOneOf old new a.name
    → MatchOption (least a) ((j : ℕ) (x : Row) → j < n → slice_get rows j ≡ Some x → is_in a x ≡ true → ⊥) (IsLeastOf rows n a)
