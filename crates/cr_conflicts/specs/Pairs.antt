-- (c) Two declarations of one scope and name space, of which one is of old and the other of new.
use Rattle.std.specs.Prelude.{◌≡◌, ◌⊎◌, ◌↔◌, ℕ, ◌<◌, ◌≤◌, true, Option, Some, List, slice_get, MatchOption}
use Rattle.std.specs.Map.{lookup}
use Rattle.cr_base.specs.declared.token.Name.{Name}
use Rattle.cr_base.specs.declared.token.Place.{Place}
use Rattle.cr_base.specs.declared.token.Tok.{Tok}
use Rattle.cr_base.specs.declared.key.Key.{Key}
use Rattle.cr_scope.specs.declared.DeclNo.{DeclNo}
use Rattle.cr_scope.specs.Declarations.{Flat, number}
use Rattle.cr_capture.specs.declared.Mention.TheVariants as mention
use Rattle.cr_capture.specs.Conflicts.{Collides}
use Rattle.cr_facts.specs.declared.fact.Fact.{Fact}
use Rattle.cr_facts.specs.declared.fact.Fact.TheVariants as fact
use Rattle.cr_binding.specs.Source.{Source}
use Rattle.cr_binding.specs.State.{Declaration, State}
use Rattle.cr_binding.specs.Keys.{declaration_key}
use Rattle.cr_binding.specs.UnitConflicts.{place_at, Mentions}
use Rattle.cr_declared.specs.declared.rows.Row.{Row}
use Rattle.cr_declared.specs.declared.rows.Slot.{Slot}
use Rattle.cr_groups.specs.declared.groups.Group.{Group}
use Rattle.cr_declared.specs.Rows.{slot, same_slot, is_in}
use Rattle.cr_groups.specs.Groups.{find_group}
use Rattle.cr_groups.specs.Rows.{IsOneOf, place_in}

-- the least token of a slot
pub record IsLeast (rows : List Row) (a : Slot) (m : ℕ) : Type 0 where
  pub least : (j : ℕ) (x : Row) → slice_get rows j ≡ Some x → is_in a x ≡ true → m ≤ x.decl.token
  pub reached : (j : ℕ) × (x : Row) × (slice_get rows j ≡ Some x) × (is_in a x ≡ true) × (m ≡ x.decl.token)

abbrev pub AreLeast : (old new : Name) → List Row → (Slot → Option ℕ) → Type 0
AreLeast old new rows least =
    (a : Slot) → IsOneOf old new a.name
    → MatchOption (least a) ((j : ℕ) (x : Row) → slice_get rows j ≡ Some x → is_in a x ≡ true → ⊥) (IsLeast rows a)

-- the slot of a row, under another name
abbrev pub named : Name → Row → Slot
named name x = slot x.path x.decl.space name

-- a row that has a declaration of the other name beside it, whose token isn't greater
abbrev pub PairAdds : (old new : Name) → List Tok → List (Slot × Group) → (Slot → Option ℕ) → Row → Fact → Type 0
PairAdds old new tokens es least x fa =
    (g : Group) × (m : ℕ) × (find_group (named old x) es ≡ Some g)
    × (((x.decl.name ≡ old) × (least (named new x) ≡ Some m)) ⊎ ((x.decl.name ≡ new) × (least (named old x) ≡ Some m)))
    × (m ≤ x.decl.token) × (fa ≡ fact.Conflict g.key (place_in tokens x.decl.token))

abbrev pub PairsAdd : (old new : Name) → List Tok → List Row → List (Slot × Group) → (Slot → Option ℕ) → Fact → Type 0
PairsAdd old new tokens rows es least fa = (j : ℕ) × (x : Row) × (slice_get rows j ≡ Some x) × PairAdds old new tokens es least x fa

-- as it is meant
abbrev pub IsOfPair : ℕ → Source → State → (old new : Name) → Fact → Type 0
IsOfPair unit t s old new fa =
    (k : Key) × (p : Place) × (f : Flat) × (c : DeclNo) × (d : DeclNo) × (token : ℕ) × (e : Declaration)
    × (fa ≡ fact.Conflict k p) × Mentions t s f (mention.Declared c) × Collides f old new c d token
    × (slice_get s.declarations (number d) ≡ Some e) × (k ≡ declaration_key unit t s e) × (p ≡ place_at t token)

abbrev pub find_least : List (Slot × ℕ) → Slot → Option ℕ
find_least es a = lookup (same_slot a) es

-- the least token of the other name
abbrev pub IsBeside : (old new : Name) → (Slot → Option ℕ) → Row → Option ℕ → Type 0
IsBeside old new least x r =
    (m : ℕ) → (r ≡ Some m) ↔ (((x.decl.name ≡ old) × (least (named new x) ≡ Some m)) ⊎ ((x.decl.name ≡ new) × (least (named old x) ≡ Some m)))

-- a conflict of the group of a slot
abbrev pub IsAt : List (Slot × Group) → Slot → Place → Fact → Type 0
IsAt es a site f = (g : Group) × (find_group a es ≡ Some g) × (f ≡ fact.Conflict g.key site)

-- what the first n rows add
abbrev pub FirstPairsAdd : (old new : Name) → List Tok → List Row → List (Slot × Group) → (Slot → Option ℕ) → ℕ → Fact → Type 0
FirstPairsAdd old new tokens rows es least n fa =
    (j : ℕ) × (x : Row) × (j < n) × (slice_get rows j ≡ Some x) × PairAdds old new tokens es least x fa
