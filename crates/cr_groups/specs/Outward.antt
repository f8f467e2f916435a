-- The groups of a name in the scopes around a place.
use Rattle.std.specs.Prelude.{◌≡◌, ℕ, ◌<◌, ◌≤◌, Bool, true, not, ◌+◌, Option, Some, None, List, length}
use Rattle.cr_base.specs.declared.token.Place.{Place}
use Rattle.cr_scope.specs.Declarations.{is_prefix}
use Rattle.cr_facts.specs.declared.fact.Fact.{Fact}
use Rattle.cr_facts.specs.declared.fact.Fact.TheVariants as fact
use Rattle.cr_paths.specs.Paths.{path_at}
use Rattle.cr_declared.specs.declared.rows.Slot.{Slot}
use Rattle.cr_groups.specs.declared.groups.Sort.{Sort}
use Rattle.cr_groups.specs.declared.groups.Sort.TheVariants as sort
use Rattle.cr_groups.specs.declared.groups.Group.{Group}
use Rattle.cr_declared.specs.Rows.{slot}
use Rattle.cr_groups.specs.Groups.{find_group}

-- which groups are meant: all, those of typedef names, or those of anything else
abbrev pub is_of : Bool → Sort → Bool
is_of b sort.Any = true
is_of b sort.Typedef = b
is_of b sort.Other = not b

-- a declaration before a number is in the slot, and it is of a sort
abbrev pub IsFound : List (Slot × Group) → Slot → ℕ → Sort → Group → Type 0
IsFound es s before what g = (find_group s es ≡ Some g) × (g.first < before) × (is_of g.is_typedef what ≡ true)

-- the fact is a conflict of its entity
abbrev pub IsHere : List (Slot × Group) → Slot → ℕ → Sort → Place → Fact → Type 0
IsHere es s before what site f = (g : Group) × IsFound es s before what g × (f ≡ fact.Conflict g.key site)

abbrev pub Encloses : List (List ℕ) → ℕ → ℕ → Type 0
Encloses ps q place = (q < length ps) × (is_prefix (path_at ps q) (path_at ps place) ≡ true)

abbrev pub beside : ℕ → Slot → Slot
beside q s = slot q s.space s.name

-- a fact of a scope around that is at least so deep
abbrev pub Around : List (List ℕ) → ℕ → ℕ → (ℕ → Fact → Type 0) → Fact → Type 0
Around ps place limit Here f = (q : ℕ) × Encloses ps q place × (limit ≤ length (path_at ps q)) × Here q f

abbrev pub IsAround : List (List ℕ) → List (Slot × Group) → Slot → ℕ → ℕ → Sort → Place → Fact → Type 0
IsAround ps es s before limit what site f = Around ps s.path limit (λ q. IsHere es (beside q s) before what site) f

-- the least depth of what is deeper than a scope, or of anything
abbrev pub limit_over : Option ℕ → ℕ
limit_over None = 0
limit_over (Some d) = 1 + d
