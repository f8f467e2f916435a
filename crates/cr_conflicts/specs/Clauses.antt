-- The clauses on conflicts: what is told by the rows, and what is meant.
use Rattle.std.specs.Prelude.{◌≡◌, ◌⊎◌, ℕ, ◌+◌, ◌<◌, Option, Some, None, List, length, slice_get, MatchOption}
use Rattle.cr_base.specs.declared.token.Name.{Name}
use Rattle.cr_base.specs.declared.token.Place.{Place}
use Rattle.cr_base.specs.declared.token.Tok.{Tok}
use Rattle.cr_base.specs.declared.key.Key.{Key}
use Rattle.cr_scope.specs.declared.Space.{Space}
use Rattle.cr_scope.specs.declared.DeclNo.{DeclNo}
use Rattle.cr_scope.specs.Declarations.{Flat, number}
use Rattle.cr_capture.specs.Conflicts.{Pair, IsCaptured, IsHidden, IsConflict}
use Rattle.cr_capture.specs.declared.Mention.TheVariants as mention
use Rattle.cr_facts.specs.declared.fact.Fact.{Fact}
use Rattle.cr_facts.specs.declared.fact.Fact.TheVariants as fact
use Rattle.cr_binding.specs.Source.{Source, name_at}
use Rattle.cr_binding.specs.State.{Declaration, State}
use Rattle.cr_binding.specs.Keys.{declaration_key}
use Rattle.cr_binding.specs.UnitConflicts.{place_at, AreScopesAt, made_by, Mentions, declaration_of}
use Rattle.cr_paths.specs.Paths.{path_at}
use Rattle.cr_declared.specs.declared.rows.Row.{Row}
use Rattle.cr_declared.specs.declared.rows.UseRow.{UseRow}
use Rattle.cr_declared.specs.declared.rows.UseRow.TheVariants as row
use Rattle.cr_declared.specs.declared.rows.Slot.{Slot}
use Rattle.cr_groups.specs.declared.groups.Group.{Group}
use Rattle.cr_groups.specs.declared.groups.Sort.TheVariants as sort
use Rattle.cr_declared.specs.Rows.{slot}
use Rattle.cr_groups.specs.Outward.{IsAround, IsHere}
use Rattle.cr_groups.specs.Nearest.{IsNearest, ShowsFrom}
use Rattle.cr_groups.specs.Rows.{name_in, place_in}

abbrev pub limit_by : List (List ℕ) → Option Row → ℕ
limit_by ps None = 0
limit_by ps (Some x) = 1 + length (path_at ps x.path)

-- the least depth of what is deeper than what is denoted
abbrev pub limit_of : List (List ℕ) → List Row → Option ℕ → ℕ
limit_of ps rows None = 0
limit_of ps rows (Some c) = limit_by ps (slice_get rows c)

-- (a) by the rows
abbrev pub Captures : List Tok → List (List ℕ) → List Row → List (Slot × Group) → (old new : Name) → Space → ℕ → ℕ → ℕ → Option ℕ → Fact → Type 0
Captures tokens ps rows es old new sp i path before denoted f =
    (name_in tokens i ≡ new)
    × IsAround ps es (slot path sp old) (made_by denoted before) (limit_of ps rows denoted) sort.Any (place_in tokens i) f

abbrev pub floor_by : List (List ℕ) → Option Row → ℕ
floor_by ps None = 0
floor_by ps (Some x) = length (path_at ps x.path)

-- the depth of what is denoted
abbrev pub floor_of : List (List ℕ) → List Row → Option ℕ → ℕ
floor_of ps rows None = 0
floor_of ps rows (Some c) = floor_by ps (slice_get rows c)

-- the scope of what is denoted, or of the tag that is declared
abbrev pub IsMeantAt : List (List ℕ) → List Row → List (Slot × Group) → Slot → ℕ → Option ℕ → ℕ → Type 0
IsMeantAt ps rows es s before None q = IsNearest ps es s before sort.Any q
IsMeantAt ps rows es s before (Some c) q = (x : Row) × (slice_get rows c ≡ Some x) × (q ≡ x.path)

-- the number that something holds of, and of no other one
abbrev pub IsTheOne : (ℕ → Type 0) → Option ℕ → Type 0
IsTheOne P r = MatchOption r ((q : ℕ) → P q → ⊥) (λ q. P q × ((p : ℕ) → P p → p ≡ q))

-- (b) by the rows
abbrev pub Hides : List Tok → List (List ℕ) → List Row → List (Slot × Group) → (old new : Name) → Space → ℕ → ℕ → ℕ → Option ℕ → Fact → Type 0
Hides tokens ps rows es old new sp i path before denoted f =
    (name_in tokens i ≡ old)
    × ShowsFrom ps es (slot path sp new) (made_by denoted before) (floor_of ps rows denoted)
    × ((q : ℕ) × IsMeantAt ps rows es (slot path sp old) (made_by denoted before) denoted q
    × IsHere es (slot q sp old) (made_by denoted before) sort.Any (place_in tokens i) f)

-- what a use adds
abbrev pub UseAdds : List Tok → List (List ℕ) → List Row → List (Slot × Group) → (old new : Name) → UseRow → Fact → Type 0
UseAdds tokens ps rows es old new (row.LookedUp sp i path before denoted) f =
    Captures tokens ps rows es old new sp i path before denoted f ⊎ Hides tokens ps rows es old new sp i path before denoted f
UseAdds tokens ps rows es old new _ f = ⊥

-- what the first n uses add
abbrev pub UsesAdd : List Tok → List (List ℕ) → List Row → List (Slot × Group) → (old new : Name) → List UseRow → ℕ → Fact → Type 0
UsesAdd tokens ps rows es old new uses n f =
    (j : ℕ) × (u : UseRow) × (j < n) × (slice_get uses j ≡ Some u) × UseAdds tokens ps rows es old new u f

-- a conflict of a declaration at a token, under some condition on scopes and declaration
abbrev pub IsConflictAt : ℕ → Source → State → ℕ → (Flat → DeclNo → Type 0) → Fact → Type 0
IsConflictAt unit t s i C f =
    (k : Key) × (p : Place) × (scopes : Flat) × (d : DeclNo) × (e : Declaration) × (f ≡ fact.Conflict k p) × C scopes d
    × (slice_get s.declarations (number d) ≡ Some e) × (k ≡ declaration_key unit t s e) × (p ≡ place_at t i)

-- (a) as it is meant
abbrev pub IsCapturedBy : ℕ → Source → State → (old new : Name) → Space → ℕ → List ℕ → ℕ → Option DeclNo → Fact → Type 0
IsCapturedBy unit t s old new sp i path before denoted f =
    IsConflictAt unit t s i (λ scopes d. AreScopesAt t s path (made_by denoted before) scopes × IsCaptured scopes old new sp (name_at t i) denoted d) f

-- (b) as it is meant
abbrev pub IsHiddenBy : ℕ → Source → State → (old new : Name) → Space → ℕ → List ℕ → ℕ → Option DeclNo → Fact → Type 0
IsHiddenBy unit t s old new sp i path before denoted f =
    IsConflictAt unit t s i (λ scopes d. AreScopesAt t s path (made_by denoted before) scopes × IsHidden scopes old new sp (name_at t i) denoted d) f

-- ---- all mentions that are looked up

-- a conflict of a mention of a name, as `Conflicts` of a unit has it
abbrev pub IsOfMention : ℕ → Source → State → (old new : Name) → Fact → Type 0
IsOfMention unit t s old new fa =
    (k : Key) × (p : Place) × (f : Flat) × (sp : Space) × (name : Name) × (i : ℕ) × (den : Option DeclNo) × (x : Pair) × (d : Declaration)
    × (fa ≡ fact.Conflict k p) × Mentions t s f (mention.Named sp name i den) × IsConflict f old new x (mention.Named sp name i den)
    × (declaration_of s x ≡ Some d) × (k ≡ declaration_key unit t s d) × (p ≡ place_at t x.1)
