-- (e) Whether a name is a typedef name was asked and denied: what the answer would be after a renaming, as the rows tell it.
use Rattle.std.specs.Prelude.{◌≡◌, ◌⊎◌, ◌↔◌, ℕ, ◌<◌, ◌≤◌, Bool, true, false, ◌||◌, cond, Option, Some, None, List, length, slice_get}
use Rattle.cr_base.specs.declared.token.Name.{Name}
use Rattle.cr_base.specs.declared.token.Place.{Place}
use Rattle.cr_base.specs.declared.token.Tok.{Tok}
use Rattle.cr_base.specs.declared.key.Key.{Key}
use Rattle.cr_scope.specs.declared.Space.TheVariants as space
use Rattle.cr_scope.specs.Declarations.{Flat, same_name}
use Rattle.cr_capture.specs.declared.Mention.TheVariants as mention
use Rattle.cr_capture.specs.Conflicts.{Pair, IsConflict}
use Rattle.cr_facts.specs.declared.fact.Fact.{Fact}
use Rattle.cr_facts.specs.declared.fact.Fact.TheVariants as fact
use Rattle.cr_binding.specs.Source.{Source}
use Rattle.cr_binding.specs.State.{Declaration, State}
use Rattle.cr_binding.specs.Keys.{declaration_key}
use Rattle.cr_binding.specs.UnitConflicts.{place_at, Mentions, declaration_of}
use Rattle.cr_paths.specs.Paths.{path_at}
use Rattle.cr_declared.specs.declared.rows.Row.{Row}
use Rattle.cr_declared.specs.declared.rows.UseRow.{UseRow}
use Rattle.cr_declared.specs.declared.rows.UseRow.TheVariants as row
use Rattle.cr_declared.specs.declared.rows.Slot.{Slot}
use Rattle.cr_declared.specs.Rows.{slot, slot_of}
use Rattle.cr_groups.specs.declared.groups.Group.{Group}
use Rattle.cr_groups.specs.declared.groups.Sort.TheVariants as sort
use Rattle.cr_conflicts.specs.declared.asks.ByToken.{ByToken}
use Rattle.cr_groups.specs.Firsts.{IsFirstOf, AreFirsts}
use Rattle.cr_groups.specs.Groups.{find_group}
use Rattle.cr_groups.specs.Nearest.{IsFoundAt, IsNearest}
use Rattle.cr_groups.specs.Outward.{Encloses, IsHere, limit_over}
use Rattle.cr_groups.specs.Rows.{name_in, place_in}

-- a name among the ordinary identifiers of a scope (C11 6.2.3)
abbrev pub ordinary : ℕ → Name → Slot
ordinary path name = slot path space.Ordinary name

-- the scopes around that have the name are less deep
abbrev pub IsOver : List (List ℕ) → List (Slot × Group) → Slot → ℕ → ℕ → Type 0
IsOver ps es s before d =
    (p : ℕ) → Encloses ps p s.path → IsFoundAt es s before sort.Any p → length (path_at ps p) < d

-- what is as deep as this is over all scopes around that have the name
abbrev pub IsTop : List (List ℕ) → List (Slot × Group) → Slot → ℕ → Option ℕ → Type 0
IsTop ps es s before r = (d : ℕ) → (limit_over r ≤ d) ↔ IsOver ps es s before d

-- a typedef of old in a deeper scope than every declaration of new
abbrev pub IsTypedefOver : List (List ℕ) → List (Slot × Group) → (old new : Name) → ℕ → ℕ → Place → Fact → Type 0
IsTypedefOver ps es old new path before site f =
    (q : ℕ) × Encloses ps q path × IsOver ps es (ordinary path new) before (length (path_at ps q))
    × IsHere es (ordinary q old) before sort.Typedef site f

-- something else of old in a deeper scope than some typedef of old
abbrev pub IsOverTypedef : List (List ℕ) → List (Slot × Group) → Name → ℕ → ℕ → Place → Fact → Type 0
IsOverTypedef ps es old path before site f =
    (q : ℕ) × Encloses ps q path × IsHere es (ordinary q old) before sort.Other site f
    × ((p : ℕ) × Encloses ps p path × (length (path_at ps p) < length (path_at ps q)) × IsFoundAt es (ordinary path old) before sort.Typedef p)

abbrev pub IsOfTypedef : List (Slot × Group) → Slot → Type 0
IsOfTypedef es a = (g : Group) × (find_group a es ≡ Some g) × (g.is_typedef ≡ true)

-- the innermost declarations of the name are of a typedef name
abbrev pub IsTypeName : List (List ℕ) → List (Slot × Group) → Name → ℕ → ℕ → Type 0
IsTypeName ps es name path before =
    (q : ℕ) × IsNearest ps es (ordinary path name) before sort.Any q × IsOfTypedef es (ordinary q name)

-- ---- uses and declarations by their tokens

-- the token of a use that declares a parameter, or denotes what is built in, where it has one of the names
abbrev pub if_named : List Tok → (old new : Name) → ℕ → Option ℕ
if_named tokens old new i =
    cond (same_name (name_in tokens i) old || same_name (name_in tokens i) new) (Some i) None

abbrev pub parameter_token : List Tok → (old new : Name) → UseRow → Option ℕ
parameter_token tokens old new (row.IsParameter i) = if_named tokens old new i
parameter_token tokens old new _ = None

abbrev pub built_in_token : List Tok → (old new : Name) → UseRow → Option ℕ
built_in_token tokens old new (row.IsBuiltIn i) = if_named tokens old new i
built_in_token tokens old new _ = None

-- these uses have tokens
abbrev pub HasToken : List Tok → UseRow → Type 0
HasToken tokens (row.IsParameter i) = i < length tokens
HasToken tokens (row.IsBuiltIn i) = i < length tokens
HasToken tokens _ = Unit {0}

abbrev pub HaveTokens : List Tok → List UseRow → Type 0
HaveTokens tokens uses = (j : ℕ) (u : UseRow) → slice_get uses j ≡ Some u → HasToken tokens u

-- the token of a declaration of a name
abbrev pub token_of_name : Name → Row → Option ℕ
token_of_name name x = cond (same_name x.decl.name name) (Some x.decl.token) None

-- what is found by tokens
pub record AreByToken (tokens : List Tok) (rows : List Row) (uses : List UseRow) (old new : Name) (found : ByToken) : Type 0 where
  pub parameters : AreFirsts (parameter_token tokens old new) uses found.parameters.entries (length uses)
  pub built_ins : AreFirsts (built_in_token tokens old new) uses found.built_ins.entries (length uses)
  pub declared : AreFirsts (token_of_name old) rows found.declared.entries (length rows)

-- the unit has this use
abbrev pub HasUse : List UseRow → UseRow → Type 0
HasUse uses u = (j : ℕ) × (slice_get uses j ≡ Some u)

-- a conflict of the first declaration of old at a token
abbrev pub IsOfToken : List Row → List (Slot × Group) → Name → ℕ → Place → Fact → Type 0
IsOfToken rows es old i site f =
    (c : ℕ) × (first : IsFirstOf (token_of_name old) rows (length rows) i c) × (g : Group)
    × (find_group (slot_of first.itself.0) es ≡ Some g) × (f ≡ fact.Conflict g.key site)

-- ---- what an ask adds

-- the token is old: what no longer is hidden, and where it declares a parameter, what that would be or would follow
abbrev pub OldAdds : List (List ℕ) → List Row → List (Slot × Group) → (old new : Name) → ℕ → ℕ → ℕ → Place → (parameter : Type 0) → Fact → Type 0
OldAdds ps rows es old new i path before site parameter f =
    IsOverTypedef ps es old path before site f
    ⊎ (parameter × ((IsTypeName ps es new path before × IsOfToken rows es old i site f) ⊎ IsTypedefOver ps es old new path before site f))

-- an ask that was denied, of a token that declares a parameter or denotes what is built in
abbrev pub DeniedAdds : List Tok → List (List ℕ) → List Row → List (Slot × Group) → (old new : Name) → ℕ → ℕ → ℕ → (parameter : Type 0) → Fact → Type 0
DeniedAdds tokens ps rows es old new i path before parameter f =
    ((name_in tokens i ≡ new) × IsTypedefOver ps es old new path before (place_in tokens i) f)
    ⊎ ((name_in tokens i ≡ old) × OldAdds ps rows es old new i path before (place_in tokens i) parameter f)

abbrev pub AnswerAdds : List Tok → List (List ℕ) → List Row → List (Slot × Group) → (old new : Name) → List UseRow → ℕ → ℕ → ℕ → Bool → Fact → Type 0
AnswerAdds tokens ps rows es old new uses i path before true f = ⊥
AnswerAdds tokens ps rows es old new uses i path before false f =
    (HasUse uses (row.IsParameter i) ⊎ HasUse uses (row.IsBuiltIn i))
    × DeniedAdds tokens ps rows es old new i path before (HasUse uses (row.IsParameter i)) f

abbrev pub AskAdds : List Tok → List (List ℕ) → List Row → List (Slot × Group) → (old new : Name) → List UseRow → UseRow → Fact → Type 0
AskAdds tokens ps rows es old new uses (row.WasAsked i path before answer) f =
    AnswerAdds tokens ps rows es old new uses i path before answer f
AskAdds tokens ps rows es old new uses _ f = ⊥

-- ---- as it is meant

abbrev pub IsOfAsked : ℕ → Source → State → (old new : Name) → Fact → Type 0
IsOfAsked unit t s old new fa =
    (k : Key) × (p : Place) × (f : Flat) × (name : Name) × (i : ℕ) × (parameter : Bool) × (x : Pair) × (d : Declaration)
    × (fa ≡ fact.Conflict k p) × Mentions t s f (mention.Asked name i parameter)
    × IsConflict f old new x (mention.Asked name i parameter)
    × (declaration_of s x ≡ Some d) × (k ≡ declaration_key unit t s d) × (p ≡ place_at t x.1)
