-- What is so of the uses, the declarations, the members and the records of a well-formed unit.
use Rattle.std.specs.Prelude.{◌≡◌, ℕ, ◌<◌, ◌≤◌, true, Option, Some, None, List, length, slice_get, Contains}
use Rattle.cr_ll.specs.Derivation.{Trees}
use Rattle.cr_scope.specs.declared.Space.{Space}
use Rattle.cr_scope.specs.Declarations.{is_prefix}
use Rattle.cr_binding.specs.Source.{Source, name_at}
use Rattle.cr_binding.specs.State.{Declaration, Record, Member, Use, LookedUp, GoesTo, Selects, IsBuiltIn, IsParameter, WasAsked}
use Rattle.cr_binding.specs.Binding.{bound}
use Rattle.cr_binding.specs.WellFormed.{IsWellFormed}

abbrev pub IsToken : Source → ℕ → Type 0
IsToken t i = i < length t.tokens

-- ---- uses

-- What a name denotes was declared before, under this name, and is visible (C11 6.2.1p4). A tag that denotes nothing is
-- declared itself (6.7.2.3p8).
abbrev pub IsDenoted : Source → List Declaration → Space → ℕ → List ℕ → ℕ → Option ℕ → Type 0
IsDenoted t ds sp i path before None = before < length ds
IsDenoted t ds sp i path before (Some c) =
    (c < before) × (d : Declaration) × (slice_get ds c ≡ Some d) × (d.space ≡ sp) × (name_at t d.token ≡ name_at t i)
    × (is_prefix d.path path ≡ true)

-- the declaration of a label has the name that goes to it
abbrev pub IsLabelled : Source → List Declaration → ℕ → ℕ → Type 0
IsLabelled t ds i label = (d : Declaration) × (slice_get ds label ≡ Some d) × (name_at t d.token ≡ name_at t i)

-- a use has a token, and denotes what it names
abbrev pub IsSound : Source → List Declaration → Use → Type 0
IsSound t ds (LookedUp sp i path before denoted) =
    IsToken t i × (before ≤ length ds) × IsDenoted t ds sp i path before denoted
IsSound t ds (GoesTo i label) = IsToken t i × IsLabelled t ds i label
IsSound t ds (Selects i member) = IsToken t i × IsToken t member
IsSound t ds (IsBuiltIn i) = IsToken t i
IsSound t ds (IsParameter i) = IsToken t i
IsSound t ds (WasAsked i path before answer) = IsToken t i × (before ≤ length ds)

abbrev pub UsesAreSound : Type 0
UsesAreSound =
    (t : Source) (tree : Trees) → IsWellFormed t tree
    → (u : Use) → Contains (bound t tree).uses u → IsSound t (bound t tree).declarations u

-- ---- tokens

-- What is declared has a token,
abbrev pub DeclarationsAreAtTokens : Type 0
DeclarationsAreAtTokens =
    (t : Source) (tree : Trees) → IsWellFormed t tree
    → (d : Declaration) → Contains (bound t tree).declarations d → IsToken t d.token

-- and so has a member, which is written in a record of the unit.
abbrev pub MembersAreAtTokens : Type 0
MembersAreAtTokens =
    (t : Source) (tree : Trees) → IsWellFormed t tree
    → (m : Member) → Contains (bound t tree).members m → IsToken t m.token × (m.own < length (bound t tree).records)

-- A record begins at a token, which is its tag or its brace.
abbrev pub RecordsAreAtTokens : Type 0
RecordsAreAtTokens =
    (t : Source) (tree : Trees) → IsWellFormed t tree
    → (r : Record) → Contains (bound t tree).records r → IsToken t r.token

-- What stands in the brackets of attributes are tokens.
abbrev pub HiddenAreTokens : Type 0
HiddenAreTokens =
    (t : Source) (tree : Trees) → IsWellFormed t tree → (i : ℕ) → Contains (bound t tree).hidden i → IsToken t i

-- ---- members

-- no two members of one record have one name (C11 6.7.2.1, 6.2.3)
abbrev pub AreUnique : Source → List Member → Type 0
AreUnique t ms =
    (i j : ℕ) (m n : Member) → slice_get ms i ≡ Some m → slice_get ms j ≡ Some n
    → m.holder ≡ n.holder → name_at t m.token ≡ name_at t n.token → i ≡ j

abbrev pub MembersAreUnique : Type 0
MembersAreUnique = (t : Source) (tree : Trees) → IsWellFormed t tree → AreUnique t (bound t tree).members
