-- What the rows of a unit show of what is bound, and what is known of the groups of declarations of two names.
use Rattle.std.specs.Prelude.{◌≡◌, ◌⊎◌, ℕ, ◌<◌, ◌≤◌, true, Option, Some, None, List, length, map, slice_get, slice_index_or}
use Rattle.cr_base.specs.declared.token.Name.{Name}
use Rattle.cr_base.specs.declared.token.Tok.{Tok}
use Rattle.cr_base.specs.declared.token.Place.{Place}
use Rattle.cr_scope.specs.declared.Space.{Space}
use Rattle.cr_scope.specs.Declarations.{is_prefix}
use Rattle.cr_binding.specs.Source.{Source, no_token}
use Rattle.cr_binding.specs.State.{Declaration, Use, LookedUp, GoesTo, Selects, IsBuiltIn, IsParameter, WasAsked, State}
use Rattle.cr_binding.specs.Entities.{entry, is_typedef_kind}
use Rattle.cr_binding.specs.Keys.{declaration_key}
use Rattle.cr_binding.specs.UnitConflicts.{place_by}
use Rattle.cr_paths.specs.Paths.{path_at}
use Rattle.cr_declared.specs.declared.rows.Row.{Row}
use Rattle.cr_declared.specs.declared.rows.UseRow.{UseRow}
use Rattle.cr_declared.specs.declared.rows.UseRow.TheVariants as row
use Rattle.cr_declared.specs.declared.rows.Slot.{Slot}
use Rattle.cr_declared.specs.Rows.{entry_of, is_in}
use Rattle.cr_groups.specs.declared.groups.Group.{Group}
use Rattle.cr_groups.specs.Groups.{find_group}

-- ---- tokens

abbrev pub source_of : List (List ℕ) → List Tok → Source
source_of texts tokens = record { texts = texts; tokens = tokens }

abbrev pub name_in : List Tok → ℕ → Name
name_in tokens i = (slice_index_or tokens i no_token).text

abbrev pub place_in : List Tok → ℕ → Place
place_in tokens i = place_by (slice_index_or tokens i no_token).site (slice_index_or tokens i no_token).origin

-- ---- rows

abbrev pub use_of : List (List ℕ) → UseRow → Use
use_of ps (row.LookedUp sp i path before denoted) = LookedUp sp i (path_at ps path) before denoted
use_of ps (row.GoesTo i label) = GoesTo i label
use_of ps (row.Selects i member) = Selects i member
use_of ps (row.IsBuiltIn i) = IsBuiltIn i
use_of ps (row.IsParameter i) = IsParameter i
use_of ps (row.WasAsked i path before answer) = WasAsked i (path_at ps path) before answer

-- What a name denotes was declared before, under this name, and is visible (C11 6.2.1p4). A tag that denotes nothing is
-- declared itself.
abbrev pub IsDenoted : List Tok → List (List ℕ) → List Row → Space → ℕ → ℕ → ℕ → Option ℕ → Type 0
IsDenoted tokens ps rows sp i path before None = before < length rows
IsDenoted tokens ps rows sp i path before (Some c) =
    (c < before) × (x : Row) × (slice_get rows c ≡ Some x) × (x.decl.space ≡ sp) × (x.decl.name ≡ name_in tokens i)
    × (is_prefix (path_at ps x.path) (path_at ps path) ≡ true)

-- the declaration of a label has the name that goes to it
abbrev pub IsLabelled : List Tok → List Row → ℕ → ℕ → Type 0
IsLabelled tokens rows i label = (x : Row) × (slice_get rows label ≡ Some x) × (x.decl.name ≡ name_in tokens i)

-- a use has a token, stands in a scope that has a number, and denotes what it names
abbrev pub IsSound : List Tok → List (List ℕ) → List Row → UseRow → Type 0
IsSound tokens ps rows (row.LookedUp sp i path before denoted) =
    (i < length tokens) × (path < length ps) × (before ≤ length rows) × IsDenoted tokens ps rows sp i path before denoted
IsSound tokens ps rows (row.GoesTo i label) = (i < length tokens) × IsLabelled tokens rows i label
IsSound tokens ps rows (row.Selects i member) = (i < length tokens) × (member < length tokens)
IsSound tokens ps rows (row.IsBuiltIn i) = i < length tokens
IsSound tokens ps rows (row.IsParameter i) = i < length tokens
IsSound tokens ps rows (row.WasAsked i path before answer) =
    (i < length tokens) × (path < length ps) × (before ≤ length rows)

abbrev pub AreSound : List Tok → List (List ℕ) → List Row → List UseRow → Type 0
AreSound tokens ps rows uses = (j : ℕ) (u : UseRow) → slice_get uses j ≡ Some u → IsSound tokens ps rows u

-- the rows show the declarations and the uses of a unit
pub record AreShown (t : Source) (s : State) (ps : List (List ℕ)) (rows : List Row) (uses : List UseRow) : Type 0 where
  pub entries : map (entry_of ps) rows ≡ map (entry t) s.declarations
  pub used : map (use_of ps) uses ≡ s.uses

-- ---- groups

abbrev pub IsOneOf : Name → Name → Name → Type 0
IsOneOf old new name = (name ≡ old) ⊎ (name ≡ new)

-- what a group tells of the declarations of a slot
pub record IsGroup (unit : ℕ) (t : Source) (s : State) (rows : List Row) (a : Slot) (g : Group) : Type 0 where
  pub first : (x : Row) × (slice_get rows g.first ≡ Some x) × (is_in a x ≡ true)
  pub earliest : (j : ℕ) (x : Row) → slice_get rows j ≡ Some x → is_in a x ≡ true → g.first ≤ j
  pub sort : (j : ℕ) (x : Row) → slice_get rows j ≡ Some x → is_in a x ≡ true
      → is_typedef_kind x.decl.kind ≡ g.is_typedef
  pub keyed : (j : ℕ) (x : Row) (d : Declaration) → slice_get rows j ≡ Some x → is_in a x ≡ true
      → slice_get s.declarations j ≡ Some d → g.key ≡ declaration_key unit t s d

-- each slot of one of the names has a group exactly where it has declarations
pub record AreGroups (unit : ℕ) (t : Source) (s : State) (old new : Name) (rows : List Row) (es : List (Slot × Group)) : Type 0 where
  pub none : (a : Slot) → IsOneOf old new a.name → find_group a es ≡ None
      → (j : ℕ) (x : Row) → slice_get rows j ≡ Some x → is_in a x ≡ true → ⊥
  pub some : (a : Slot) (g : Group) → find_group a es ≡ Some g → IsGroup unit t s rows a g
