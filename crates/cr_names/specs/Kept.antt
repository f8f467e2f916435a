-- How the names of a unit are kept, and what is true of them.
use Rattle.std.specs.Prelude.{◌≡◌, ℕ, ◌<◌, List, [], ◌∷◌, length}
use Rattle.cr_scope.specs.Declarations.{Entry}
use Rattle.cr_types.specs.declared.TypeNo.{TypeNo}
use Rattle.cr_types.specs.Types.{Table, IsTypeNo}
use Rattle.cr_declared.specs.Known.{Known, nothing_declared}
use Rattle.cr_declared.specs.declared.rows.UseRow.{UseRow}
use Rattle.cr_declared.specs.declared.rows.UseRow.TheVariants as row
use Rattle.cr_binding.specs.Source.{Source, name_at}

-- The declarations in their scopes, the type of each, what identifiers do that declare nothing, and the tokens in the
-- brackets of attributes.
pub record KnownNames : Type 0 where
  pub declared : Known
  pub types_of : List TypeNo
  pub uses : List UseRow
  pub hidden : List ℕ

abbrev pub no_names : KnownNames
no_names = record { declared = nothing_declared; types_of = []; uses = []; hidden = [] }

-- the paths of a use are among the first n
abbrev pub IsPlaced : ℕ → UseRow → Type 0
IsPlaced n (row.LookedUp sp token place before denoted) = place < n
IsPlaced n (row.WasAsked token place before answer) = place < n
IsPlaced n _ = Unit {0}

abbrev pub ArePlaced : ℕ → List UseRow → Type 0
ArePlaced n [] = Unit {0}
ArePlaced n (x ∷ xs) = IsPlaced n x × ArePlaced n xs

-- declarations without notes
abbrev pub AreBare : List Entry → Type 0
AreBare [] = Unit {0}
AreBare (e ∷ es) = (e.decl.note ≡ 0) × AreBare es

pub record IsKept (x : KnownNames) : Type 0 where
  pub counted : length x.types_of ≡ length x.declared.entries
  pub placed : ArePlaced (length x.declared.paths) x.uses
  pub bare : AreBare x.declared.entries

-- ---- over a table of types, and over tokens

abbrev pub AreGiven : Table → List TypeNo → Type 0
AreGiven t [] = Unit {0}
AreGiven t (n ∷ ns) = IsTypeNo t n × AreGiven t ns

-- the types are the table's
abbrev pub IsOf : Table → KnownNames → Type 0
IsOf t x = AreGiven t x.types_of

-- each declaration is spelled as its token
abbrev pub AreSpelledBy : Source → List Entry → Type 0
AreSpelledBy t [] = Unit {0}
AreSpelledBy t (e ∷ es) = (e.decl.name ≡ name_at t e.decl.token) × AreSpelledBy t es

abbrev pub AreSpelled : Source → KnownNames → Type 0
AreSpelled t x = AreSpelledBy t x.declared.entries
