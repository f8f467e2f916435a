-- What is known of the declarations of a unit: how many scopes were entered, the paths that have numbers, the present one,
-- and the declarations in order.
use Rattle.std.specs.Prelude.{◌≡◌, true, ℕ, ◌&&◌, Bool, List, []}
use Rattle.std.specs.List.{list_any}
use Rattle.cr_base.specs.declared.token.Name.{Name}
use Rattle.cr_scope.specs.declared.Space.{Space}
use Rattle.cr_scope.specs.declared.Decl.{Decl}
use Rattle.cr_scope.specs.Declarations.{Entry, path_for, same_space, same_name}
use Rattle.cr_scope.specs.Redeclaration.{clashes, may_repeat, same_path}
use Rattle.cr_paths.specs.Paths.{Grows, file_scope_alone}

pub record Known : Type 0 where
  pub scopes : ℕ
  pub paths : List (List ℕ)
  pub present : List ℕ
  pub entries : List Entry

abbrev pub nothing_declared : Known
nothing_declared = record { scopes = 0; paths = file_scope_alone; present = []; entries = [] }

-- numbers of paths keep what they mean
pub record Becomes (old : Known) (n : ℕ) (path : List ℕ) (es : List Entry) (new : Known) : Type 0 where
  pub scopes : new.scopes ≡ n
  pub present : new.present ≡ path
  pub entries : new.entries ≡ es
  pub paths : Grows old.paths new.paths

-- a declaration as it enters the list, a label in its function's scope (C11 6.2.1p3)
abbrev pub entry : Known → Decl → Entry
entry f d = record { path = path_for f.present d.space; decl = d }

-- whether it clashes with one of those before it
abbrev pub is_redeclared : Known → Decl → Bool
is_redeclared f d = list_any (clashes (entry f d)) f.entries

-- a declaration of a name of this space in the scope itself, not around it
abbrev pub is_here : List ℕ → Space → Name → Entry → Bool
is_here present sp name e = same_space e.decl.space sp && (same_path e.path present && same_name e.decl.name name)

-- what may repeat one that may repeat another may repeat that
abbrev pub RepeatsThrough : Type 0
RepeatsThrough = (d e f : Decl) → may_repeat d e ≡ true → may_repeat e f ≡ true → may_repeat d f ≡ true
