-- The declarations of a translation unit as one flat list, and what a name means in it (C11 6.2.1, 6.2.3).
use Rattle.std.specs.Prelude.{◌≡◌, ℕ, zero, suc, ◌+◌, ◌-◌, ◌<◌, Bool, true, false, cond, ◌&&◌, eqb, ltb, Option, Some, None, List, [], ◌∷◌, ◌++◌, length, take, map, option_map, slice_get, slice_index_or}
use Rattle.cr_base.specs.declared.Name.{Name}
use Rattle.cr_scope.specs.declared.Space.{Space}
use Rattle.cr_scope.specs.declared.Space.TheVariants as space
use Rattle.cr_scope.specs.declared.Decl.{Decl}
use Rattle.cr_scope.specs.declared.DeclNo.{DeclNo}
use Rattle.cr_scope.specs.declared.ScopeNo.{ScopeNo}

-- A declaration with the path of its scope: the numbers of the scopes that it stands in, from outside.
-- File scope has the empty path.
pub record Entry : Type 0 where
  pub path : List ℕ
  pub decl : Decl

-- how deep the scope of a declaration is nested
abbrev pub depth : Entry → ℕ
depth e = length e.path

-- The scopes of a unit: the path of each that was entered, by its number (number 0 is file scope), the path of
-- the present one, and the declarations in the order in which they were made.
pub record Flat : Type 0 where
  pub scopes : List (List ℕ)
  pub present : List ℕ
  pub entries : List Entry

abbrev pub at_file_scope : Flat
at_file_scope = record { scopes = [] ∷ []; present = []; entries = [] }

-- a new scope inside the present one
abbrev pub next_path : Flat → List ℕ
next_path f = f.present ++ length f.scopes ∷ []

abbrev pub entered : Flat → Flat
entered f = record { scopes = f.scopes ++ next_path f ∷ []; present = next_path f; entries = f.entries }

-- the scope number n stands directly in the present one
abbrev pub IsInside : Flat → ScopeNo → Type 0
IsInside f n = (n.0 < length f.scopes) × (slice_index_or f.scopes n.0 [] ≡ f.present ++ n.0 ∷ [])

abbrev pub entered_again : Flat → ScopeNo → Flat
entered_again f n = record { scopes = f.scopes; present = f.present ++ n.0 ∷ []; entries = f.entries }

abbrev pub left : Flat → Flat
left f = record { scopes = f.scopes; present = take (length f.present - 1) f.present; entries = f.entries }

-- A label belongs to its function, so to the outermost scope below file scope (C11 6.2.1p3); anything else to the present scope.
abbrev pub path_for : List ℕ → Space → List ℕ
path_for present space.Label = take 1 present
path_for present space.Tag = present
path_for present space.Ordinary = present

-- a declaration as it enters the list
abbrev pub entry : Flat → Decl → Entry
entry f d = record { path = path_for f.present d.space; decl = d }

abbrev pub declared : Flat → Decl → Flat
declared f d = record { scopes = f.scopes; present = f.present; entries = f.entries ++ entry f d ∷ [] }

abbrev pub IsDeclNo : Flat → DeclNo → Type 0
IsDeclNo f d = d.0 < length f.entries

abbrev pub decl_at : Flat → DeclNo → Option Decl
decl_at f d = option_map (λ e. e.decl) (slice_get f.entries d.0)

abbrev pub depth_at : Flat → DeclNo → Option ℕ
depth_at f d = option_map depth (slice_get f.entries d.0)

abbrev pub is_prefix : List ℕ → List ℕ → Bool
is_prefix [] q = true
is_prefix (a ∷ p) [] = false
is_prefix (a ∷ p) (b ∷ q) = eqb a b && is_prefix p q

abbrev pub same_space : Space → Space → Bool
same_space space.Label space.Label = true
same_space space.Tag space.Tag = true
same_space space.Ordinary space.Ordinary = true
same_space _ _ = false

abbrev pub same_name : Name → Name → Bool
same_name a b = eqb a.0 b.0

-- a declaration of this name and space whose scope is the present one or encloses it
abbrev pub is_seen : List ℕ → Space → Name → Entry → Bool
is_seen present s name e = is_prefix e.path present && (same_space e.decl.space s && same_name e.decl.name name)

-- its depth, where it is seen
abbrev pub depth_seen : List ℕ → Space → Name → Entry → Option ℕ
depth_seen present s name e = cond (is_seen present s name e) (Some (depth e)) None

-- of two numbers with their depths, the later, unless the earlier is deeper
abbrev pub deeper : Option (ℕ × ℕ) → Option (ℕ × ℕ) → Option (ℕ × ℕ)
deeper None later = later
deeper (Some a) None = Some a
deeper (Some a) (Some b) = cond (ltb b.1 a.1) (Some a) (Some b)

-- of a list of depths, whose first has the number n, the last of the deepest
abbrev pub last_deepest : ℕ → List (Option ℕ) → Option (ℕ × ℕ)
last_deepest n [] = None
last_deepest n (c ∷ cs) = deeper (option_map (λ d. (n, d)) c) (last_deepest (n + 1) cs)

-- what a name means: the number of the last seen declaration in the deepest scope
abbrev pub lookup : List ℕ → Space → Name → List Entry → Option ℕ
lookup present s name es = option_map (λ x. x.0) (last_deepest 0 (map (depth_seen present s name) es))

abbrev pub is_at : ℕ → Option ℕ → Bool
is_at d None = false
is_at d (Some e) = eqb e d

-- of a list of depths, whose first has the number n, the numbers of those at a depth, the last one first
abbrev pub numbers_at : ℕ → ℕ → List (Option ℕ) → List ℕ
numbers_at d n [] = []
numbers_at d n (c ∷ cs) = numbers_at d (n + 1) cs ++ cond (is_at d c) (n ∷ []) []

-- the numbers of those at a depth or further out, the deepest first
abbrev pub numbers_from : ℕ → List (Option ℕ) → List ℕ
numbers_from zero cs = numbers_at 0 0 cs
numbers_from (suc d) cs = numbers_at (suc d) 0 cs ++ numbers_from d cs

-- all that are seen, hidden ones too: the deepest first, and of one scope the last one first
abbrev pub visible : List ℕ → Space → Name → List Entry → List ℕ
visible present s name es = numbers_from (length present) (map (depth_seen present s name) es)

abbrev pub number : DeclNo → ℕ
number d = d.0
