-- How the scopes are kept, and what is seen of it.
use Rattle.std.specs.Prelude.{◌≡◌, ℕ, zero, suc, not, ◌+◌, ◌-◌, ◌<◌, Bool, cond, ◌&&◌, ◌||◌, eqb, leb, Option, Some, None, List, [], ◌∷◌, ◌++◌, length, take, map, slice_index_or, All}
use Rattle.cr_base.specs.declared.Name.{Name}
use Rattle.cr_scope.specs.declared.Space.{Space}
use Rattle.cr_scope.specs.declared.Space.TheVariants as space
use Rattle.cr_scope.specs.declared.Decl.{Decl}
use Rattle.cr_scope.specs.declared.Kept.{Kept}
use Rattle.cr_scope.specs.Declarations.{Entry, Flat, same_space, same_name, depth_seen, numbers_at, numbers_from}
use Rattle.cr_scope.specs.Linkage.{has_linkage}
use Rattle.cr_scope.specs.Redeclaration.{may_repeat, are_opposite}

abbrev pub path_at : List (List ℕ) → ℕ → List ℕ
path_at ps s = slice_index_or ps s []

-- the paths of the scopes that have these parents, after the paths ps
abbrev pub grow : List (List ℕ) → List ℕ → List (List ℕ)
grow ps [] = ps
grow ps (p ∷ parents) = grow (ps ++ (path_at ps p ++ length ps ∷ []) ∷ []) parents

abbrev pub paths_of : List ℕ → List (List ℕ)
paths_of parents = grow ([] ∷ []) parents

abbrev pub entry_of : List (List ℕ) → Kept → Entry
entry_of ps k = record { path = path_at ps k.scope; decl = k.decl }

abbrev pub flat_of : List ℕ → List ℕ → List Kept → Flat
flat_of parents present entries =
    record { scopes = paths_of parents; present = present; entries = map (entry_of (paths_of parents)) entries }

pub record IsKept (parents depths present : List ℕ) (current : ℕ) (entries : List Kept) : Type 0 where
  pub earlier : (s : ℕ) → s < length parents → slice_index_or parents s 0 < 1 + s
  pub count : length depths ≡ 1 + length parents
  pub depth : (s : ℕ) → s < length depths → slice_index_or depths s 0 ≡ length (path_at (paths_of parents) s)
  pub entered : current < length depths
  pub path : path_at (paths_of parents) current ≡ present
  pub within : All (λ k. k.scope < length depths) entries

-- whether a scope is one of the present path, by its depth
abbrev pub stands : List ℕ → List ℕ → ℕ → Bool
stands depths present s =
    let d = slice_index_or depths s 0 in eqb d 0 || (leb d (length present) && eqb (slice_index_or present (d - 1) 0) s)

abbrev pub found_at : List ℕ → List ℕ → Space → Name → Kept → Option ℕ
found_at depths present s name k =
    cond (stands depths present k.scope && (same_space k.decl.space s && same_name k.decl.name name)) (Some (slice_index_or depths k.scope 0)) None

-- the number of the scope that a declaration enters
abbrev pub scope_for : List ℕ → ℕ → Space → ℕ
scope_for present current space.Label = slice_index_or present 0 0
scope_for present current space.Tag = current
scope_for present current space.Ordinary = current

-- whether d, in the scope of this number, clashes with what is kept
abbrev pub clashes_kept : ℕ → Decl → Kept → Bool
clashes_kept scope d k =
    same_name d.name k.decl.name
    && ((eqb scope k.scope && (same_space d.space k.decl.space && not (may_repeat d k.decl)))
    || are_opposite d.linkage k.decl.linkage)

-- what is left of the visible declarations from a depth on, of which those from number end on are given
abbrev pub rest_from : ℕ → ℕ → List (Option ℕ) → List ℕ
rest_from zero end cs = numbers_at 0 0 (take end cs)
rest_from (suc d) end cs = numbers_at (suc d) 0 (take end cs) ++ numbers_from d cs

-- n is the last number before end at a depth
abbrev pub IsLastAt : ℕ → ℕ → List (Option ℕ) → ℕ → Type 0
IsLastAt d end cs n = (n < end) × (numbers_at d 0 (take end cs) ≡ n ∷ numbers_at d 0 (take n cs))

-- of a depth and a number: it is the first of what is left, and after it are left those before it
abbrev pub IsNext : ℕ → ℕ → List (Option ℕ) → ℕ × ℕ → Type 0
IsNext d end cs r = (r.1 < length cs) × (rest_from d end cs ≡ r.1 ∷ rest_from r.0 r.1 cs)

abbrev pub depths_seen : Flat → Space → Name → List (Option ℕ)
depths_seen f s name = map (depth_seen f.present s name) f.entries

abbrev pub is_linked_kept : Name → Kept → Bool
is_linked_kept name k = has_linkage k.decl.linkage && same_name k.decl.name name
