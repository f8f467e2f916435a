-- How paths are kept, and what is seen of it.
use Rattle.std.specs.Prelude.{◌≡◌, ◌⊎◌, ℕ, ◌+◌, ◌<◌, Bool, true, Some, List, [], ◌∷◌, ◌++◌, slice_get, Contains}
use Rattle.cr_paths.specs.declared.paths.Inner.{Inner}
use Rattle.cr_paths.specs.Paths.{path_at, file_scope_alone}

-- the paths of scopes that stand in earlier ones, after the paths ps
abbrev pub grow : List (List ℕ) → List Inner → List (List ℕ)
grow ps [] = ps
grow ps (x ∷ xs) = grow (ps ++ (path_at ps x.outer ++ x.scope ∷ []) ∷ []) xs

abbrev pub paths_of : List Inner → List (List ℕ)
paths_of xs = grow file_scope_alone xs

-- each stands in an earlier one, and stands once
pub record AreInner (xs : List Inner) : Type 0 where
  pub earlier : (i : ℕ) (x : Inner) → slice_get xs i ≡ Some x → x.outer < 1 + i
  pub distinct : (i j : ℕ) (x : Inner) → slice_get xs i ≡ Some x → slice_get xs j ≡ Some x → i ≡ j

-- x is in the old list, or at the end of the new one
abbrev pub Puts : List Inner → Inner → List Inner → Type 0
Puts old x new = (Contains old x × (new ≡ old)) ⊎ ((¬ Contains old x) × (new ≡ old ++ x ∷ []))

-- a test of two paths is whether they are the same
pub record IsEquality (eq : Inner → Inner → Bool) : Type 0 where
  pub same : (x y : Inner) → eq x y ≡ true → x ≡ y
  pub itself : (x : Inner) → eq x x ≡ true
