-- What the look-ups mean, as relations.
use Rattle.std.specs.Prelude.{◌≡◌, ℕ, ◌<◌, ◌≤◌, ◌⊎◌, true, Some, List, MatchOption, Contains, ◌↔◌, slice_get}
use Rattle.cr_base.specs.declared.Name.{Name}
use Rattle.cr_scope.specs.declared.Space.{Space}
use Rattle.cr_scope.specs.Declarations.{Entry, depth, is_prefix, lookup, visible}

-- the declaration number i is visible under this name
pub record Sees (present : List ℕ) (s : Space) (name : Name) (es : List Entry) (i : ℕ) (e : Entry) : Type 0 where
  pub there : slice_get es i ≡ Some e
  pub visible : is_prefix e.path present ≡ true
  pub in_space : e.decl.space ≡ s
  pub named : e.decl.name ≡ name

-- it is the last such declaration in the deepest scope
pub record IsLookup (present : List ℕ) (s : Space) (name : Name) (es : List Entry) (i : ℕ) (e : Entry) : Type 0 where
  pub seen : Sees present s name es i e
  pub best : (j : ℕ) (d : Entry) → Sees present s name es j d → (depth d < depth e) ⊎ ((depth d ≡ depth e) × (j ≤ i))

-- no declaration is visible under this name
abbrev pub SeesNone : List ℕ → Space → Name → List Entry → Type 0
SeesNone present s name es = (j : ℕ) (d : Entry) → Sees present s name es j d → ⊥

-- The look-up gives the last visible declaration in the deepest scope, and nothing exactly where none is visible.
abbrev pub LookupMeans : Type 0
LookupMeans =
    (present : List ℕ) (s : Space) (name : Name) (es : List Entry)
    → MatchOption (lookup present s name es)
    (SeesNone present s name es)
    (λ i. (e : Entry) × IsLookup present s name es i e)

-- It is the first of all that are visible.
abbrev pub LookupIsFirst : Type 0
LookupIsFirst =
    (present : List ℕ) (s : Space) (name : Name) (es : List Entry)
    → lookup present s name es ≡ slice_get (visible present s name es) 0

-- All that are visible are the declarations that are visible under this name, and no others.
abbrev pub VisibleMeans : Type 0
VisibleMeans =
    (present : List ℕ) (s : Space) (name : Name) (es : List Entry) (i : ℕ)
    → Contains (visible present s name es) i ↔ ((e : Entry) × Sees present s name es i e)
