-- What becomes of the identifiers of which it was asked whether they are typedef names (C11 6.7.8).
use Rattle.std.specs.Prelude.{◌≡◌, ◌⊎◌, ℕ, Bool, true, false, Some, List, ◌++◌, take, Contains}
use Rattle.cr_ll.specs.Derivation.{Trees}
use Rattle.cr_scope.specs.declared.Space.TheVariants as space
use Rattle.cr_binding.specs.Source.{Source, text_at, is_built_in}
use Rattle.cr_binding.specs.State.{Declaration, LookedUp, WasAsked, IsParameter, IsBuiltIn, State}
use Rattle.cr_binding.specs.Entities.{meaning}
use Rattle.cr_binding.specs.Expressions.{is_function_name}
use Rattle.cr_binding.specs.Binding.{bound}
use Rattle.cr_binding.specs.WellFormed.{IsWellFormed}

-- An identifier that was asked, and is declared, is looked up behind no further declaration, in the scope of the ask or in one
-- inside it.
pub record IsLookedUpLater (t : Source) (s : State) (i : ℕ) (path : List ℕ) (before : ℕ) : Type 0 where
  pub inner : List ℕ
  pub denoted : ℕ
  pub used : Contains s.uses (LookedUp space.Ordinary i (path ++ inner) before (Some denoted))
  pub means : meaning t path space.Ordinary i (take before s.declarations) ≡ Some denoted

-- One that was denied may declare a parameter instead,
pub record IsParameterLater (s : State) (i : ℕ) (answer : Bool) : Type 0 where
  pub denied : answer ≡ false
  pub used : Contains s.uses (IsParameter i)
  pub itself : Declaration
  pub declared : Contains s.declarations itself
  pub own : itself.token ≡ i

-- or be supplied by the compiler.
pub record IsSuppliedLater (t : Source) (s : State) (i : ℕ) : Type 0 where
  pub used : Contains s.uses (IsBuiltIn i)
  pub named : (is_built_in (text_at t i) ≡ true) ⊎ (is_function_name (text_at t i) ≡ true)

abbrev pub AsksAreUsed : Source → State → Type 0
AsksAreUsed t s =
    (i : ℕ) (path : List ℕ) (before : ℕ) (answer : Bool)
    → Contains s.uses (WasAsked i path before answer)
    → IsLookedUpLater t s i path before ⊎ (IsParameterLater s i answer ⊎ IsSuppliedLater t s i)

-- The grammar asks of no other identifiers.
abbrev pub AskedIdentifiersAreUsed : Type 0
AskedIdentifiersAreUsed = (t : Source) (tree : Trees) → IsWellFormed t tree → AsksAreUsed t (bound t tree)
