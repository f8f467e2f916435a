-- What every table keeps.
use Rattle.std.specs.Prelude.{◌≡◌, ◌⊎◌, ℕ, Bool, true, Some, List, [], ◌∷◌, ◌++◌, slice_get, Contains}
use Rattle.cr_types.specs.declared.Ty.{Ty}
use Rattle.cr_types.specs.declared.Ty.TheVariants as ty
use Rattle.cr_types.specs.declared.Part.{Part}
use Rattle.cr_types.specs.declared.Part.TheVariants as part
use Rattle.cr_types.specs.Types.{IsBelow}

-- each type has parts that come before it, and stands once
pub record IsTable (types : List Ty) (records : ℕ) : Type 0 where
  pub earlier : (i : ℕ) (x : Ty) → slice_get types i ≡ Some x → IsBelow i records x
  pub distinct : (i j : ℕ) (x : Ty) → slice_get types i ≡ Some x → slice_get types j ≡ Some x → i ≡ j

-- x is in the old list, or at the end of the new one
abbrev pub Puts : List Ty → Ty → List Ty → Type 0
Puts old x new = (Contains old x × (new ≡ old)) ⊎ ((¬ Contains old x) × (new ≡ old ++ x ∷ []))

-- a test of two types is whether they are the same
pub record IsEquality (eq : Ty → Ty → Bool) : Type 0 where
  pub same : (x y : Ty) → eq x y ≡ true → x ≡ y
  pub itself : (x : Ty) → eq x x ≡ true

-- the type derived from the one with a number
abbrev pub derivation : Part → ℕ → Ty
derivation part.Pointer n = ty.Ptr (record { 0 = n })
derivation part.Array n = ty.Arr (record { 0 = n })
derivation part.Function n = ty.Fun (record { 0 = n })

-- the types derived from number b are put into xs one by one, the innermost first, which makes ys; n is the last one's number
abbrev pub DerivesIn : List Ty → ℕ → List Part → List Ty → ℕ → Type 0
DerivesIn xs b [] ys n = (ys ≡ xs) × (n ≡ b)
DerivesIn xs b (p ∷ ps) ys n =
    (zs : List Ty) × (k : ℕ) × DerivesIn xs b ps zs k × Puts zs (derivation p k) ys × (slice_get ys n ≡ Some (derivation p k))
