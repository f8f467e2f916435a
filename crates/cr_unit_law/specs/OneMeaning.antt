-- That the tokens of a unit have one tree with one binding, or one first fault.
use Rattle.std.specs.Prelude.{◌≡◌, ℕ}
use Rattle.cr_base.specs.declared.cause.IllCause.{IllCause}
use Rattle.cr_ll.specs.Derivation.{Trees}
use Rattle.cr_binding.specs.Source.{Source}
use Rattle.cr_binding.specs.Binding.{bound}
use Rattle.cr_binding.specs.WellFormed.{IsWellFormed, IsIll}

-- A unit that is well-formed has one tree, and so one binding.
abbrev pub UnitsHaveOneTree : Type 0
UnitsHaveOneTree =
    (t : Source) (f g : Trees) → IsWellFormed t f → IsWellFormed t g → (f ≡ g) × (bound t f ≡ bound t g)

-- The first fault of binding is one.
abbrev pub FirstFaultsAreOne : Type 0
FirstFaultsAreOne =
    (t : Source) (c d : IllCause) (i j : ℕ) → IsIll t c i → IsIll t d j → (c ≡ d) × (i ≡ j)

-- A unit that is well-formed has none.
abbrev pub WellFormedUnitsHaveNone : Type 0
WellFormedUnitsHaveNone = (t : Source) (tree : Trees) (c : IllCause) (i : ℕ) → IsWellFormed t tree → IsIll t c i → ⊥
