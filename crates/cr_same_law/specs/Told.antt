-- What a unit's look-ups gave, and which kinds of declarations a name space holds.
use Rattle.std.specs.Prelude.{◌≡◌, ◌≤◌, Bool, true, false, take, length, Contains}
use Rattle.cr_base.specs.declared.Kind.{Kind}
use Rattle.cr_base.specs.declared.Kind.TheVariants as kind
use Rattle.cr_scope.specs.declared.Space.{Space}
use Rattle.cr_scope.specs.declared.Space.TheVariants as space
use Rattle.cr_ll.specs.Derivation.{Trees}
use Rattle.cr_binding.specs.Source.{Source}
use Rattle.cr_binding.specs.State.{Declaration, Use, LookedUp, State}
use Rattle.cr_binding.specs.Entities.{meaning}
use Rattle.cr_binding.specs.Binding.{bound}

-- A name that was looked up denotes what its spelling meant, in that scope behind so many declarations.
abbrev pub IsTold : Source → State → Use → Type 0
IsTold t s (LookedUp sp i path before denoted) = (before ≤ length s.declarations) × (meaning t path sp i (take before s.declarations) ≡ denoted)
IsTold t s _ = Unit {0}

-- a name space holds this kind of declaration (C11 6.2.3)
abbrev pub fits : Space → Kind → Bool
fits space.Label kind.Label = true
fits space.Label _ = false
fits space.Ordinary kind.Function = true
fits space.Ordinary kind.Object = true
fits space.Ordinary kind.Typedef = true
fits space.Ordinary kind.Enumerator = true
fits space.Ordinary _ = false
fits space.Tag _ = true

-- Labels alone are in the name space of labels, and no tag is an ordinary identifier (C11 6.2.3).
pub record IsToldUnit (t : Source) (s : State) : Type 0 where
  pub uses : (x : Use) → Contains s.uses x → IsTold t s x
  pub kinds : (d : Declaration) → Contains s.declarations d → fits d.space d.kind ≡ true

abbrev pub UnitsAreTold : Type 0
UnitsAreTold = (t : Source) (tree : Trees) → IsToldUnit t (bound t tree)
