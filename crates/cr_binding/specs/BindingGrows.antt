-- What is bound stays bound.
use Rattle.std.specs.Prelude.{◌≡◌, ℕ, Option, Some, List, [], ◌++◌, length, map}
use Rattle.cr_base.specs.declared.cause.IllCause.{IllCause}
use Rattle.cr_grammar.specs.declared.symbols.NonTerm.{NonTerm}
use Rattle.cr_ll.specs.Derivation.{Trees}
use Rattle.cr_binding.specs.Source.{Source}
use Rattle.cr_binding.specs.State.{State}
use Rattle.cr_binding.specs.Entities.{entry}
use Rattle.cr_binding.specs.Binding.{walk}
use Rattle.cr_binding.specs.UnitConflicts.{scopes_at}

-- the one list begins with the other
abbrev pub Extends : {A : Type 0} → List A → List A → Type 0
Extends {A} xs ys = (more : List A) × (ys ≡ xs ++ more)

-- nothing is taken out of the lists of a unit, and what is added comes behind
pub record Grows (s s' : State) : Type 0 where
  pub declarations : Extends s.declarations s'.declarations
  pub uses : Extends s.uses s'.uses
  pub records : Extends s.records s'.records
  pub written : Extends s.written s'.written
  pub members : Extends s.members s'.members
  pub completed : Extends s.completed s'.completed
  pub ended : Extends s.ended s'.ended
  pub hidden : Extends s.hidden s'.hidden

-- Behind any trees the lists have grown,
abbrev pub BindingGrows : Type 0
BindingGrows = (t : Source) (m : NonTerm) (first : Option ℕ) (trees : Trees) (s : State) → Grows s (walk t m first trees s)

-- and a fault is the same.
abbrev pub FaultStays : Type 0
FaultStays =
    (t : Source) (m : NonTerm) (first : Option ℕ) (trees : Trees) (s : State) (x : IllCause × ℕ)
    → s.fault ≡ Some x → (walk t m first trees s).fault ≡ Some x

-- The scopes in which an action is due are told by what is bound in the end: by its path and how many declarations there were.
abbrev pub ScopesAreTold : Type 0
ScopesAreTold =
    (t : Source) (m : NonTerm) (first : Option ℕ) (trees : Trees) (s : State)
    → scopes_at t (walk t m first trees s) s.present (length s.declarations)
    ≡ record { scopes = []; present = s.present; entries = map (entry t) s.declarations }
