-- What a binder sees of a unit whose events come one by one.
use Rattle.std.specs.Prelude.{◌≡◌, ℕ, ◌≤◌, Bool, None, List, length, take, Contains}
use Rattle.cr_ll.specs.Derivation.{Item}
use Rattle.cr_binding.specs.Source.{Source}
use Rattle.cr_binding.specs.State.{WasAsked, State}
use Rattle.cr_binding.specs.Steps.{Step}
use Rattle.cr_binding.specs.WellFormed.{is_typedef_name, terminals_of}
use Rattle.cr_known.specs.Known.{Known, known_first, known_asks, all_known}
use Rattle.cr_known.specs.Laws.{AreSoundSteps}
use Rattle.cr_nodes.specs.Moves.{OpenNodes, at_start}
use Rattle.cr_nodes.specs.Gathering.{Gathered, at_first}
use Rattle.cr_nodes.specs.Laws.{Run}

-- what an ask is answered where it is asked (C11 6.7.8p3)
abbrev pub answer_here : Source → ℕ → State → Bool
answer_here t i s = is_typedef_name t s.present i s.declarations

-- each ask was answered so, by declarations that are still there
abbrev pub WereAnswered : Source → State → Type 0
WereAnswered t s =
    (i : ℕ) (path : List ℕ) (before : ℕ) (answer : Bool)
    → Contains s.uses (WasAsked i path before answer)
    → (before ≤ length s.declarations) × (answer ≡ is_typedef_name t path i (take before s.declarations))

-- Events of a unit have come, so that the nodes c are open and the trees g are gathered. What is kept is what the steps
-- that were made and the asks after the last of them leave, and there is no fault yet.
pub record Sees (t : Source) (events : List Item) (k : Known) (c : OpenNodes) (g : Gathered) : Type 0 where
  pub steps : List Step
  pub runs : Run (terminals_of t) at_start at_first events steps c g
  pub known : k ≡ known_asks g.asks (all_known t steps known_first)
  pub sound : AreSoundSteps t steps known_first
  pub no_fault : k.state.fault ≡ None
  pub answered : WereAnswered t k.state
