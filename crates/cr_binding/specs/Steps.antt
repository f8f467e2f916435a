-- The walk over a tree in steps, with the nodes that are open: what a program does that is given one thing at a time.
use Rattle.std.specs.Prelude.{◌≡◌, ℕ, Option, Some, None, unwrap_or, List, [], ◌∷◌, ◌++◌, flat_map}
use Rattle.cr_grammar.specs.declared.symbols.NonTerm.{NonTerm}
use Rattle.cr_grammar.specs.declared.symbols.NonTerm.TheVariants as n
use Rattle.cr_grammar.specs.declared.symbols.Action.{Action}
use Rattle.cr_ll.specs.Derivation.{Item, Passed, Due, Trees, none, token, action, node, events}
use Rattle.cr_binding.specs.Source.{Source}
use Rattle.cr_binding.specs.State.{State, start}
use Rattle.cr_binding.specs.Scoping.{unless_failed}
use Rattle.cr_binding.specs.Actions.{passed, acted}
use Rattle.cr_binding.specs.Binding.{asked, ended, goes_on, bound}

-- a node is opened, whose alternative these asks chose; a token; an action; the innermost node, with this below it, is closed
pub data Step : Type 0 where
  Opens : NonTerm → List Item → Step
  Passes : ℕ → Step
  Acts : Action → Step
  Closes : Trees → Step

-- from left to right
abbrev pub steps : Trees → List Step
steps none = []
steps (token i next) = Passes i ∷ steps next
steps (action x next) = Acts x ∷ steps next
steps (node m asks children next) = Opens m asks ∷ (steps children ++ Closes children ∷ steps next)

-- what the machine of the grammar gives of a step
abbrev pub given : Step → List Item
given (Opens m asks) = asks
given (Passes i) = Passed i ∷ []
given (Acts x) = Due x ∷ []
given (Closes children) = []

-- a node, its first token where it was met, and the state in which the open node below it began
pub record Open : Type 0 where
  pub node : NonTerm
  pub first : Option ℕ
  pub before : State

-- the innermost open node, those above it, and what is bound
pub record Walking : Type 0 where
  pub node : NonTerm
  pub first : Option ℕ
  pub above : List Open
  pub state : State

abbrev pub at_start : Walking
at_start = record { node = n.Unit; first = None; above = []; state = start }

abbrev pub opened_below : NonTerm → List Item → Walking → Walking
opened_below m asks w =
    record { node = m; first = None; above = (record { node = w.node; first = w.first; before = w.state }) ∷ w.above; state = asked asks w.state }

abbrev pub closed_below : Trees → NonTerm → State → List Open → Walking
closed_below children m s [] = record { node = m; first = None; above = []; state = s }
closed_below children m s (o ∷ os) =
    record { node = o.node; first = o.first; above = os; state = unless_failed o.before (ended o.node m children o.before s) }

abbrev pub stepped : Source → Step → Walking → Walking
stepped t (Opens m asks) w = opened_below m asks w
stepped t (Passes i) w =
    record { node = w.node; first = Some (unwrap_or w.first i); above = w.above; state = goes_on w.state (passed t w.node i w.state) }
stepped t (Acts x) w =
    record { node = w.node; first = w.first; above = w.above; state = goes_on w.state (acted t w.node (unwrap_or w.first w.state.last) x w.state) }
stepped t (Closes children) w = closed_below children w.node w.state w.above

abbrev pub all_stepped : Source → List Step → Walking → Walking
all_stepped t [] w = w
all_stepped t (x ∷ xs) w = all_stepped t xs (stepped t x w)

-- The steps of a tree bind as the walk does,
abbrev pub StepsBind : Type 0
StepsBind = (t : Source) (tree : Trees) → (all_stepped t (steps tree) at_start).state ≡ bound t tree

-- and the machine gives just what they are of.
abbrev pub StepsAreEvents : Type 0
StepsAreEvents = (tree : Trees) → flat_map given (steps tree) ≡ events tree
