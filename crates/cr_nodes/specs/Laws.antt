-- What runs of the moves are: the steps of trees.
use Rattle.std.specs.Prelude.{◌≡◌, ◌⊎◌, ℕ, Bool, Ok, Err, List, [], ◌∷◌, ◌++◌}
use Rattle.cr_grammar.specs.declared.symbols.NonTerm.{NonTerm}
use Rattle.cr_grammar.specs.declared.symbols.Action.{Action}
use Rattle.cr_grammar.specs.declared.symbols.Symbol.{Symbol}
use Rattle.cr_grammar.specs.declared.symbols.Symbol.TheVariants.{Non}
use Rattle.cr_ll.specs.Guards.{Terminal}
use Rattle.cr_ll.specs.Derivation.{Item, Passed, Due, Asked, Trees, Derives, events}
use Rattle.cr_ll.specs.Machine.{Config}
use Rattle.cr_ll.specs.Machine as machine
use Rattle.cr_ll.specs.Laws.{unit}
use Rattle.cr_binding.specs.Binding.{is_empty}
use Rattle.cr_binding.specs.WellFormed.{Begins}
use Rattle.cr_binding.specs.Steps.{Step, Opens, Passes, Acts, Closes, steps}
use Rattle.cr_ll.specs.declared.state.Event.{Event}
use Rattle.cr_ll.specs.declared.state.Event.TheVariants as event
use Rattle.cr_nodes.specs.declared.nodes.Before.{Before}
use Rattle.cr_nodes.specs.declared.nodes.Before.TheVariants as before
use Rattle.cr_nodes.specs.declared.nodes.NodesFault.TheVariants.{Unfit}
use Rattle.cr_nodes.specs.Advancing.{Advances}
use Rattle.cr_nodes.specs.Moves.{OpenNodes, at_start, Move, OpensTo, ClosesTo, PassesTo, ActsTo, AsksAt, Ends, Faults, move, replied}
use Rattle.cr_nodes.specs.Gathering.{Gathered, at_first, asking, passing, acting, opening, closing}

-- A run is given events, makes these steps, and gathers trees on the way; an ask is counted with its reply.
pub data Run (ts : List Terminal) : OpenNodes → Gathered → List Item → List Step → OpenNodes → Gathered → Type 0 where
  stop : {c : OpenNodes} {g : Gathered} → Run ts c g [] [] c g
  opens : {c d e : OpenNodes} {g h : Gathered} {m : NonTerm} {es : List Item} {xs : List Step} → move ts c ≡ OpensTo m d → Run ts d (opening m g) es xs e h → Run ts c g es (Opens m g.asks ∷ xs) e h
  closes : {c d e : OpenNodes} {g h : Gathered} {es : List Item} {xs : List Step} → move ts c ≡ ClosesTo d → Run ts d (closing g) es xs e h → Run ts c g es (Closes g.inner.children ∷ xs) e h
  passes : {c d e : OpenNodes} {g h : Gathered} {i : ℕ} {es : List Item} {xs : List Step} → move ts c ≡ PassesTo i d → Run ts d (passing i g) es xs e h → Run ts c g (Passed i ∷ es) (Passes i ∷ xs) e h
  acts : {c d e : OpenNodes} {g h : Gathered} {x : Action} {es : List Item} {xs : List Step} → move ts c ≡ ActsTo x d → Run ts d (acting x g) es xs e h → Run ts c g (Due x ∷ es) (Acts x ∷ xs) e h
  asks : {c d e : OpenNodes} {g h : Gathered} {i : ℕ} {es : List Item} {xs : List Step} (answer : Bool) → move ts c ≡ AsksAt i d → Run ts (replied answer d) (asking i answer g) es xs e h → Run ts c g (Asked i answer ∷ es) xs e h

-- what a call that answered makes: an opening or closing, or the event itself; an ask comes with its reply
abbrev pub Makes : List Terminal → OpenNodes → Gathered → OpenNodes → Before → Event → Type 0
Makes ts old g new (before.Opens m) x = Run ts old g [] (Opens m g.asks ∷ []) new (opening m g)
Makes ts old g new before.Closes x = Run ts old g [] (Closes g.inner.children ∷ []) new (closing g)
Makes ts old g new before.Nothing (event.Token i) = Run ts old g (Passed i ∷ []) (Passes i ∷ []) new (passing i g)
Makes ts old g new before.Nothing (event.Act x) = Run ts old g (Due x ∷ []) (Acts x ∷ []) new (acting x g)
Makes ts old g new before.Nothing (event.Ask i) =
    (answer : Bool) → Run ts old g (Asked i answer ∷ []) [] (replied answer new) (asking i answer g)
Makes ts old g new before.Nothing event.Done = (move ts old ≡ Ends) × (new ≡ old)

-- Each call is a run,
abbrev pub CallsAreRuns : Type 0
CallsAreRuns =
    (ts : List Terminal) (old new : OpenNodes) (g : Gathered) (x : Event) (answer : Before)
    → Advances (move ts old) old x (Ok answer) new → Makes ts old g new answer x

-- and one run behind another is a run.
abbrev pub RunsJoin : Type 0
RunsJoin =
    (ts : List Terminal) (c d e : OpenNodes) (g h k : Gathered) (es fs : List Item) (xs ys : List Step)
    → Run ts c g es xs d h → Run ts d h fs ys e k → Run ts c g (es ++ fs) (xs ++ ys) e k

-- a move waits for the first of these events, or for none yet
abbrev pub Awaits : List Item → Move → Type 0
Awaits es (OpensTo m d) = Unit {0}
Awaits es (ClosesTo d) = Unit {0}
Awaits es (PassesTo i d) = (more : List Item) × (es ≡ Passed i ∷ more)
Awaits es (ActsTo x d) = (more : List Item) × (es ≡ Due x ∷ more)
Awaits es (AsksAt i d) = (answer : Bool) × (more : List Item) × (es ≡ Asked i answer ∷ more)
Awaits es Ends = es ≡ []
Awaits es Faults = ⊥

-- Given the first events of a tree, a run makes the first steps of the tree, and then it waits for the next event.
abbrev pub StepsAreATrees : Type 0
StepsAreATrees =
    (ts : List Terminal) (tree : Trees) (j : ℕ) (es more : List Item) (xs : List Step) (c : OpenNodes) (g : Gathered)
    → Derives ts tree 0 unit j → events tree ≡ es ++ more → Run ts at_start at_first es xs c g
    → ((rest : List Step) × (steps tree ≡ xs ++ rest)) × Awaits more (move ts c)

-- At the end all steps of the tree were made, and the tree is gathered.
abbrev pub AllStepsAreMade : Type 0
AllStepsAreMade =
    (ts : List Terminal) (tree : Trees) (j : ℕ) (es more : List Item) (xs : List Step) (c : OpenNodes) (g : Gathered)
    → Derives ts tree 0 unit j → events tree ≡ es ++ more → Run ts at_start at_first es xs c g → move ts c ≡ Ends
    → (more ≡ []) × (xs ≡ steps tree) × (g.inner.children ≡ tree)

-- What is run derives: at the end the tokens have the tree that was gathered, which has these events and steps.
abbrev pub RunsDerive : Type 0
RunsDerive =
    (ts : List Terminal) (es : List Item) (xs : List Step) (c : OpenNodes) (g : Gathered)
    → Run ts at_start at_first es xs c g → move ts c ≡ Ends
    → Derives ts g.inner.children 0 unit c.place × (es ≡ events g.inner.children) × (xs ≡ steps g.inner.children)

abbrev pub AllClose : List Step → Type 0
AllClose [] = Unit {0}
AllClose (Closes children ∷ xs) = AllClose xs
AllClose (_ ∷ xs) = ⊥

-- And wherever a run stops, trees that are cut off there begin to derive from the tokens: their steps are those of the run,
-- and then all open nodes are closed.
abbrev pub RunsBegin : Type 0
RunsBegin =
    (ts : List Terminal) (es : List Item) (xs : List Step) (c : OpenNodes) (g : Gathered)
    → Run ts at_start at_first es xs c g
    → (trees : Trees) × (more : List Step) × Begins ts trees 0 unit × (steps trees ≡ xs ++ more) × AllClose more

-- Nothing stands in the innermost open node yet, where the nodes say so.
abbrev pub ChildrenAreTold : Type 0
ChildrenAreTold =
    (ts : List Terminal) (es : List Item) (xs : List Step) (c : OpenNodes) (g : Gathered)
    → Run ts at_start at_first es xs c g → (c.inner.node ≡ g.inner.node) × (c.childless ≡ is_empty g.inner.children)

-- the next symbol of the innermost open node is a node, which is opened next unless more is asked
abbrev pub NodeIsNext : OpenNodes → Type 0
NodeIsNext c = (m : NonTerm) × (rest : List Symbol) × (c.inner.rest ≡ Non m ∷ rest)

-- After an ask comes a further ask or the opening of a node, so that each ask is one of a node.
abbrev pub AsksComeBeforeNodes : Type 0
AsksComeBeforeNodes =
    (ts : List Terminal) (es : List Item) (xs : List Step) (c : OpenNodes) (g : Gathered)
    → Run ts at_start at_first es xs c g → (g.asks ≡ []) ⊎ NodeIsNext c

-- The next event that the machine of the grammar gives is waited for, after the same events.
abbrev pub MachineFits : Type 0
MachineFits =
    (ts : List Terminal) (es more : List Item) (x : Item) (xs : List Step) (c : OpenNodes) (g : Gathered) (d : Config)
    → Run ts at_start at_first es xs c g → machine.Run ts (machine.at 0 unit) (es ++ x ∷ more) d
    → Awaits (x ∷ more) (move ts c)

-- And so is the end, where the machine has come to it.
abbrev pub EndFits : Type 0
EndFits =
    (ts : List Terminal) (es : List Item) (xs : List Step) (c : OpenNodes) (g : Gathered) (d : Config)
    → Run ts at_start at_first es xs c g → machine.Run ts (machine.at 0 unit) es d → machine.move ts d ≡ machine.Ends
    → Awaits [] (move ts c)

-- the event that begins what is left; the end, where nothing is
abbrev pub event_of : List Item → Event
event_of [] = event.Done
event_of (Passed i ∷ es) = event.Token i
event_of (Due x ∷ es) = event.Act x
event_of (Asked i answer ∷ es) = event.Ask i

-- What is waited for is no unfit event.
abbrev pub AwaitedIsFit : Type 0
AwaitedIsFit =
    (ts : List Terminal) (es : List Item) (old new : OpenNodes)
    → Awaits es (move ts old) → Advances (move ts old) old (event_of es) (Err Unfit) new → ⊥
