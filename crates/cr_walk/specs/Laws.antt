-- What one more call does to what a binder has seen.
use Rattle.std.specs.Prelude.{◌≡◌, ℕ, Some, None, Ok, Err, List, [], ◌∷◌, ◌++◌}
use Rattle.cr_base.specs.declared.cause.IllCause.{IllCause}
use Rattle.cr_grammar.specs.declared.symbols.NonTerm.{NonTerm}
use Rattle.cr_grammar.specs.declared.symbols.Action.{Action}
use Rattle.cr_ll.specs.declared.state.Event.{Event}
use Rattle.cr_ll.specs.declared.state.Event.TheVariants as event
use Rattle.cr_ll.specs.Derivation.{Item, Passed, Due, Asked, Trees, Derives, events}
use Rattle.cr_ll.specs.Laws.{unit}
use Rattle.cr_ll.specs.Machine.{Config}
use Rattle.cr_ll.specs.Machine as machine
use Rattle.cr_binding.specs.Source.{Source}
use Rattle.cr_binding.specs.Binding.{bound}
use Rattle.cr_binding.specs.WellFormed.{terminals_of, IsWellFormed, IsIll}
use Rattle.cr_known.specs.Known.{Known, known_first, known_open, known_close, known_pass, known_act, known_ask, unclosed}
use Rattle.cr_nodes.specs.declared.nodes.Before.{Before}
use Rattle.cr_nodes.specs.declared.nodes.Before.TheVariants as before
use Rattle.cr_nodes.specs.declared.nodes.NodesFault.TheVariants.{Unfit}
use Rattle.cr_nodes.specs.Advancing.{Advances}
use Rattle.cr_nodes.specs.Moves.{OpenNodes, at_start, move, replied}
use Rattle.cr_nodes.specs.Gathering.{Gathered, at_first, opening, closing, passing, acting, asking}
use Rattle.cr_nodes.specs.Laws.{event_of}
use Rattle.cr_walk.specs.Seen.{answer_here, Sees}

-- at the start
abbrev pub BeginsSeen : Type 0
BeginsSeen = (t : Source) → Sees t [] known_first at_start at_first

-- a call with an event answered so
abbrev pub Answers : Source → OpenNodes → Event → Before → OpenNodes → Type 0
Answers t old x answer new = Advances (move (terminals_of t) old) old x (Ok answer) new

-- a call with an event is unfit
abbrev pub Refuses : Source → OpenNodes → Event → OpenNodes → Type 0
Refuses t old x new = Advances (move (terminals_of t) old) old x (Err Unfit) new

-- A node is opened, or closed, before an event.
abbrev pub OpensAreSeen : Type 0
OpensAreSeen =
    (t : Source) (es : List Item) (k : Known) (c d : OpenNodes) (g : Gathered) (x : Event) (m : NonTerm)
    → Sees t es k c g → Answers t c x (before.Opens m) d → Sees t es (known_open m k) d (opening m g)

abbrev pub ClosesAreSeen : Type 0
ClosesAreSeen =
    (t : Source) (es : List Item) (k : Known) (c d : OpenNodes) (g : Gathered) (x : Event)
    → Sees t es k c g → Answers t c x before.Closes d → Sees t es (known_close k) d (closing g)

-- The event is a token, an action, or an ask, which is answered by what is declared, and there is no fault.
abbrev pub TokensAreSeen : Type 0
TokensAreSeen =
    (t : Source) (es : List Item) (k : Known) (c d : OpenNodes) (g : Gathered) (i : ℕ)
    → Sees t es k c g → Answers t c (event.Token i) before.Nothing d → (known_pass t i k).state.fault ≡ None
    → Sees t (es ++ Passed i ∷ []) (known_pass t i k) d (passing i g)

abbrev pub ActionsAreSeen : Type 0
ActionsAreSeen =
    (t : Source) (es : List Item) (k : Known) (c d : OpenNodes) (g : Gathered) (x : Action)
    → Sees t es k c g → Answers t c (event.Act x) before.Nothing d → (known_act t x k).state.fault ≡ None
    → Sees t (es ++ Due x ∷ []) (known_act t x k) d (acting x g)

abbrev pub AsksAreSeen : Type 0
AsksAreSeen =
    (t : Source) (es : List Item) (k : Known) (c d : OpenNodes) (g : Gathered) (i : ℕ)
    → Sees t es k c g → Answers t c (event.Ask i) before.Nothing d
    → let answer = answer_here t i k.state in
    Sees t (es ++ Asked i answer ∷ []) (known_ask i answer k) (replied answer d) (asking i answer g)

-- The first fault is that of the unit.
abbrev pub TokensAreIll : Type 0
TokensAreIll =
    (t : Source) (es : List Item) (k : Known) (c d : OpenNodes) (g : Gathered) (i : ℕ) (why : IllCause) (at : ℕ)
    → Sees t es k c g → Answers t c (event.Token i) before.Nothing d → (known_pass t i k).state.fault ≡ Some (why, at)
    → IsIll t why at

abbrev pub ActionsAreIll : Type 0
ActionsAreIll =
    (t : Source) (es : List Item) (k : Known) (c d : OpenNodes) (g : Gathered) (x : Action) (why : IllCause) (at : ℕ)
    → Sees t es k c g → Answers t c (event.Act x) before.Nothing d → (known_act t x k).state.fault ≡ Some (why, at)
    → IsIll t why at

-- At the end the unit is well-formed: the events are those of a tree, which is its one derivation, and what is kept is the
-- tree's binding.
abbrev pub EndIsBound : Type 0
EndIsBound =
    (t : Source) (es : List Item) (k : Known) (c d : OpenNodes) (g : Gathered)
    → Sees t es k c g → Answers t c event.Done before.Nothing d
    → (tree : Trees) × IsWellFormed t tree × (events tree ≡ es) × (k.state ≡ unclosed (bound t tree))

-- Any tree with these events that derives from the tokens is that one.
abbrev pub TreesAreBound : Type 0
TreesAreBound =
    (t : Source) (es : List Item) (k : Known) (c d : OpenNodes) (g : Gathered) (tree : Trees) (j : ℕ)
    → Sees t es k c g → Answers t c event.Done before.Nothing d → Derives (terminals_of t) tree 0 unit j → events tree ≡ es
    → IsWellFormed t tree × (k.state ≡ unclosed (bound t tree))

-- No call is unfit that is given the next event which the machine of the grammar gives after these,
abbrev pub EventsFit : Type 0
EventsFit =
    (t : Source) (es more : List Item) (next : Item) (k : Known) (c d : OpenNodes) (g : Gathered) (m : Config)
    → Sees t es k c g → machine.Run (terminals_of t) (machine.at 0 unit) (es ++ next ∷ more) m
    → Refuses t c (event_of (next ∷ more)) d → ⊥

-- or the end, where the machine has come to it.
abbrev pub EndFits : Type 0
EndFits =
    (t : Source) (es : List Item) (k : Known) (c d : OpenNodes) (g : Gathered) (m : Config)
    → Sees t es k c g → machine.Run (terminals_of t) (machine.at 0 unit) es m → machine.move (terminals_of t) m ≡ machine.Ends
    → Refuses t c event.Done d → ⊥
