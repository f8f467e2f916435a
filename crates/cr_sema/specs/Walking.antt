-- How the events of a unit are bound one by one.
use Rattle.std.specs.Prelude.{◌≡◌, Bool, true, false, Result, Ok, Err, List, [], ◌∷◌, ◌++◌}
use Rattle.cr_ll.specs.declared.state.Event.{Event}
use Rattle.cr_ll.specs.declared.state.Event.TheVariants as event
use Rattle.cr_ll.specs.Derivation.{Item, Passed, Due, Trees, events}
use Rattle.cr_ll.specs.Laws.{unit}
use Rattle.cr_ll.specs.Machine.{Config, at, Ends, move, Run}
use Rattle.cr_binding.specs.Source.{Source}
use Rattle.cr_binding.specs.Binding.{bound}
use Rattle.cr_binding.specs.WellFormed.{terminals_of, IsWellFormed, IsIll}
use Rattle.cr_known.specs.Known.{unclosed}
use Rattle.cr_names.specs.declared.fault.BindFault.{BindFault}
use Rattle.cr_names.specs.Names.{Refuses}
use Rattle.cr_nodes.specs.declared.nodes.Before.TheVariants as before
use Rattle.cr_nodes.specs.Moves.{OpenNodes}
use Rattle.cr_nodes.specs.Gathering.{Gathered}
use Rattle.cr_nodes.specs.Laws.{event_of}
use Rattle.cr_walk.specs.Seen.{Sees}
use Rattle.cr_walk.specs.Laws.{Answers}
use Rattle.cr_binder.specs.Binder.{known_of, IsOf}
use Rattle.cr_sema.specs.declared.walk.Walk.{Walk}

-- Events of a unit with these tokens have come, and what is kept is what is bound of them.
pub record HasCome (t : Source) (es : List Item) (w : Walk) : Type 0 where
  pub gathered : Gathered
  pub sees : Sees t es (known_of w.binder) w.nodes gathered
  pub of : IsOf t w.binder

-- The machine of the grammar gives this event behind those, or is at the end there.
abbrev pub IsNext : Source → List Item → Event → Type 0
IsNext t es event.Done = (m : Config) × Run (terminals_of t) (at 0 unit) es m × (move (terminals_of t) m ≡ Ends)
IsNext t es e =
    (next : Item) × (m : Config) × Run (terminals_of t) (at 0 unit) (es ++ next ∷ []) m × (event_of (next ∷ []) ≡ e)

-- an event that may come
abbrev pub MayCome : Source → Event → Walk → Type 0
MayCome t e w = (es : List Item) × HasCome t es w × IsNext t es e

-- The nodes before an event were opened and closed, and it is the next one; but it isn't bound yet.
pub record IsLed (t : Source) (es : List Item) (e : Event) (w : Walk) : Type 0 where
  pub nodes : OpenNodes
  pub gathered : Gathered
  pub sees : Sees t es (known_of w.binder) nodes gathered
  pub answers : Answers t nodes e before.Nothing w.nodes
  pub of : IsOf t w.binder

-- a node was opened or closed, or the event is the next one
abbrev pub Steps : Source → List Item → Event → Walk → Bool → Type 0
Steps t es e w false = HasCome t es w
Steps t es e w true = IsLed t es e w

-- At the end the unit is well-formed, with this tree, which has these events, and its binding is kept.
pub record IsBoundBy (t : Source) (es : List Item) (w : Walk) : Type 0 where
  pub tree : Trees
  pub well_formed : IsWellFormed t tree
  pub events : events tree ≡ es
  pub state : (known_of w.binder).state ≡ unclosed (bound t tree)
  pub of : IsOf t w.binder

-- an event is bound
abbrev pub IsTaken : Source → List Item → Event → Walk → Type 0
IsTaken t es (event.Token i) w = HasCome t (es ++ Passed i ∷ []) w
IsTaken t es (event.Act x) w = HasCome t (es ++ Due x ∷ []) w
IsTaken t es (event.Ask i) w = IsLed t es (event.Ask i) w
IsTaken t es event.Done w = IsBoundBy t es w

-- or the unit is ill-formed there
abbrev pub Takes : Source → List Item → Event → Walk → Result (Unit {0}) BindFault → Type 0
Takes t es e w (Ok x) = IsTaken t es e w
Takes t es e w (Err f) = Refuses f (IsIll t)
