-- What a call does with an event, by the move that there is.
use Rattle.std.specs.Prelude.{◌≡◌, ◌≢◌, ◌-◌, ◌<◌, ◌^◌, Option, Some, None, Result, Ok, Err}
use Rattle.cr_ll.specs.declared.state.Event.{Event}
use Rattle.cr_ll.specs.declared.state.Event.TheVariants as event
use Rattle.cr_nodes.specs.declared.pending.Pending.{Pending}
use Rattle.cr_nodes.specs.declared.pending.Pending.TheVariants as pending
use Rattle.cr_nodes.specs.declared.nodes.Before.{Before}
use Rattle.cr_nodes.specs.declared.nodes.Before.TheVariants.{Opens, Closes, Nothing}
use Rattle.cr_nodes.specs.declared.nodes.NodesFault.{NodesFault}
use Rattle.cr_nodes.specs.declared.nodes.NodesFault.TheVariants.{Unfit, OutOfMemory}
use Rattle.cr_nodes.specs.Moves.{OpenNodes, Move, OpensTo, ClosesTo, PassesTo, ActsTo, AsksAt, Ends}

-- the event that a move waits for
abbrev pub awaited : Move → Option Event
awaited (PassesTo i d) = Some (event.Token i)
awaited (ActsTo x d) = Some (event.Act x)
awaited (AsksAt i d) = Some (event.Ask i)
awaited Ends = Some event.Done
awaited _ = None

-- what the open nodes are when the event that a move waits for has come
abbrev pub taken : OpenNodes → Move → OpenNodes
taken old (PassesTo i d) = d
taken old (ActsTo x d) = d
taken old (AsksAt i d) = d
taken old _ = old

-- nothing is opened or closed before the next event
abbrev pub IsSettled : Move → Type 0
IsSettled (OpensTo m d) = ⊥
IsSettled (ClosesTo d) = ⊥
IsSettled _ = Unit {0}

abbrev pub Opening : Move → Type 0
Opening (OpensTo m d) = Unit {0}
Opening _ = ⊥

-- A node is opened or closed; or the event was the next one; or it wasn't, or there was no memory for a node to open, and
-- all is as it was.
abbrev pub Advances : Move → OpenNodes → Event → Result Before NodesFault → OpenNodes → Type 0
Advances now old x (Ok (Opens m)) new = now ≡ OpensTo m new
Advances now old x (Ok Closes) new = now ≡ ClosesTo new
Advances now old x (Ok Nothing) new = (awaited now ≡ Some x) × (new ≡ taken old now)
Advances now old x (Err Unfit) new = IsSettled now × (awaited now ≢ Some x) × (new ≡ old)
Advances now old x (Err OutOfMemory) new = Opening now × (new ≡ old)

-- the number of an alternative that waits has a successor
abbrev pub IsShort : Pending → Type 0
IsShort (pending.Waits k) = k < 2 ^ 64 - 1
IsShort _ = Unit {0}
