-- From calls to runs.
use Rattle.std.proofs.Common.{◌≡◌, Some, Err, List, ◌++◌, refl, sym, ◌∙◌, ap, subst}
use Rattle.cr_ll.specs.declared.state.Event.{Event}
use Rattle.cr_ll.specs.declared.state.Event.TheVariants as event
use Rattle.cr_ll.specs.Guards.{Terminal}
use Rattle.cr_ll.specs.Derivation.{Item}
use Rattle.cr_binding.specs.Steps.{Step}
use Rattle.cr_nodes.specs.declared.nodes.Before.TheVariants as before
use Rattle.cr_nodes.specs.declared.nodes.NodesFault.TheVariants.{Unfit}
use Rattle.cr_nodes.specs.Moves.{OpenNodes, Move, OpensTo, ClosesTo, PassesTo, ActsTo, AsksAt, Ends, Faults, move}
use Rattle.cr_nodes.specs.Gathering.{Gathered}
use Rattle.cr_nodes.specs.Advancing.{Advances, awaited, taken}
use Rattle.cr_nodes.specs.Laws.{Run, stop, opens, closes, passes, acts, asks, Awaits, Makes, CallsAreRuns, RunsJoin, event_of, AwaitedIsFit}

-- the move that waited for an event
taken_by : (ts : List Terminal) (old new : OpenNodes) (g : Gathered) (x : Event) (now : Move) → move ts old ≡ now → awaited now ≡ Some x → new ≡ taken old now → Makes ts old g new before.Nothing x
taken_by ts old new g x (OpensTo m d) is a t = cc
taken_by ts old new g x (ClosesTo d) is a t = cc
taken_by ts old new g x (PassesTo i d) is a t =
    let e : event.Token i ≡ x = cc in
    subst (λ z. Makes ts old g new before.Nothing z) e (passes (is ∙ ap (λ z. PassesTo i z) (sym t)) stop)
taken_by ts old new g x (ActsTo y d) is a t =
    let e : event.Act y ≡ x = cc in
    subst (λ z. Makes ts old g new before.Nothing z) e (acts (is ∙ ap (λ z. ActsTo y z) (sym t)) stop)
taken_by ts old new g x (AsksAt i d) is a t =
    let e : event.Ask i ≡ x = cc in
    subst (λ z. Makes ts old g new before.Nothing z) e (λ answer. asks answer (is ∙ ap (λ z. AsksAt i z) (sym t)) stop)
taken_by ts old new g x Ends is a t =
    let e : event.Done ≡ x = cc in
    subst (λ z. Makes ts old g new before.Nothing z) e (is, t)
taken_by ts old new g x Faults is a t = cc

pub calls_are_runs : CallsAreRuns
calls_are_runs ts old new g x (before.Opens m) a = opens a stop
calls_are_runs ts old new g x before.Closes a = closes a stop
calls_are_runs ts old new g x before.Nothing a = taken_by ts old new g x (move ts old) refl a.0 a.1

join : {ts : List Terminal} {c d e : OpenNodes} {g h k : Gathered} {es fs : List Item} {xs ys : List Step} → Run ts c g es xs d h → Run ts d h fs ys e k → Run ts c g (es ++ fs) (xs ++ ys) e k
join stop more = more
join (opens now run) more = opens now (join run more)
join (closes now run) more = closes now (join run more)
join (passes now run) more = passes now (join run more)
join (acts now run) more = acts now (join run more)
join (asks answer now run) more = asks answer now (join run more)

pub runs_join : RunsJoin
runs_join ts c d e g h k es fs xs ys run more = join run more

not_unfit : (es : List Item) (old new : OpenNodes) (now : Move) → Awaits es now → Advances now old (event_of es) (Err Unfit) new → ⊥
not_unfit es old new (OpensTo m d) w a = a.0
not_unfit es old new (ClosesTo d) w a = a.0
not_unfit es old new (PassesTo i d) w a = a.1 (ap (λ z. Some (event_of z)) (sym w.1))
not_unfit es old new (ActsTo x d) w a = a.1 (ap (λ z. Some (event_of z)) (sym w.1))
not_unfit es old new (AsksAt i d) w a = a.1 (ap (λ z. Some (event_of z)) (sym w.2))
not_unfit es old new Ends w a = a.1 (ap (λ z. Some (event_of z)) (sym w))
not_unfit es old new Faults w a = w

pub awaited_is_fit : AwaitedIsFit
awaited_is_fit ts es old new w a = not_unfit es old new (move ts old) w a
