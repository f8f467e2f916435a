-- Before the next event only so many nodes are opened and closed.
use Rattle.std.proofs.Common.{◌≡◌, ℕ, zero, suc, ◌+◌, ◌*◌, ◌<◌, Bool, true, Option, Some, None, Result, Ok, Err, List, [], ◌∷◌, ◌++◌, length, drop, refl, subst, arith}
use Rattle.std.specs.Prelude.{slice_get, option_map}
use Rattle.cr_grammar.specs.declared.symbols.NonTerm.{NonTerm}
use Rattle.cr_grammar.specs.declared.symbols.Symbol.{Symbol}
use Rattle.cr_grammar.specs.declared.symbols.Symbol.TheVariants.{Term, Non, Act}
use Rattle.cr_grammar.specs.Grammar.{rule, Row as Alternative}
use Rattle.cr_ll.specs.declared.guards.Verdict.{Verdict}
use Rattle.cr_ll.specs.declared.guards.Verdict.TheVariants.{Holds, Fails, Asks}
use Rattle.cr_ll.specs.declared.guards.Choice.{Choice}
use Rattle.cr_ll.specs.declared.guards.Choice.TheVariants.{Nothing, Takes, Waits}
use Rattle.cr_ll.specs.Guards.{Terminal, token_at, meets, choice}
use Rattle.cr_ll.specs.declared.state.Event.{Event}
use Rattle.cr_ll.specs.Weights.{weight}
use Rattle.cr_ll.proofs.Weight.{fine, all_fine, table_fine, and_left, and_right, fine_lighter}
use Rattle.cr_nodes.specs.declared.pending.Pending.{Pending}
use Rattle.cr_nodes.specs.declared.pending.Pending.TheVariants as pending
use Rattle.cr_nodes.specs.declared.nodes.Before.{Before}
use Rattle.cr_nodes.specs.declared.nodes.Before.TheVariants as before
use Rattle.cr_nodes.specs.declared.nodes.NodesFault.{NodesFault}
use Rattle.cr_nodes.specs.Moves.{Row, row, OpenNodes, Move, OpensTo, ClosesTo, body_of, opens_by, by_choice, by_pending, passes_by, closes_by, move_on, move}
use Rattle.cr_nodes.specs.Advancing.{Advances}
use Rattle.cr_nodes.specs.Falling.{left_above, at_most, Falls}

body_fine : (m : NonTerm) (rows : List Alternative) (k : ℕ) (body : List Symbol) → all_fine m rows ≡ true → option_map (λ (r : Alternative). r.1) (slice_get rows k) ≡ Some body → fine m body ≡ true
body_fine m [] k body all h = cc
body_fine m (r ∷ rows) zero body all h =
    let e : r.1 ≡ body = cc in
    subst (λ z. fine m z ≡ true) e (and_left (fine m r.1) (all_fine m rows) all)
body_fine m (r ∷ rows) (suc k) body all h = body_fine m rows k body (and_right (fine m r.1) (all_fine m rows) all) h

-- where a move leads to, less can happen before the next event
abbrev pub Smaller : ℕ → Move → Type 0
Smaller old (OpensTo m d) = at_most d < old
Smaller old (ClosesTo d) = at_most d < old
Smaller old _ = Unit {0}

opens_smaller : (m : NonTerm) (i : ℕ) (upper : Row) (above : List Row) (k : ℕ) (body : Option (List Symbol)) → body_of m k ≡ body → Smaller (2 * weight (Non m ∷ (upper.rest ++ left_above above)) + length above) (opens_by m i upper above body)
opens_smaller m i upper above k None e = tt
opens_smaller m i upper above k (Some body) e =
    let less : weight (body ++ (upper.rest ++ left_above above)) < weight (Non m ∷ (upper.rest ++ left_above above)) =
    fine_lighter m body (upper.rest ++ left_above above) (body_fine m (rule m) k body (table_fine m) e) in
    omega arith

choice_smaller : (o : Bool) (m : NonTerm) (i : ℕ) (upper : Row) (above : List Row) (ch : Choice) → Smaller (2 * weight (Non m ∷ (upper.rest ++ left_above above)) + length above) (by_choice m i o upper above ch)
choice_smaller o m i upper above Nothing = tt
choice_smaller o m i upper above (Takes k) = opens_smaller m i upper above k (body_of m k) refl
choice_smaller o m i upper above (Waits k ahead) = tt

pending_smaller : (o : Bool) (ts : List Terminal) (m : NonTerm) (i : ℕ) (upper : Row) (above : List Row) (p : Pending) → Smaller (2 * weight (Non m ∷ (upper.rest ++ left_above above)) + length above) (by_pending ts m i o upper above p)
pending_smaller o ts m i upper above (pending.From k) = choice_smaller o m i upper above (choice k (drop k (rule m)) (token_at ts i) (token_at ts (i + 1)))
pending_smaller o ts m i upper above (pending.Waits k) = tt
pending_smaller o ts m i upper above (pending.Takes k) = opens_smaller m i upper above k (body_of m k) refl

passes_smaller : (old i : ℕ) (inner : Row) (above : List Row) (v : Verdict) → Smaller old (passes_by i inner above v)
passes_smaller old i inner above Holds = tt
passes_smaller old i inner above Fails = tt
passes_smaller old i inner above (Asks k) = tt

closes_smaller : (i : ℕ) (above : List Row) → Smaller (2 * weight (left_above above) + length above) (closes_by i above)
closes_smaller i [] = tt
closes_smaller i (upper ∷ above) = omega arith

smaller_on : (o : Bool) (ts : List Terminal) (i : ℕ) (p : Pending) (m : NonTerm) (above : List Row) (ss : List Symbol) → Smaller (2 * weight (ss ++ left_above above) + length above) (move_on ts i p o m above ss)
smaller_on o ts i p m above [] = closes_smaller i above
smaller_on o ts i p m above (Term t ∷ ss) = passes_smaller _ i (row m ss) above (meets t (token_at ts i))
smaller_on o ts i p m above (Act a ∷ ss) = tt
smaller_on o ts i p m above (Non k ∷ ss) = pending_smaller o ts k i (row m ss) above p

smaller : (ts : List Terminal) (c : OpenNodes) → Smaller (at_most c) (move ts c)
smaller ts c = smaller_on c.childless ts c.place c.pending c.inner.node c.above c.inner.rest

pub falls : (ts : List Terminal) (old new : OpenNodes) (x : Event) (result : Result Before NodesFault) → Advances (move ts old) old x result new → Falls old result new
falls ts old new x (Ok (before.Opens m)) a = subst (Smaller (at_most old)) a (smaller ts old)
falls ts old new x (Ok before.Closes) a = subst (Smaller (at_most old)) a (smaller ts old)
falls ts old new x (Ok before.Nothing) a = tt
falls ts old new x (Err e) a = tt
