-- What comes behind an ask.
use Rattle.std.proofs.Common.{ℕ, ◌≡◌, ◌⊎◌, inl, inr, Bool, Option, Some, None, List, [], ◌∷◌, refl, subst}
use Rattle.cr_grammar.specs.declared.symbols.NonTerm.{NonTerm}
use Rattle.cr_grammar.specs.declared.symbols.Symbol.{Symbol}
use Rattle.cr_grammar.specs.declared.symbols.Symbol.TheVariants.{Term, Non, Act}
use Rattle.cr_ll.specs.declared.guards.Verdict.{Verdict}
use Rattle.cr_ll.specs.declared.guards.Verdict.TheVariants.{Holds}
use Rattle.cr_ll.specs.declared.guards.Choice.{Choice}
use Rattle.cr_ll.specs.declared.guards.Choice.TheVariants.{Nothing, Takes, Waits}
use Rattle.cr_ll.specs.Guards.{Terminal}
use Rattle.cr_ll.specs.Derivation.{Item}
use Rattle.cr_binding.specs.Steps.{Step}
use Rattle.cr_nodes.specs.declared.pending.Pending.{Pending}
use Rattle.cr_nodes.specs.declared.pending.Pending.TheVariants as pending
use Rattle.cr_nodes.specs.Moves.{Row, row, OpenNodes, Move, AsksAt, body_of, opens_by, by_choice, by_pending, passes_by, closes_by, move_on, move}
use Rattle.cr_nodes.specs.Gathering.{Branch, Gathered, closing_on}
use Rattle.cr_nodes.specs.Laws.{Run, stop, opens, closes, passes, acts, asks, NodeIsNext, AsksComeBeforeNodes}

-- where a move asks, a node is next behind the reply
abbrev AsksForNode : Move → Type 0
AsksForNode (AsksAt i d) = NodeIsNext d
AsksForNode m = Prim.Unit {0}

by_body : (m : NonTerm) (i : ℕ) (upper : Row) (above : List Row) (o : Option (List Symbol)) → AsksForNode (opens_by m i upper above o)
by_body m i upper above None = tt
by_body m i upper above (Some body) = tt

chosen : (m : NonTerm) (i : ℕ) (childless : Bool) (upper : Row) (above : List Row) (c : Choice) → AsksForNode (by_choice m i childless upper above c)
chosen m i childless upper above Nothing = tt
chosen m i childless upper above (Takes k) = by_body m i upper above (body_of m k)
chosen m i childless upper above (Waits k ahead) = (m, upper.rest, refl)

waiting : (ts : List Terminal) (m : NonTerm) (i : ℕ) (childless : Bool) (upper : Row) (above : List Row) (p : Pending) → AsksForNode (by_pending ts m i childless upper above p)
waiting ts m i childless upper above (pending.From k) = chosen m i childless upper above _
waiting ts m i childless upper above (pending.Waits k) = tt
waiting ts m i childless upper above (pending.Takes k) = by_body m i upper above (body_of m k)

met : (i : ℕ) (inner : Row) (above : List Row) (v : Verdict) → AsksForNode (passes_by i inner above v)
met i inner above Holds = tt
met i inner above _ = tt

closed : (i : ℕ) (above : List Row) → AsksForNode (closes_by i above)
closed i [] = tt
closed i (upper ∷ above) = tt

moved : (ts : List Terminal) (i : ℕ) (p : Pending) (childless : Bool) (m : NonTerm) (above : List Row) (ss : List Symbol) → AsksForNode (move_on ts i p childless m above ss)
moved ts i p childless m above [] = closed i above
moved ts i p childless m above (Term t ∷ ss) = met i (row m ss) above _
moved ts i p childless m above (Act a ∷ ss) = tt
moved ts i p childless m above (Non k ∷ ss) = waiting ts k i childless (row m ss) above p

asked_for : (ts : List Terminal) (c d : OpenNodes) (i : ℕ) → move ts c ≡ AsksAt i d → NodeIsNext d
asked_for ts c d i e = subst AsksForNode e (moved ts c.place c.pending c.childless c.inner.node c.above c.inner.rest)

closed_asks : (b : Branch) (above : List Branch) → (closing_on b above).asks ≡ []
closed_asks b [] = refl
closed_asks b (upper ∷ above) = refl

stays : {ts : List Terminal} {c d : OpenNodes} {g h : Gathered} {es : List Item} {xs : List Step} → Run ts c g es xs d h → (g.asks ≡ []) ⊎ NodeIsNext c → (h.asks ≡ []) ⊎ NodeIsNext d
stays stop k = k
stays (opens e run) k = stays run (inl refl)
stays {g = g} (closes e run) k = stays run (inl (closed_asks g.inner g.above))
stays (passes e run) k = stays run (inl refl)
stays (acts e run) k = stays run (inl refl)
stays {ts} {c = c} (asks {d = d} {i = i} answer e run) k = stays run (inr (asked_for ts c d i e))

pub asks_come_before_nodes : AsksComeBeforeNodes
asks_come_before_nodes ts es xs c g run = stays run (inl refl)
