-- How nodes are opened and closed between the tokens, actions and asks of a unit, by the guarded table.
use Rattle.std.specs.Prelude.{ℕ, ◌+◌, Bool, true, false, if◌then◌else◌, Option, Some, None, List, [], ◌∷◌, drop, slice_get, option_map}
use Rattle.cr_grammar.specs.declared.symbols.NonTerm.{NonTerm}
use Rattle.cr_grammar.specs.declared.symbols.NonTerm.TheVariants as n
use Rattle.cr_grammar.specs.declared.symbols.Action.{Action}
use Rattle.cr_grammar.specs.declared.symbols.Symbol.{Symbol}
use Rattle.cr_grammar.specs.declared.symbols.Symbol.TheVariants.{Term, Non, Act}
use Rattle.cr_grammar.specs.Grammar.{rule, Row as Alternative}
use Rattle.cr_ll.specs.declared.guards.Verdict.{Verdict}
use Rattle.cr_ll.specs.declared.guards.Verdict.TheVariants.{Holds}
use Rattle.cr_ll.specs.declared.guards.Choice.{Choice}
use Rattle.cr_ll.specs.declared.guards.Choice.TheVariants.{Nothing, Takes, Waits}
use Rattle.cr_ll.specs.Guards.{Terminal, ask_at, token_at, meets, choice}
use Rattle.cr_ll.specs.Laws.{unit}
use Rattle.cr_nodes.specs.declared.pending.Pending.{Pending}
use Rattle.cr_nodes.specs.declared.pending.Pending.TheVariants as pending

-- an open node, and the symbols of its alternative that are left
pub record Row : Type 0 where
  pub node : NonTerm
  pub rest : List Symbol

-- place: of the next token; pending: what is known of the alternatives of the next node; childless: nothing stands in the
-- innermost open node yet; then that node, and those above it
pub record OpenNodes : Type 0 where
  pub place : ℕ
  pub pending : Pending
  pub childless : Bool
  pub inner : Row
  pub above : List Row

abbrev pub row : NonTerm → List Symbol → Row
row m ss = record { node = m; rest = ss }

abbrev pub at : ℕ → Pending → Bool → Row → List Row → OpenNodes
at i p childless inner above = record { place = i; pending = p; childless = childless; inner = inner; above = above }

-- a node whose row is the whole unit stands around it, and is never closed
abbrev pub at_start : OpenNodes
at_start = at 0 (pending.From 0) true (row n.Unit unit) []

pub data Move : Type 0 where
  OpensTo : NonTerm → OpenNodes → Move
  ClosesTo : OpenNodes → Move
  PassesTo : ℕ → OpenNodes → Move
  ActsTo : Action → OpenNodes → Move
  AsksAt : ℕ → OpenNodes → Move
  Ends : Move
  Faults : Move

-- the symbols of the alternative number k
abbrev pub body_of : NonTerm → ℕ → Option (List Symbol)
body_of m k = option_map (λ (r : Alternative). r.1) (slice_get (rule m) k)

-- the node m is opened below another
abbrev pub opens_by : NonTerm → ℕ → Row → List Row → Option (List Symbol) → Move
opens_by m i upper above None = Faults
opens_by m i upper above (Some body) = OpensTo m (at i (pending.From 0) true (row m body) (upper ∷ above))

-- what is asked for waits with the node in place
abbrev pub by_choice : NonTerm → ℕ → Bool → Row → List Row → Choice → Move
by_choice m i childless upper above Nothing = Faults
by_choice m i childless upper above (Takes k) = opens_by m i upper above (body_of m k)
by_choice m i childless upper above (Waits k ahead) =
    AsksAt (ask_at i ahead) (at i (pending.Waits k) childless (row upper.node (Non m ∷ upper.rest)) above)

-- nothing happens between an ask and its reply
abbrev pub by_pending : List Terminal → NonTerm → ℕ → Bool → Row → List Row → Pending → Move
by_pending ts m i childless upper above (pending.From k) =
    by_choice m i childless upper above (choice k (drop k (rule m)) (token_at ts i) (token_at ts (i + 1)))
by_pending ts m i childless upper above (pending.Waits k) = Faults
by_pending ts m i childless upper above (pending.Takes k) = opens_by m i upper above (body_of m k)

abbrev pub passes_by : ℕ → Row → List Row → Verdict → Move
passes_by i inner above Holds = PassesTo i (at (i + 1) (pending.From 0) false inner above)
passes_by i inner above _ = Faults

-- a node is closed as soon as its row is used up
abbrev pub closes_by : ℕ → List Row → Move
closes_by i [] = Ends
closes_by i (upper ∷ above) = ClosesTo (at i (pending.From 0) false upper above)

abbrev pub move_on : List Terminal → ℕ → Pending → Bool → NonTerm → List Row → List Symbol → Move
move_on ts i p childless m above [] = closes_by i above
move_on ts i p childless m above (Term t ∷ ss) = passes_by i (row m ss) above (meets t (token_at ts i))
move_on ts i p childless m above (Act a ∷ ss) = ActsTo a (at i (pending.From 0) false (row m ss) above)
move_on ts i p childless m above (Non k ∷ ss) = by_pending ts k i childless (row m ss) above p

abbrev pub move : List Terminal → OpenNodes → Move
move ts c = move_on ts c.place c.pending c.childless c.inner.node c.above c.inner.rest

-- the ask has this answer: its alternative is taken, or refused
abbrev pub answered : Bool → Pending → Pending
answered answer (pending.Waits k) = if answer then pending.Takes k else pending.From (k + 1)
answered answer p = p

abbrev pub replied : Bool → OpenNodes → OpenNodes
replied answer c = at c.place (answered answer c.pending) c.childless c.inner c.above
