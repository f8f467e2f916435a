use Rattle.cr_small.proofs.Walk.{Walked}
use Rattle.cr_small.proofs.binder.bind.Given as goal

abbrev pub invariant-loop-i : goal.invariant-loop-i
invariant-loop-i l = Walked l.names l.tokens l.parts l.i l.scopes l.denotes.items
