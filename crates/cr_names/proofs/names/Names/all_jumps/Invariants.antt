use Rattle.cr_names.proofs.Jumping.{AreBound}
use Rattle.cr_names.proofs.names.Names.all_jumps.Given as goal

abbrev pub invariant-loop-i : goal.invariant-loop-i
invariant-loop-i l = AreBound l.tokens l.jumps l.initial.self l.self l.i-index
