use Rattle.cr_lex.specs.Standing.{IsPlain}
use Rattle.cr_lex.proofs.text.has_join.Given as goal

abbrev pub invariant-loop-at : goal.invariant-loop-at
invariant-loop-at l = IsPlain l.bytes l.fn.from l.at
