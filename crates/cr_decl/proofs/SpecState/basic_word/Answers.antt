use Rattle.std.proofs.Common.{arith}
use Rattle.cr_decl.proofs.Counts.{taken_is_short}
use Rattle.cr_decl.proofs.SpecState.basic_word.Goals as goal

pub invariant_of-self-2 : goal.invariant_of-self-2
invariant_of-self-2 c = (
  taken_is_short c.put.new.words c.self.inside.basic_len c.continues.result (omega (arith, c.put.auto.words, c.self.invariant.0)) c.continues.ensures c.if-not-continues.false,
  c.self.invariant.1,
)
