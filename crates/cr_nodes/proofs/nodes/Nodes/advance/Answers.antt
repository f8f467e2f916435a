use Rattle.std.proofs.Common.{arith}
use Rattle.std.proofs.lemmas.Grind.{common_steps}
use Rattle.cr_ll.specs.Guards.{terminals}
use Rattle.cr_nodes.proofs.Falling.{falls}
use Rattle.cr_nodes.proofs.nodes.Nodes.advance.Goals as goal

pub returns-in-Non-clause-falls : goal.returns-in-Non-clause-falls
returns-in-Non-clause-falls c = falls (terminals c.args.names.now c.args.tokens.now) c.args.self.now c.open_next.new.self c.args.event c.open_next.result (grind (arith, common_steps))
