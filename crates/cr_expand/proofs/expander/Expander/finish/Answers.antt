use Rattle.std.proofs.Common.{true, refl}
use Rattle.cr_expand.proofs.Fresh.{finished_runs}
use Rattle.cr_expand.proofs.expander.Expander.finish.Goals as goal

pub returns-clause-running : goal.returns-clause-running
returns-clause-running c = λ names macros k. finished_runs names macros c.args.self.now.machine (record c.args.self.now.machine { finished = true }) c.args.self.now.ahead c.args.self.now.fault refl k
