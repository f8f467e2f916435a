use Rattle.std.proofs.Common.{rules}
use Rattle.cr_typing.proofs.Lists.{others_listed}
use Rattle.cr_typing.proofs.typing.end_in.Goals as goal

pub returns-in-Some-clause-others : goal.returns-in-Some-clause-others
returns-in-Some-clause-others c =
    others_listed c.args.records.now.entries _ c.args.r (λ q apart. ((c.get_mut.follows.holds c.end.new.self).3 (search rules)).2 q apart)
