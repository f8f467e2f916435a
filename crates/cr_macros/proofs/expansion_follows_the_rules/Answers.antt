use Rattle.cr_macros.proofs.Equation.{expand_rules}
use Rattle.cr_macros.proofs.expansion_follows_the_rules.Goals as goal

pub returns : goal.returns
returns c = expand_rules
