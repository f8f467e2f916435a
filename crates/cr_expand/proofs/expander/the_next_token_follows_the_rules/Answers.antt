use Rattle.cr_expand.proofs.NextRules.{next_follows_the_rules}
use Rattle.cr_expand.proofs.expander.the_next_token_follows_the_rules.Goals as goal

pub returns : goal.returns
returns c = next_follows_the_rules
