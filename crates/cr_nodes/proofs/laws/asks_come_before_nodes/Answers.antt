use Rattle.cr_nodes.proofs.Asking.{asks_come_before_nodes}
use Rattle.cr_nodes.proofs.laws.asks_come_before_nodes.Goals as goal

pub returns : goal.returns
returns c = asks_come_before_nodes
