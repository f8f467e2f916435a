use Rattle.cr_keys_law.proofs.Moving.{keys_move}
use Rattle.cr_keys_law.proofs.keys_move.Goals as goal

pub returns : goal.returns
returns c = keys_move c.units_are_consistent.ensures.lists
