use Rattle.cr_unit_law.proofs.Ones.{one_tree, one_fault, no_fault}
use Rattle.cr_unit_law.proofs.units_are_one.Goals as goal

pub returns-clause-trees : goal.returns-clause-trees
returns-clause-trees c = one_tree

pub returns-clause-faults : goal.returns-clause-faults
returns-clause-faults c = one_fault

pub returns-clause-none : goal.returns-clause-none
returns-clause-none c = no_fault
