use Rattle.cr_binding_law.proofs.Balanced.{labels_stand_in_functions}
use Rattle.cr_binding_law.proofs.Consistent.{units_are_consistent}
use Rattle.cr_binding_law.proofs.units_are_consistent.Goals as goal

pub returns-clause-lists : goal.returns-clause-lists
returns-clause-lists c = units_are_consistent

pub returns-clause-labels : goal.returns-clause-labels
returns-clause-labels c = labels_stand_in_functions
