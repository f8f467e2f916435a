use Rattle.cr_nodes.proofs.Fitting.{machine_fits, end_fits}
use Rattle.cr_nodes.proofs.Called.{awaited_is_fit}
use Rattle.cr_nodes.proofs.laws.the_machine_fits.Goals as goal

pub returns-clause-waits : goal.returns-clause-waits
returns-clause-waits c = machine_fits

pub returns-clause-end : goal.returns-clause-end
returns-clause-end c = end_fits

pub returns-clause-fit : goal.returns-clause-fit
returns-clause-fit c = awaited_is_fit
