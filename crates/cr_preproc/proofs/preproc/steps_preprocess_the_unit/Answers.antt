use Rattle.cr_preproc.proofs.UnitRuns.{goes_by_the_definition, ends_by_the_definition}
use Rattle.cr_preproc.proofs.preproc.steps_preprocess_the_unit.Goals as goal

pub returns-clause-goes : goal.returns-clause-goes
returns-clause-goes c = goes_by_the_definition

pub returns-clause-ends : goal.returns-clause-ends
returns-clause-ends c = ends_by_the_definition
