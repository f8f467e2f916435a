use Rattle.cr_known.proofs.Cutting.{faults_of_cut_trees}
use Rattle.cr_known.proofs.faults_are_of_cut_trees.Goals as goal

pub returns : goal.returns
returns c = faults_of_cut_trees
