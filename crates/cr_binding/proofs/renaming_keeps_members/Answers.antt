use Rattle.cr_binding.proofs.Selecting.{keeps_selection, keeps_new_members}
use Rattle.cr_binding.proofs.renaming_keeps_members.Goals as goal

pub returns-clause-selection : goal.returns-clause-selection
returns-clause-selection c = keeps_selection

pub returns-clause-members : goal.returns-clause-members
returns-clause-members c = keeps_new_members
