use Rattle.cr_decl.proofs.Parts.{parts_are}
use Rattle.cr_decl.proofs.parts_mean_the_declarator.Goals as goal

pub returns : goal.returns
returns c = parts_are
