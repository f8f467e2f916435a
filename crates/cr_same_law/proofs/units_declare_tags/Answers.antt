use Rattle.cr_same_law.proofs.Tags.{units_declare_tags}
use Rattle.cr_same_law.proofs.units_declare_tags.Goals as goal

pub returns : goal.returns
returns c = units_declare_tags
