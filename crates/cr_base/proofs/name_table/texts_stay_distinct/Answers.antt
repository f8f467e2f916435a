use Rattle.cr_base.proofs.NameTables.{IsDistinct-more}
use Rattle.cr_base.proofs.name_table.texts_stay_distinct.Goals as goal

pub returns : goal.returns
returns c = IsDistinct-more
