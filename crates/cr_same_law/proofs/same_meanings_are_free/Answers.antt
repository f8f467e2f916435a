use Rattle.cr_same_law.proofs.SameMeaning.{same_meanings_are_free}
use Rattle.cr_same_law.proofs.same_meanings_are_free.Goals as goal

pub returns : goal.returns
returns c = same_meanings_are_free c.lookup_means.ensures c.units_are_consistent.ensures.lists c.units_declare_tags.ensures
