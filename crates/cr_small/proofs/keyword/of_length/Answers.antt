use Rattle.std.proofs.Common.{ap, sym}
use Rattle.cr_base.specs.Names.{keywords}
use Rattle.cr_small.specs.Keywords.{keywords_of_length}
use Rattle.cr_small.proofs.keyword.of_length.Goals as goal

pub returns-in-4 : goal.returns-in-4
unfolding keywords
returns-in-4 c = ap keywords_of_length (sym c.in-4.is)

pub returns-in-5 : goal.returns-in-5
unfolding keywords
returns-in-5 c = ap keywords_of_length (sym c.in-5.is)

pub returns-in-6 : goal.returns-in-6
unfolding keywords
returns-in-6 c = ap keywords_of_length (sym c.in-6.is)

pub returns-in-7 : goal.returns-in-7
unfolding keywords
returns-in-7 c = ap keywords_of_length (sym c.in-7.is)

pub returns-in-8 : goal.returns-in-8
unfolding keywords
returns-in-8 c = ap keywords_of_length (sym c.in-8.is)

pub returns-in-10 : goal.returns-in-10
unfolding keywords
returns-in-10 c = ap keywords_of_length (sym c.in-10.is)

pub returns-in-13 : goal.returns-in-13
unfolding keywords
returns-in-13 c = ap keywords_of_length (sym c.in-13.is)
