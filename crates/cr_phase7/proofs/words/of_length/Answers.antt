use Rattle.std.proofs.Common.{ap, sym}
use Rattle.cr_base.specs.Names.{keywords}
use Rattle.cr_phase7.specs.Tokens.{words_of_length, further_words}
use Rattle.cr_phase7.proofs.words.of_length.Goals as goal

pub returns-in-4 : goal.returns-in-4
unfolding keywords further_words
returns-in-4 c = ap words_of_length (sym c.in-4.is)

pub returns-in-5 : goal.returns-in-5
unfolding keywords further_words
returns-in-5 c = ap words_of_length (sym c.in-5.is)

pub returns-in-6 : goal.returns-in-6
unfolding keywords further_words
returns-in-6 c = ap words_of_length (sym c.in-6.is)

pub returns-in-7 : goal.returns-in-7
unfolding keywords further_words
returns-in-7 c = ap words_of_length (sym c.in-7.is)

pub returns-in-8 : goal.returns-in-8
unfolding keywords further_words
returns-in-8 c = ap words_of_length (sym c.in-8.is)

pub returns-in-10 : goal.returns-in-10
unfolding keywords further_words
returns-in-10 c = ap words_of_length (sym c.in-10.is)

pub returns-in-13 : goal.returns-in-13
unfolding keywords further_words
returns-in-13 c = ap words_of_length (sym c.in-13.is)
