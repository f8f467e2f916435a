use Rattle.std.proofs.Common.{sym, ◌∙◌}
use Rattle.cr_small_facts.proofs.Rising.{same_rising}
use Rattle.cr_small_facts.proofs.laws.places_are_one.Goals as goal

pub returns : goal.returns
returns c facts file k one other a b = same_rising 0 0 one other a.rise b.rise (λ n. sym (a.each n) ∙ b.each n)
