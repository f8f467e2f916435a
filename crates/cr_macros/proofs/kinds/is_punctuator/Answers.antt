use Rattle.std.proofs.Common.{rules, tests, ◌==◌}
use Rattle.std.specs.Prelude.{bytes_eq}
use Rattle.std.proofs.lemmas.Iterator.Splits.{YieldsList-from_slice_split}
use Rattle.std.proofs.lemmas.Iterator.Search.{any_from_yields_List}
use Rattle.cr_macros.specs.OneToken as spec
use Rattle.cr_macros.proofs.kinds.is_punctuator.Goals as goal

pub returns : goal.returns
unfolding spec.is_punctuator spec.punctuators
returns c = any_from_yields_List (λ mark. bytes_eq mark c.args.text.now) _ _ _ c.any.ensures.ran (YieldsList-from_slice_split _ (λ b. b == 32) _ c.split.ensures.rest c.split.ensures.done c.split.ensures.closure (λ x b q k. search (rules, tests))) (λ x b q k. search (rules, tests))
