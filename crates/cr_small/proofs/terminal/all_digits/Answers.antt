use Rattle.std.proofs.Common.{rules, tests}
use Rattle.std.proofs.lemmas.Iterator.{YieldsList-from_slice}
use Rattle.std.proofs.lemmas.Iterator.Search.{all_from_yields_List}
use Rattle.cr_base.specs.Names as names
use Rattle.cr_small.proofs.terminal.all_digits.Goals as goal

pub returns : goal.returns
returns c = all_from_yields_List names.is_digit _ _ _ c.all.ensures.ran (YieldsList-from_slice c.args.text.now cc) (λ x b q k. search (rules, tests))
