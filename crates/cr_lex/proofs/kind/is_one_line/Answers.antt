use Rattle.std.proofs.Common.{rules, tests}
use Rattle.std.proofs.lemmas.Iterator.{YieldsList-from_slice}
use Rattle.std.proofs.lemmas.Iterator.Search.{all_from_yields_List}
use Rattle.cr_lex.specs.Scanning.{is_not_line_feed}
use Rattle.cr_lex.proofs.kind.is_one_line.Goals as goal

pub returns : goal.returns
returns c = all_from_yields_List is_not_line_feed _ _ _ c.all.ensures.ran (YieldsList-from_slice c.args.text.now cc) (λ x b q k. search (rules, tests))
