use Rattle.cr_preproc.proofs.LineSplit.{split}
use Rattle.cr_preproc.proofs.line.behind_hash.Goals as goal

pub returns-then-is_ident-clause-parts : goal.returns-then-is_ident-clause-parts
returns-then-is_ident-clause-parts c all first e = c.by_word.ensures.parts c.args.tokens.now all first (split c.args.tokens.now _ c.in-len1-up.len_at_least) e
