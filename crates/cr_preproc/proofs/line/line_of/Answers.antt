use Rattle.cr_preproc.proofs.LineSplit.{first_of}
use Rattle.cr_preproc.proofs.line.line_of.Goals as goal

pub returns-in-len1-up-clause-parts : goal.returns-in-len1-up-clause-parts
returns-in-len1-up-clause-parts c = let x = first_of c.args.tokens.now c.in-len1-up.len_at_least in c.behind_hash.ensures.parts c.args.tokens.now x.0 x.1
