use Rattle.cr_preproc.proofs.directing.undefine.Goals as goal

pub returns-then-branch-clause-good : goal.returns-then-branch-clause-good
returns-then-branch-clause-good c = (c.in_ok-undefine.ensures.carried c.if-branch.true c.args.hash).good
