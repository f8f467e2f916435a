use Rattle.std.proofs.Common.{subst, List}
use Rattle.cr_world.specs.Outside.{OnlyRead}
use Rattle.cr_survey.specs.Running.{Want}
use Rattle.cr_survey.specs.declared.running.Running.{Running}
use Rattle.cr_survey.proofs.batch.run_wave.Goals as goal

pub returns-in_err-know_all-clause-asked : goal.returns-in_err-know_all-clause-asked
returns-in_err-know_all-clause-asked g c = subst (λ (l : List Running). OnlyRead (λ p. Want l p) (g.T.Tree.readings c.args.tree.now) (g.T.Tree.readings c.know_all.new.tree)) c.deref.ensures.value c.in_err-know_all.ensures.asked

pub returns-in_err-again-clause-asked : goal.returns-in_err-again-clause-asked
returns-in_err-again-clause-asked g c = subst (λ (l : List Running). OnlyRead (λ p. Want l p) (g.T.Tree.readings c.args.tree.now) (g.T.Tree.readings c.know_all.new.tree)) c.deref.ensures.value c.in_ok-know_all.ensures.asked

pub returns-clause-asked : goal.returns-clause-asked
returns-clause-asked g c = subst (λ (l : List Running). OnlyRead (λ p. Want l p) (g.T.Tree.readings c.args.tree.now) (g.T.Tree.readings c.know_all.new.tree)) c.deref.ensures.value c.in_ok-know_all.ensures.asked

pub returns-clause-ends : goal.returns-clause-ends
returns-clause-ends g c ends = c.in_ok-again.ensures.ends c.args.snapshot.now c.in_ok-know_all.ensures.agrees ends
