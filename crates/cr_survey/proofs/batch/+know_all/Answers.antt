use Rattle.std.proofs.Common.{rules, ◌-◌, drop, take, length, subst}
use Rattle.std.specs.List.{Contains}
use Rattle.cr_world.proofs.Histories.{read_both, read_wider}
use Rattle.cr_survey.specs.Running.{Want}
use Rattle.cr_survey.proofs.Runs.{want_rest}
use Rattle.cr_survey.proofs.batch.+know_all.Goals as goal

pub returns-in_err-know_wanted-in-len1-up-clause-asked : goal.returns-in_err-know_wanted-in-len1-up-clause-asked
returns-in_err-know_wanted-in-len1-up-clause-asked g t c =
    let head : Contains c.args.runs.now c.run-item.result = search rules in
    read_wider (λ p. Contains c.wants.result.now p) (λ p. Want c.args.runs.now p) (λ p h. (c.run-item.result, head, subst (λ l. Contains l p) c.wants.ensures h)) _ _ c.in_err-know_wanted-in-len1-up.ensures.asked

pub returns-in_ok-know_wanted-in-len1-up-clause-asked : goal.returns-in_ok-know_wanted-in-len1-up-clause-asked
returns-in_ok-know_wanted-in-len1-up-clause-asked g t c =
    let head : Contains c.args.runs.now c.run-item.result = search rules in
    read_both (λ p. Want c.args.runs.now p) _ _ _
    (read_wider (λ p. Contains c.wants.result.now p) (λ p. Want c.args.runs.now p) (λ p h. (c.run-item.result, head, subst (λ l. Contains l p) c.wants.ensures h)) _ _ c.in_ok-know_wanted-in-len1-up.ensures.asked)
    (read_wider (λ p. Want (take (length c.args.runs.now - 1) (drop 1 c.args.runs.now)) p) (λ p. Want c.args.runs.now p) (λ p h. want_rest c.args.runs.now p h) _ _ c.know_all.ensures.asked)
