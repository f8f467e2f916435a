use Rattle.std.proofs.Common.{◌∙◌, sym, ap, subst, None, Some}
use Rattle.cr_lex.specs.Lexing.{lexed}
use Rattle.cr_small.specs.Texts.{Reads, IsTextOf}
use Rattle.cr_run.specs.Goal.{unbuilt}
use Rattle.cr_run.specs.Seen.{goal_of_code}
use Rattle.cr_run.proofs.Meanings.{means}
use Rattle.cr_run.proofs.Decisions.{plans_of, meaning_is}
use Rattle.cr_run.proofs.plan.plan_source.Goals as goal

pub returns-in_default-clause-decided : goal.returns-in_default-clause-decided
returns-in_default-clause-decided g c meaning files es is told parted there =
    let none = subst (Reads c.args.bytes.now) c.in_default.is c.in_ok-text.ensures in
    meaning_is meaning files (goal_of_code c.args.goal.now) es (lexed c.args.bytes.now) None (means c.denotations_are_one.ensures meaning is (lexed c.args.bytes.now) None none) ∙ ap unbuilt (sym c.in_ok-copy.ensures)

pub returns-clause-decided : goal.returns-clause-decided
returns-clause-decided g c meaning files es is told parted there =
    let text : IsTextOf c.args.bytes.now c.in-Some.text = subst (Reads c.args.bytes.now) c.in-Some.is c.in_ok-text.ensures in
    let meant = means c.denotations_are_one.ensures meaning is (lexed c.args.bytes.now) (Some c.in-Some.text.denotes) text.small in
    plans_of files _ _ _ (sym (meaning_is meaning files (goal_of_code c.args.goal.now) es (lexed c.args.bytes.now) (Some c.in-Some.text.denotes) meant))
    (c.plan_text.ensures.decided meaning files es is told parted there meant)
