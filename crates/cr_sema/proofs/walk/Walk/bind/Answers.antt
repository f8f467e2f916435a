use Rattle.cr_acting.specs.Binding.{source_by}
use Rattle.cr_sema.proofs.Coming.{token_so, action_so, ask_so, end_so}
use Rattle.cr_sema.proofs.walk.Walk.bind.Goals as goal

pub returns-in-Token : goal.returns-in-Token
returns-in-Token c =
    λ es led. token_so (source_by c.args.words) es c.args.self.now _ c.args.event _ c.in-Token.i c.calls_are_seen.ensures.tokens c.faults_are_of_the_unit.ensures.tokens c.in-Token.is led c.pass.ensures

pub returns-in-Act : goal.returns-in-Act
returns-in-Act c =
    λ es led. action_so (source_by c.args.words) es c.args.self.now _ c.args.event _ c.in-Act.action c.calls_are_seen.ensures.actions c.faults_are_of_the_unit.ensures.actions c.in-Act.is led c.act.ensures

pub returns-in-Ask : goal.returns-in-Ask
returns-in-Ask c =
    λ es led. ask_so (source_by c.args.words) es c.args.self.now c.args.event _ c.in-Ask.is led

pub returns-in-Done : goal.returns-in-Done
returns-in-Done c =
    λ es led. end_so (source_by c.args.words) es c.args.self.now c.args.event c.ends_are_bound.ensures.end c.in-Done.is led
