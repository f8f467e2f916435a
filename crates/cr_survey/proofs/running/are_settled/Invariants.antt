use Rattle.std.proofs.Common.{◌≡◌, drop}
use Rattle.cr_survey.specs.Running.{want_none}
use Rattle.cr_survey.proofs.running.are_settled.Given as goal

abbrev pub invariant-loop-run : goal.invariant-loop-run
invariant-loop-run l = want_none (drop l.run-index l.runs) ≡ want_none l.runs
