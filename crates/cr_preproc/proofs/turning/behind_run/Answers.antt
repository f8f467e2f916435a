use Rattle.cr_phase4.specs.Tasks.{Task, Nothing}
use Rattle.cr_preproc.specs.Turning.{doing_left, IsBehind, IsEnded}
use Rattle.cr_preproc.specs.OpenFiles.{reading_of}
use Rattle.cr_preproc.specs.Falling.{rank, IsBelow}
use Rattle.std.proofs.Common.{subst}
use Rattle.cr_preproc.proofs.DirectiveTurns.{behind_working}
use Rattle.cr_preproc.proofs.turning.behind_run.Goals as goal

pub returns-in-Ok-clause-turned : goal.returns-in-Ok-clause-turned
returns-in-Ok-clause-turned c w u files p q d o behind =
    let before = λ (k : Task Nothing). doing_left w u p (reading_of p.names files c.args.file.now) k d in
    let h = subst (λ n. IsBehind w u files p q c.args.file.now before n) c.in-Ok.is behind in
    let ended : IsEnded c.args.file.now c.end_run.new.self = record { line = c.end_run.ensures.line; run = c.end_run.ensures.run; rest = c.end_run.ensures.rest } in
    (h.0 c.end_run.new.self ended, behind_working w u files p q c.args.file.now c.end_run.new.self before c.in-Ok.next (c.end_run.ensures.open q.names files o) ended h)

pub returns-in-Err-clause-turned : goal.returns-in-Err-clause-turned
returns-in-Err-clause-turned c w u files p q d o behind =
    let before = λ (k : Task Nothing). doing_left w u p (reading_of p.names files c.args.file.now) k d in
    let h = subst (λ n. IsBehind w u files p q c.args.file.now before n) c.in-Err.is behind in
    (h.0, h.1)

pub returns-in-Ok-clause-falls : goal.returns-in-Ok-clause-falls
returns-in-Ok-clause-falls c p q d reads below = (reads, (subst (IsBelow (rank c.args.file.now d)) c.in-Ok.is below) c.end_run.new.self c.end_run.ensures.line)

pub returns-in-Err-clause-falls : goal.returns-in-Err-clause-falls
returns-in-Err-clause-falls c p q d reads below = tt
