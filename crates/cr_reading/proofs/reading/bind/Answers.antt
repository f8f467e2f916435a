use Rattle.std.proofs.Common.{subst, Err}
use Rattle.cr_sema.specs.Sema.{source_of, Acts}
use Rattle.cr_reading.proofs.reading.bind.Goals as goal

pub returns-in-Ok : goal.returns-in-Ok
returns-in-Ok c = λ es come next. c.in-Ok.ensures.acts es come next

pub returns-in-Err-Ill : goal.returns-in-Err-Ill
returns-in-Err-Ill c = λ es come next.
    subst (λ f. Acts (source_of c.args.names.now c.args.tokens.now) es c.args.event c.act.new.self (Err f)) c.in-Err-Ill.field-0-is (c.in-Err-Ill.ensures.acts es come next)
