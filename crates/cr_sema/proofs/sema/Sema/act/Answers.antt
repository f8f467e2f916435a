use Rattle.std.proofs.Common.{refl, subst, Err}
use Rattle.cr_sema.specs.Sema.{source_of}
use Rattle.cr_sema.specs.Walking.{Takes}
use Rattle.cr_sema.proofs.sema.Sema.act.Goals as goal

pub returns-in-Err-Ill-clause-acts : goal.returns-in-Err-Ill-clause-acts
returns-in-Err-Ill-clause-acts c =
    λ es come next. (
      c.in-Err-Ill.i,
      subst (λ f. Takes (source_of c.args.names.now c.args.tokens.now) es c.args.event c.take.new.self (Err f)) c.in-Err-Ill.field-0-is (c.in-Err-Ill.ensures es come.0 next),
      c.site_of.ensures (source_of c.args.names.now c.args.tokens.now) refl,
    )
