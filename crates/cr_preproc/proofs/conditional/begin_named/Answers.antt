use Rattle.std.proofs.Common.{cond, drop, subst}
use Rattle.cr_macros.specs.Tokens.{tokens_of}
use Rattle.cr_phase4.specs.Conditionals.{conditional}
use Rattle.cr_preproc.specs.Leading.{IsLed}
use Rattle.cr_phase4.specs.declared.conditionals.Word.TheVariants.{Ifdef, Ifndef}
use Rattle.cr_preproc.proofs.ConditionalSteps.{head_named}
use Rattle.cr_preproc.proofs.conditional.begin_named.Goals as goal

pub returns-in_ok-led-in-len1-up-clause-led : goal.returns-in_ok-led-in-len1-up-clause-led
returns-in_ok-led-in-len1-up-clause-led c path =
    let p = c.args.progress.now in
    let cs = c.args.open_ifs.now in
    subst (λ ts. IsLed path c.args.hash p c.begin_by.new.progress cs c.begin_by.new.open_ifs (conditional path c.args.hash ts cs (cond c.args.wanted Ifdef Ifndef)) c.in_ok-led-in-len1-up.led)
    (head_named p.names c.args.rest.now _ c.in-len1-up.len_at_least) (c.in_ok-led-in-len1-up.ensures.led path (tokens_of p.names (drop 1 c.args.rest.now)))
