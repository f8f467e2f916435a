use Rattle.std.proofs.Common.{sym, ◌∙◌}
use Rattle.cr_macros.specs.Tokens.{tokens_of}
use Rattle.cr_preproc.proofs.ConditionalSteps.{live_if_led}
use Rattle.cr_preproc.proofs.conditional.begin_if.Goals as goal

pub returns-in_ok-led-clause-led : goal.returns-in_ok-led-clause-led
returns-in_ok-led-clause-led c path =
    let p = c.args.progress.now in
    let cs = c.args.open_ifs.now in
    live_if_led path c.args.hash (tokens_of p.names c.args.rest.now) cs p c.ask.new.progress c.in_ok-led.led (sym c.is_live.ensures ∙ c.if-is_live.true) (c.in_ok-led.ensures.led path c.args.hash cs)
