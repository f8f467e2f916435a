use Rattle.cr_macros.specs.Tokens.{tokens_of}
use Rattle.cr_preproc.specs.Progressing.{state_of}
use Rattle.cr_preproc.proofs.ConditionalSteps.{asks_led}
use Rattle.cr_preproc.proofs.conditional.elif.Goals as goal

pub returns-in_ok-led-in-Asks-clause-led : goal.returns-in_ok-led-in-Asks-clause-led
returns-in_ok-led-in-Asks-clause-led c path =
    let p = c.args.progress.now in
    let cs = c.args.open_ifs.now in
    let ts = tokens_of p.names c.args.rest.now in
    asks_led path c.args.hash ts cs p c.ask.new.progress c.in_ok-led-in-Asks.led (c.in-Asks.ensures path c.args.hash ts (state_of p)) (c.in_ok-led-in-Asks.ensures.led path c.args.hash cs)
