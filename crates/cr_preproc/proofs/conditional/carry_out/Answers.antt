use Rattle.cr_macros.specs.Tokens.{tokens_of}
use Rattle.cr_phase4.specs.Conditionals.{else_in, endif}
use Rattle.cr_preproc.specs.Progressing.{state_of}
use Rattle.cr_phase4.specs.declared.conditionals.Word.TheVariants.{If, Ifdef, Ifndef, Elif, Else, Endif}
use Rattle.cr_preproc.proofs.ConditionalSteps.{at_word, ended_led}
use Rattle.cr_preproc.proofs.conditional.carry_out.Goals as goal

pub returns-in_ok-led-in-If-clause-led : goal.returns-in_ok-led-in-If-clause-led
returns-in_ok-led-in-If-clause-led c path =
    at_word path c.args.hash c.args.open_ifs.now _ c.args.progress.now _ (tokens_of c.args.progress.now.names c.args.rest.now) c.args.word If c.in_ok-led-in-If.led c.in-If.is (c.in_ok-led-in-If.ensures.led path)

pub returns-in_ok-led-in-Ifdef-clause-led : goal.returns-in_ok-led-in-Ifdef-clause-led
returns-in_ok-led-in-Ifdef-clause-led c path =
    at_word path c.args.hash c.args.open_ifs.now _ c.args.progress.now _ (tokens_of c.args.progress.now.names c.args.rest.now) c.args.word Ifdef c.in_ok-led-in-Ifdef.led c.in-Ifdef.is (c.in_ok-led-in-Ifdef.ensures.led path)

pub returns-in_ok-led-in-Ifndef-clause-led : goal.returns-in_ok-led-in-Ifndef-clause-led
returns-in_ok-led-in-Ifndef-clause-led c path =
    at_word path c.args.hash c.args.open_ifs.now _ c.args.progress.now _ (tokens_of c.args.progress.now.names c.args.rest.now) c.args.word Ifndef c.in_ok-led-in-Ifndef.led c.in-Ifndef.is (c.in_ok-led-in-Ifndef.ensures.led path)

pub returns-in_ok-led-in-Elif-clause-led : goal.returns-in_ok-led-in-Elif-clause-led
returns-in_ok-led-in-Elif-clause-led c path =
    at_word path c.args.hash c.args.open_ifs.now _ c.args.progress.now _ (tokens_of c.args.progress.now.names c.args.rest.now) c.args.word Elif c.in_ok-led-in-Elif.led c.in-Elif.is (c.in_ok-led-in-Elif.ensures.led path)

pub returns-in-Else-clause-led : goal.returns-in-Else-clause-led
returns-in-Else-clause-led c path =
    let p = c.args.progress.now in
    let cs = c.args.open_ifs.now in
    at_word path c.args.hash cs _ p p (tokens_of p.names c.args.rest.now) c.args.word Else c.ended.result c.in-Else.is
    (ended_led path c.args.hash cs c.to_else.new.self p c.to_else.result (else_in c.args.hash cs) c.ended.result c.ended.ensures (c.to_else.ensures.goes_on c.args.hash (state_of p)) c.to_else.ensures.kept)

pub returns-in-Endif-clause-led : goal.returns-in-Endif-clause-led
returns-in-Endif-clause-led c path =
    let p = c.args.progress.now in
    let cs = c.args.open_ifs.now in
    at_word path c.args.hash cs _ p p (tokens_of p.names c.args.rest.now) c.args.word Endif c.ended-in-Endif.result c.in-Endif.is
    (ended_led path c.args.hash cs c.endif.new.self p c.endif.result (endif c.args.hash cs) c.ended-in-Endif.result c.ended-in-Endif.ensures (c.endif.ensures.closed c.args.hash (state_of p)) c.endif.ensures.kept)
