use Rattle.std.proofs.Common.{[], ap}
use Rattle.cr_macros.specs.Tokens.{token_of, tokens_of}
use Rattle.cr_phase4.specs.Conditionals.{is_word_live}
use Rattle.cr_preproc.proofs.ConditionalSteps.{word_noted}
use Rattle.cr_preproc.proofs.conditional.conditional.Goals as goal

pub returns-clause-led : goal.returns-clause-led
returns-clause-led c path =
    let p = c.args.progress.now in
    let q = c.note_word.new.progress in
    let cs = c.args.open_ifs.now in
    word_noted path c.args.hash cs c.carry_out.new.open_ifs p q c.carry_out.new.progress c.is_word_live.result (is_word_live cs c.args.word) (token_of p.names [] c.args.t) (tokens_of p.names c.args.rest.now) (tokens_of q.names c.args.rest.now) c.args.word c.in_ok-led.led
    c.requires.good
    c.in_ok-note_word.ensures.did
    c.is_word_live.ensures
    (ap (λ ns. tokens_of ns c.args.rest.now) c.in_ok-note_word.ensures.names)
    (c.in_ok-led.ensures.led path)
