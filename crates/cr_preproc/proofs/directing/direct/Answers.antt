use Rattle.std.proofs.Common.{[], ap, ◌∙◌}
use Rattle.cr_macros.specs.Definition.{text_of}
use Rattle.cr_macros.specs.Tokens.{token_of, tokens_of}
use Rattle.cr_preproc.proofs.DirectiveSteps.{by_word}
use Rattle.cr_preproc.proofs.directing.direct.Goals as goal

pub returns-clause-directed : goal.returns-clause-directed
returns-clause-directed c w u enter =
    let p = c.args.progress.now in
    let q = c.note.new.self in
    let word = token_of p.names [] c.args.word in
    by_word w u enter c.args.path.now c.args.hash (tokens_of p.names c.args.rest.now) p q c.carry_out.new.progress word word.text c.text.result.now c.asked_by-asked.result (tokens_of q.names c.args.rest.now) c.in_ok-directed.directed
    c.requires.good
    c.in_ok-note.ensures.did
    (c.text.ensures ∙ ap (λ ns. text_of ns c.args.word.text) c.in_ok-note.ensures.names)
    c.asked_by-asked.ensures
    (ap (λ ns. tokens_of ns c.args.rest.now) c.in_ok-note.ensures.names)
    (c.in_ok-directed.ensures.directed w u enter)
