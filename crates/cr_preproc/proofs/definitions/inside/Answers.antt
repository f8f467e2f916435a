use Rattle.std.proofs.Common.{[], sym, ap, ◌∙◌}
use Rattle.std.proofs.lemmas.List.{take-map}
use Rattle.cr_macros.specs.Tokens.{token_of, tokens_of}
use Rattle.cr_phase4.specs.Definition as spec
use Rattle.cr_preproc.proofs.ByTexts.{close_same}
use Rattle.cr_preproc.proofs.definitions.inside.Goals as goal

pub returns-in-None : goal.returns-in-None
returns-in-None c = ap (spec.inside_of (tokens_of c.args.names.now c.args.tokens.now)) (c.in-None.ensures.place ∙ sym (close_same c.args.names.now c.args.tokens.now))

pub returns-in-Some : goal.returns-in-Some
returns-in-Some c =
    sym (take-map (token_of c.args.names.now []) c.in-Some.close c.args.tokens.now)
    ∙ ap (spec.inside_of (tokens_of c.args.names.now c.args.tokens.now)) (c.in-Some.ensures.place ∙ sym (close_same c.args.names.now c.args.tokens.now))
