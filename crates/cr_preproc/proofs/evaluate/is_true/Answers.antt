use Rattle.std.proofs.Common.{sym, subst}
use Rattle.cr_cond.specs.Value.{IsAnswer, numbered, value_of}
use Rattle.cr_macros.specs.Tokens.{tokens_of}
use Rattle.cr_phase4.specs.Conditionals.{list_value}
use Rattle.cr_preproc.specs.Truths.{IsTruth}
use Rattle.cr_preproc.proofs.Lexemes.{lexemes_same, answers}
use Rattle.cr_preproc.proofs.evaluate.is_true.Goals as goal

pub returns : goal.returns
returns c =
    subst (λ r. IsTruth (list_value (tokens_of c.args.names.now c.args.tokens.now)) r) (sym c.truth.ensures)
    (answers (list_value (tokens_of c.args.names.now c.args.tokens.now)) c.value.result (subst (λ xs. IsAnswer (numbered (value_of xs)) c.value.result) (lexemes_same c.args.names.now c.args.tokens.now) c.value.ensures))
