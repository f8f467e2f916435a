use Rattle.std.proofs.Common.{sym, ◌∙◌, ap}
use Rattle.cr_cond.specs.Symbols.{lexemes}
use Rattle.cr_cond.specs.Value.{numbered}
use Rattle.cr_cond.proofs.Going.{answers, value_is}
use Rattle.cr_cond.proofs.reading.value.Goals as goal

pub returns : goal.returns
returns c =
    answers _ _
    (c.as_number.ensures
    ∙ ap numbered (value_is (lexemes c.args.names.now c.args.tokens.now) c.in_ok-part.part c.outcome.result (sym c.has_defined.ensures ∙ c.if-has_defined.false) c.in_ok-part.ensures c.outcome.ensures))
