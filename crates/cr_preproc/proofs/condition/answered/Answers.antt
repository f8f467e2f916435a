use Rattle.std.proofs.Common.{◌<◌, length, sym, subst}
use Rattle.cr_preproc.proofs.Answered.{digit_known}
use Rattle.cr_preproc.proofs.condition.answered.Goals as goal

pub returns-clause-named : goal.returns-clause-named
returns-clause-named c =
    subst (λ n. n.0 < length c.args.names.now) (sym c.number.ensures.text)
    (digit_known c.args.names.now c.digit.result c.is_macro.result (c.digit.ensures c.args.names.now c.requires.digits))
