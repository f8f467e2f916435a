use Rattle.std.proofs.lemmas.Result.{err_from_is_err_and}
use Rattle.cr_bound.proofs.Tagging.{type_given, alone_does, alone_fails}
use Rattle.cr_bound.proofs.bound.Bound.tag_alone.Goals as goal

pub tag_again-requires-clause-given : goal.tag_again-requires-clause-given
tag_again-requires-clause-given c = type_given c.args.types.now c.get-here.result _ c.type_of.ensures (c.get-here.ensures.given c.args.types.now c.requires.names)

pub returns-in_err-tag_again-clause-ill : goal.returns-in_err-tag_again-clause-ill
returns-in_err-tag_again-clause-ill c =
    let p = err_from_is_err_and c.from_residual.result c.from_residual.ensures.1 in
    rw (p.1, p.2)
    (alone_fails c.args.types.now c.args.self.now c.args.tokens.now c.name_at-name.result c.name_at-name.ensures _ c.tag_here.ensures c.get-here.result c.get-here.ensures.found _ c.type_of.ensures _ c.in_err-tag_again.ensures.ill)

pub returns-clause-ok : goal.returns-clause-ok
returns-clause-ok c =
    alone_does c.args.types.now c.args.self.now c.args.tokens.now c.name_at-name.result c.name_at-name.ensures _ c.tag_here.ensures c.get-here.result c.get-here.ensures.found _ c.type_of.ensures _ _ c.in_ok-tag_again.ensures.ok
