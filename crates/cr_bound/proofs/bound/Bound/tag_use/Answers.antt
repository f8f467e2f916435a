use Rattle.std.proofs.lemmas.Result.{err_from_is_err_and}
use Rattle.cr_bound.proofs.Lenses.{moves_typed}
use Rattle.cr_bound.proofs.Tagging.{used_does, used_fails, unseen_does, unseen_fails}
use Rattle.cr_bound.proofs.bound.Bound.tag_use.Goals as goal

pub tag_again-requires-clause-typed : goal.tag_again-requires-clause-typed
tag_again-requires-clause-typed c = moves_typed c.args.self.now _ _ c.in_ok-look_up-in-None.ensures.ok _ c.requires

pub returns-in_err-use_tag-in-Some-clause-ill : goal.returns-in_err-use_tag-in-Some-clause-ill
returns-in_err-use_tag-in-Some-clause-ill c =
    let p = err_from_is_err_and c.from_residual.result c.from_residual.ensures.1 in
    rw (p.1, p.2)
    (used_fails c.args.types.now c.args.self.now c.args.tokens.now c.name_at-name.result c.name_at-name.ensures _ c.meaning-denoted.ensures c.in-Some.found c.in-Some.ensures.found c.requires (c.in-Some.ensures.given c.args.types.now c.requires.names) _ c.in_err-use_tag-in-Some.ensures.ill)

pub returns-in_ok-use_tag-in-Some-clause-ok : goal.returns-in_ok-use_tag-in-Some-clause-ok
returns-in_ok-use_tag-in-Some-clause-ok c =
    used_does c.args.types.now c.args.self.now c.args.tokens.now c.name_at-name.result c.name_at-name.ensures _ c.meaning-denoted.ensures c.in-Some.found c.in-Some.ensures.found c.requires (c.in-Some.ensures.given c.args.types.now c.requires.names) _ c.in_ok-use_tag-in-Some.ensures.ok

pub returns-in_ok-tag_again-in-None-clause-ok : goal.returns-in_ok-tag_again-in-None-clause-ok
returns-in_ok-tag_again-in-None-clause-ok c =
    unseen_does c.args.types.now c.args.self.now c.args.tokens.now c.name_at-name.result c.name_at-name.ensures _ c.meaning-denoted.ensures c.in-None.ensures.found _ c.in_ok-look_up-in-None.ensures.ok _ _ c.in_ok-tag_again-in-None.ensures.ok

pub returns-in_err-tag_again-in-None-clause-ill : goal.returns-in_err-tag_again-in-None-clause-ill
returns-in_err-tag_again-in-None-clause-ill c =
    let p = err_from_is_err_and c.from_residual-in_err-tag_again-in-None.result c.from_residual-in_err-tag_again-in-None.ensures.1 in
    rw (p.1, p.2)
    (unseen_fails c.args.types.now c.args.self.now c.args.tokens.now c.name_at-name.result c.name_at-name.ensures _ c.meaning-denoted.ensures c.in-None.ensures.found _ c.in_ok-look_up-in-None.ensures.ok _ c.in_err-tag_again-in-None.ensures.ill)
