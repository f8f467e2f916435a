use Rattle.std.proofs.lemmas.Result.{err_from_is_err_and}
use Rattle.cr_bound.proofs.Tagging.{tagged_again, tag_again_fails}
use Rattle.cr_bound.proofs.bound.Bound.tag_again.Goals as goal

pub returns-in_err-put_tag-clause-ill : goal.returns-in_err-put_tag-clause-ill
returns-in_err-put_tag-clause-ill c =
    let p = err_from_is_err_and c.from_residual-in_err-put_tag.result c.from_residual-in_err-put_tag.ensures.1 in
    rw (p.1, p.2) (tag_again_fails c.args.types.now _ c.args.self.now _ _ c.args.token _ _ c.in_ok-ty.ensures.meant c.in_ok-ty.ensures.ok c.in_ok-ty.ensures.typed c.in_ok-ty.ensures.given _ c.in_err-put_tag.ensures.ill)

pub returns-clause-ok : goal.returns-clause-ok
returns-clause-ok c = tagged_again c.args.types.now _ c.args.self.now _ _ c.args.token _ _ c.in_ok-ty.ensures.meant c.in_ok-ty.ensures.ok c.in_ok-ty.ensures.typed c.in_ok-ty.ensures.given _ c.in_ok-put_tag.ensures.ok
