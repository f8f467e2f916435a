use Rattle.cr_acting.proofs.Parts.{any_refuses, by_bound_alone}
use Rattle.cr_acting.specs.Binding.{source_by}
use Rattle.cr_bound.specs.Bound.{Any}
use Rattle.cr_bound.specs.Scoping.{entering_body}
use Rattle.std.proofs.lemmas.Result.{err_from_is_err_and}
use Rattle.cr_acting.proofs.binding.Binding.enter_body.Goals as goal

pub returns-in_err-enter_body : goal.returns-in_err-enter_body
returns-in_err-enter_body c =
    let p = err_from_is_err_and c.from_residual-in_err-enter_body.result c.from_residual-in_err-enter_body.ensures.1 in
    rw (p.1, p.2) (any_refuses (source_by c.args.spot.words) c.args.self.now.types c.args.self.now.bound c.args.self.now.operands c.requires Any (λ t. entering_body) _ tt c.in_err-enter_body.ensures.ill)

pub returns : goal.returns
returns c =
    by_bound_alone (source_by c.args.spot.words) c.args.self.now.types c.args.self.now.bound c.args.self.now.operands c.requires Any (λ t. entering_body) _ c.operands_stay.ensures tt (c.in_ok-enter_body.ensures.ok c.args.self.now.types) (c.in_ok-enter_body.ensures.typed c.args.self.now.types c.requires.whole.typed)
