use Rattle.cr_acting.proofs.Parts.{bound_refuses, by_bound}
use Rattle.cr_acting.specs.Binding.{source_by}
use Rattle.cr_bound.specs.Bound.{Any, splicing}
use Rattle.std.proofs.lemmas.Result.{err_from_is_err_and}
use Rattle.cr_acting.proofs.binding.Binding.splice.Goals as goal

pub returns-in_err-splice : goal.returns-in_err-splice
returns-in_err-splice c =
    let p = err_from_is_err_and c.from_residual.result c.from_residual.ensures.1 in
    rw (p.1, p.2) (bound_refuses (source_by c.args.spot.words) c.args.self.now.types c.args.self.now.bound c.args.self.now.operands c.requires Any splicing _ tt c.in_err-splice.ensures.ill)

pub returns : goal.returns
returns c =
    by_bound (source_by c.args.spot.words) c.args.self.now.types c.args.self.now.bound c.args.self.now.operands c.requires Any splicing _ _ c.operands_stay.ensures tt c.in_ok-splice.ensures.ok c.in_ok-splice.ensures.keeps c.in_ok-splice.ensures.typed
