use Rattle.cr_acting.proofs.Parts.{bound_refuses, by_bound}
use Rattle.cr_acting.specs.Binding.{source_by}
use Rattle.cr_bound.specs.Bound.{declaring}
use Rattle.cr_names.specs.Names.{HasTokens}
use Rattle.std.proofs.Common.{refl}
use Rattle.std.proofs.lemmas.Result.{err_from_is_err_and}
use Rattle.cr_acting.proofs.binding.Binding.declare.Goals as goal

pub returns-in_err-declare : goal.returns-in_err-declare
returns-in_err-declare c =
    let p = err_from_is_err_and c.from_residual.result c.from_residual.ensures.1 in
    rw (p.1, p.2) (bound_refuses (source_by c.args.spot.words) c.args.self.now.types c.args.self.now.bound c.args.self.now.operands c.requires (HasTokens c.args.spot.words.tokens.now) (declaring c.args.spot.parts.now) _ refl c.in_err-declare.ensures.ill)

pub returns : goal.returns
returns c =
    by_bound (source_by c.args.spot.words) c.args.self.now.types c.args.self.now.bound c.args.self.now.operands c.requires (HasTokens c.args.spot.words.tokens.now) (declaring c.args.spot.parts.now) _ _ c.operands_stay.ensures refl c.in_ok-declare.ensures.ok c.in_ok-declare.ensures.keeps c.in_ok-declare.ensures.typed
