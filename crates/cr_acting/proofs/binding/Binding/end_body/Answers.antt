use Rattle.cr_acting.proofs.Parts.{any_refuses, by_bound_alone}
use Rattle.cr_acting.specs.Binding.{source_by}
use Rattle.cr_binding.specs.Scoping.{body_ended}
use Rattle.cr_names.specs.Names.{HasTokens}
use Rattle.std.proofs.Common.{refl}
use Rattle.std.proofs.lemmas.Result.{err_from_is_err_and}
use Rattle.cr_acting.proofs.binding.Binding.end_body.Goals as goal

pub returns-in_err-end_body : goal.returns-in_err-end_body
returns-in_err-end_body c =
    let p = err_from_is_err_and c.from_residual.result c.from_residual.ensures.1 in
    rw (p.1, p.2) (any_refuses (source_by c.args.spot.words) c.args.self.now.types c.args.self.now.bound c.args.self.now.operands c.requires (HasTokens c.args.spot.words.tokens.now) body_ended _ refl c.in_err-end_body.ensures.ill)

pub returns : goal.returns
returns c =
    by_bound_alone (source_by c.args.spot.words) c.args.self.now.types c.args.self.now.bound c.args.self.now.operands c.requires (HasTokens c.args.spot.words.tokens.now) body_ended _ c.operands_stay.ensures refl (c.in_ok-end_body.ensures.ok c.args.self.now.types c.requires.whole.typed) (c.in_ok-end_body.ensures.typed c.args.self.now.types c.requires.whole.typed)
