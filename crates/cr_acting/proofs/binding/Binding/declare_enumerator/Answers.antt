use Rattle.cr_acting.proofs.Parts.{any_refuses, becomes_as, by_bound_alone, refuses_as}
use Rattle.cr_acting.specs.Acting.{enumerating_first}
use Rattle.cr_acting.specs.Binding.{source_by, state_of}
use Rattle.cr_bound.specs.Declaring.{enumerating}
use Rattle.cr_names.specs.Names.{HasTokens}
use Rattle.std.proofs.Common.{ap, refl}
use Rattle.std.proofs.lemmas.Result.{err_from_is_err_and}
use Rattle.cr_acting.proofs.binding.Binding.declare_enumerator.Goals as goal

pub returns-in_err-declare_enumerator : goal.returns-in_err-declare_enumerator
returns-in_err-declare_enumerator c =
    let p = err_from_is_err_and c.from_residual.result c.from_residual.ensures.1 in
    rw (p.1, p.2) (refuses_as (source_by c.args.spot.words) c.args.self.now (enumerating c.first-token.result) (enumerating_first c.args.spot.first) _ (ap (λ i. enumerating i (source_by c.args.spot.words) (state_of c.args.self.now)) c.first-token.ensures) (any_refuses (source_by c.args.spot.words) c.args.self.now.types c.args.self.now.bound c.args.self.now.operands c.requires (HasTokens c.args.spot.words.tokens.now) (enumerating c.first-token.result) _ refl c.in_err-declare_enumerator.ensures.ill))

pub returns : goal.returns
returns c =
    becomes_as (source_by c.args.spot.words) c.args.self.now _ (enumerating c.first-token.result) (enumerating_first c.args.spot.first) (ap (λ i. enumerating i (source_by c.args.spot.words) (state_of c.args.self.now)) c.first-token.ensures)
    (by_bound_alone (source_by c.args.spot.words) c.args.self.now.types c.args.self.now.bound c.args.self.now.operands c.requires (HasTokens c.args.spot.words.tokens.now) (enumerating c.first-token.result) _ c.operands_stay.ensures refl (c.in_ok-declare_enumerator.ensures.ok c.args.self.now.types c.requires.whole.typed) (c.in_ok-declare_enumerator.ensures.typed c.args.self.now.types c.requires.whole.typed))
