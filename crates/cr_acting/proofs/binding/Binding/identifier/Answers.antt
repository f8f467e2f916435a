use Rattle.cr_acting.proofs.Parts.{any_refuses, identified}
use Rattle.cr_acting.specs.Binding.{source_by}
use Rattle.cr_binding.specs.Source.{name_at, text_at}
use Rattle.cr_binding.specs.State.{start}
use Rattle.cr_bound.specs.Bound.{IsWord}
use Rattle.cr_bound.specs.Mentions.{identifying}
use Rattle.std.proofs.Common.{ap, ◌∙◌}
use Rattle.std.proofs.lemmas.Result.{err_from_is_err_and}
use Rattle.cr_acting.proofs.binding.Binding.identifier.Goals as goal

pub returns-in_err-ty : goal.returns-in_err-ty
returns-in_err-ty c =
    let p = err_from_is_err_and c.from_residual.result c.from_residual.ensures.1 in
    rw (p.1, p.2) (any_refuses (source_by c.args.spot.words) c.args.self.now.types c.args.self.now.bound c.args.self.now.operands c.requires (IsWord c.args.self.now.bound.place.last c.name_at-name.result c.text_at-text.result.now) (identifying c.args.called) _ (ap (name_at (source_by c.args.spot.words)) (c.last-token.ensures c.args.self.now.types start) ∙ c.name_at-name.ensures, ap (text_at (source_by c.args.spot.words)) (c.last-token.ensures c.args.self.now.types start) ∙ c.text_at-text.ensures) c.in_err-ty.ensures.ill)

pub returns : goal.returns
returns c =
    identified (source_by c.args.spot.words) c.args.self.now.types c.args.self.now.bound c.args.self.now.operands c.requires (IsWord c.args.self.now.bound.place.last c.name_at-name.result c.text_at-text.result.now) (identifying c.args.called) _ _ _ (ap (name_at (source_by c.args.spot.words)) (c.last-token.ensures c.args.self.now.types start) ∙ c.name_at-name.ensures, ap (text_at (source_by c.args.spot.words)) (c.last-token.ensures c.args.self.now.types start) ∙ c.text_at-text.ensures) (c.in_ok-ty.ensures.ok c.args.self.now.types c.requires.whole.typed) (c.in_ok-ty.ensures.typed c.args.self.now.types c.requires.whole.typed) (c.in_ok-push.ensures.grows c.args.self.now.types c.requires.whole.held (c.in_ok-ty.ensures.given c.args.self.now.types c.requires.whole.typed)) (c.in_ok-push.ensures.ok c.args.self.now.types c.requires.whole.held (c.in_ok-ty.ensures.given c.args.self.now.types c.requires.whole.typed))
