use Rattle.cr_acting.proofs.Parts.{any_refuses, becomes_as, by_bound_alone, refuses_as}
use Rattle.cr_acting.specs.Acting.{passing}
use Rattle.cr_acting.specs.Binding.{source_by, state_of}
use Rattle.cr_binding.specs.Actions.{passed}
use Rattle.cr_binding.specs.Binding.{unless_refused}
use Rattle.cr_binding.specs.State.{start}
use Rattle.cr_bound.specs.Bound.{IsText}
use Rattle.std.proofs.Common.{ap, sym}
use Rattle.std.proofs.lemmas.Result.{err_from_is_err_and}
use Rattle.cr_acting.proofs.binding.Binding.pass.Goals as goal

pub returns-in_err-pass-in-None : goal.returns-in_err-pass-in-None
returns-in_err-pass-in-None c =
    let p = err_from_is_err_and c.from_residual.result c.from_residual.ensures.1 in
    rw (p.1, p.2) (refuses_as (source_by c.args.words) c.args.self.now (λ t. passed t c.args.node c.args.i) (passing c.args.node c.args.i) _ (sym (ap (λ r. unless_refused r (state_of c.args.self.now) (passed (source_by c.args.words) c.args.node c.args.i (state_of c.args.self.now))) (c.in-None.ensures c.args.self.now.types start))) (any_refuses (source_by c.args.words) c.args.self.now.types c.args.self.now.bound c.args.self.now.operands c.requires (IsText c.args.i c.text_at.result.now) (λ t. passed t c.args.node c.args.i) _ c.text_at.ensures c.in_err-pass-in-None.ensures.ill))

pub returns-in-Some : goal.returns-in-Some
returns-in-Some c =
    ap (λ r. (unless_refused r (state_of c.args.self.now) (passed (source_by c.args.words) c.args.node c.args.i (state_of c.args.self.now))).fault) (c.in-Some.ensures c.args.self.now.types start)

pub returns-in_ok-pass-in-None : goal.returns-in_ok-pass-in-None
returns-in_ok-pass-in-None c =
    becomes_as (source_by c.args.words) c.args.self.now _ (λ t. passed t c.args.node c.args.i) (passing c.args.node c.args.i) (sym (ap (λ r. unless_refused r (state_of c.args.self.now) (passed (source_by c.args.words) c.args.node c.args.i (state_of c.args.self.now))) (c.in-None.ensures c.args.self.now.types start)))
    (by_bound_alone (source_by c.args.words) c.args.self.now.types c.args.self.now.bound c.args.self.now.operands c.requires (IsText c.args.i c.text_at.result.now) (λ t. passed t c.args.node c.args.i) _ c.operands_stay.ensures c.text_at.ensures (c.in_ok-pass-in-None.ensures.ok c.args.self.now.types c.requires.whole.typed) (c.in_ok-pass-in-None.ensures.typed c.args.self.now.types c.requires.whole.typed))
