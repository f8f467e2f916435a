use Rattle.cr_acting.proofs.Parts.{becomes_as, refuses_as}
use Rattle.cr_acting.specs.Acting.{acting, acting_on}
use Rattle.cr_acting.specs.Binding.{source_by, state_of}
use Rattle.cr_binding.specs.Binding.{unless_refused}
use Rattle.cr_binding.specs.State.{start}
use Rattle.std.proofs.Common.{ap, sym}
use Rattle.std.proofs.lemmas.Result.{err_from_is_err_and}
use Rattle.cr_acting.proofs.binding.Binding.act.Goals as goal

pub returns-in_err-do_action-in-None : goal.returns-in_err-do_action-in-None
returns-in_err-do_action-in-None c =
    let p = err_from_is_err_and c.from_residual.result c.from_residual.ensures.1 in
    rw (p.1, p.2) (refuses_as (source_by c.args.spot.words) c.args.self.now (acting c.args.action c.args.spot) (acting_on c.args.action c.args.spot) _ (sym (ap (λ r. unless_refused r (state_of c.args.self.now) (acting c.args.action c.args.spot (source_by c.args.spot.words) (state_of c.args.self.now))) (c.in-None.ensures c.args.self.now.types start))) c.in_err-do_action-in-None.ensures)

pub returns-in-Some : goal.returns-in-Some
returns-in-Some c =
    ap (λ r. (unless_refused r (state_of c.args.self.now) (acting c.args.action c.args.spot (source_by c.args.spot.words) (state_of c.args.self.now))).fault) (c.in-Some.ensures c.args.self.now.types start)

pub returns-in_ok-do_action-in-None : goal.returns-in_ok-do_action-in-None
returns-in_ok-do_action-in-None c =
    becomes_as (source_by c.args.spot.words) c.args.self.now _ (acting c.args.action c.args.spot) (acting_on c.args.action c.args.spot) (sym (ap (λ r. unless_refused r (state_of c.args.self.now) (acting c.args.action c.args.spot (source_by c.args.spot.words) (state_of c.args.self.now))) (c.in-None.ensures c.args.self.now.types start))) c.in_ok-do_action-in-None.ensures
