use Rattle.std.proofs.Common.{eqb, Some, rules, sym, ap, ◌∙◌}
use Rattle.std.specs.Map.{lookup}
use Rattle.std.proofs.lemmas.Result.{err_from_is_err_and}
use Rattle.std.proofs.lemmas.Map.Steps.{set_value_same}
use Rattle.cr_types.specs.declared.RecNo.{RecNo}
use Rattle.cr_typing.proofs.Lists.{others_listed}
use Rattle.cr_typing.proofs.typing.put_in.Goals as goal

pub returns-in_err-add-in-Some-clause-err : goal.returns-in_err-add-in-Some-clause-err
returns-in_err-add-in-Some-clause-err c =
    let p = err_from_is_err_and c.from_residual.result c.from_residual.ensures.1 in
    rw p.1
    ((c.get_mut.follows.holds c.add.new.self).0
    ∙ set_value_same _ c.args.records.now.entries c.add.new.self (sym c.in-Some.ensures.value ∙ ap Some (sym c.in_err-add-in-Some.ensures.err)))

pub returns-in_ok-add-in-Some-clause-others : goal.returns-in_ok-add-in-Some-clause-others
returns-in_ok-add-in-Some-clause-others c =
    others_listed c.args.records.now.entries _ c.args.r (λ q apart. ((c.get_mut.follows.holds c.add.new.self).3 (search rules)).2 q apart)

pub returns-in_ok-insert-in-None-clause-others : goal.returns-in_ok-insert-in-None-clause-others
returns-in_ok-insert-in-None-clause-others c =
    others_listed c.args.records.now.entries _ c.args.r
    (λ q apart. c.in_ok-insert-in-None.ensures.updates.2 q apart ∙ (λ j. lookup (λ (k : RecNo). eqb q.0 k.0) (c.get_mut.follows.holds-at-none j).entries))
