use Rattle.std.proofs.Common.{◌∙◌, refl, sym, ap}
use Rattle.std.specs.Prelude.{eqb}
use Rattle.std.specs.List.{list_any}
use Rattle.std.proofs.lemmas.Result.{err_from_is_err_and}
use Rattle.cr_bound.proofs.Tagging.{type_given, completed_before, completed_fails, completed_does, complete_typed}
use Rattle.cr_bound.proofs.bound.Bound.tag_definition.Goals as goal

pub tag_again-requires-clause-given : goal.tag_again-requires-clause-given
tag_again-requires-clause-given c = type_given c.args.types.now c.get-here.result _ c.type_of.ensures (c.get-here.ensures.given c.args.types.now c.requires.names)

pub complete-requires : goal.complete-requires
complete-requires c = record { fresh = ap (list_any (eqb c.first_token-first.result)) c.in_ok-tag_again.ensures.completed ∙ sym c.is_completed.ensures ∙ c.if-is_completed.false }

pub fill-requires : goal.fill-requires
fill-requires c = complete_typed _ _ _ c.in_ok-complete.ensures.of c.in_ok-tag_again.ensures.typed

pub returns-then-is_completed-clause-ill : goal.returns-then-is_completed-clause-ill
returns-then-is_completed-clause-ill c =
    completed_before c.args.types.now c.args.self.now c.args.tokens.now c.name_at-name.result c.name_at-name.ensures _ c.tag_here.ensures c.get-here.result c.get-here.ensures.found _ refl _ c.first_token-first.ensures (sym c.is_completed.ensures ∙ c.if-is_completed.true)

pub returns-in_err-tag_again-clause-ill : goal.returns-in_err-tag_again-clause-ill
returns-in_err-tag_again-clause-ill c =
    let p = err_from_is_err_and c.from_residual.result c.from_residual.ensures.1 in
    rw (p.1, p.2)
    (completed_fails c.args.types.now c.args.self.now c.args.tokens.now c.name_at-name.result c.name_at-name.ensures _ c.tag_here.ensures c.get-here.result c.get-here.ensures.found _ c.type_of.ensures _ c.first_token-first.ensures (sym c.is_completed.ensures ∙ c.if-is_completed.false) _ c.in_err-tag_again.ensures.ill)

pub returns-in_err-complete-clause-typed : goal.returns-in_err-complete-clause-typed
returns-in_err-complete-clause-typed c = complete_typed _ _ _ c.in_err-complete.ensures.of c.in_ok-tag_again.ensures.typed

pub returns-clause-ok : goal.returns-clause-ok
returns-clause-ok c =
    completed_does c.args.types.now c.args.self.now c.args.tokens.now c.name_at-name.result c.name_at-name.ensures _ c.tag_here.ensures c.get-here.result c.get-here.ensures.found _ c.type_of.ensures _ c.first_token-first.ensures (sym c.is_completed.ensures ∙ c.if-is_completed.false)
    _ _ _ _ c.in_ok-tag_again.ensures.ok c.in_ok-complete.ensures.ok (λ source h. c.in_ok-complete.ensures.spelled source tt h) c.fill.ensures.ok
