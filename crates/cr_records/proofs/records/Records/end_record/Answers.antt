use Rattle.std.proofs.Common.{[], ◌∷◌, ◌++◌, subst, sym, ap, ◌∙◌}
use Rattle.cr_records.specs.Kept.{IsKept, IsOf, AreEnded}
use Rattle.cr_records.specs.Records.{AreSpelled}
use Rattle.cr_records.proofs.Ending.{ending_keeps, are_ended, spelled_alike}
use Rattle.cr_records.proofs.records.Records.end_record.Goals as goal

pub invariant_of-self-2 : goal.invariant_of-self-2
invariant_of-self-2 c = (
  subst (λ l. IsKept (record { records = c.self.inside.records.items; typing = c.finish.new.self; selectors = c.self.inside.selectors.items; completed = c.self.inside.completed.keys; ended = l }))
      (sym (c.push_ended.ensures ∙ ap (λ l. l ++ c.args.r ∷ []) c.reserve.ensures.items))
      (ending_keeps _ c.args.r c.finish.new.self c.finish.ensures.ends c.self.invariant.0),
  λ q. subst (λ l. AreEnded l c.insert.new.self.keys) (sym (c.push_ended.ensures ∙ ap (λ l. l ++ c.args.r ∷ []) c.reserve.ensures.items))
      (subst (AreEnded (c.self.inside.ended.items ++ c.args.r ∷ [])) (sym c.in_ok-insert.ensures.keys) (are_ended c.self.inside.ended.items c.self.inside.complete.keys c.args.r c.self.invariant.1)) q,
)

pub returns-clause-spelled : goal.returns-clause-spelled
returns-clause-spelled c = λ source always spelled.
    let before = subst (AreSpelled source) (sym c.self.view_is) spelled in
    spelled_alike source c.self.inside.typing c.finish.new.self c.self.inside.selectors.items c.finish.ensures.ends.all before

pub returns-clause-of : goal.returns-clause-of
returns-clause-of c = λ t of.
    let before = subst (IsOf t) (sym c.self.view_is) of in
    record { held = c.finish.ensures.held t before.held; unions = before.unions }
