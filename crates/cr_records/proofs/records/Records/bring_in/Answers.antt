use Rattle.std.proofs.Common.{◌++◌, map, subst, sym, ◌∙◌}
use Rattle.cr_types.specs.Types.{type_at}
use Rattle.cr_typing.specs.Members.{AreOfTable}
use Rattle.cr_records.specs.Kept.{selector_for}
use Rattle.cr_records.specs.Records.{Always, Does, KeepsSpelling, Repeats, Refuses, splicing}
use Rattle.cr_records.proofs.Calls.{anonymous_refused, anonymous_keeps, anonymous_does, anonymous_keeps_spelling}
use Rattle.cr_records.proofs.records.Records.bring_in.Goals as goal

pub put_member-requires-clause-held : goal.put_member-requires-clause-held
put_member-requires-clause-held c = subst (λ z. AreOfTable c.args.types.now z.typing) (sym c.self.view_is) c.requires.of.held

pub invariant_of-self-in-Ok : goal.invariant_of-self-in-Ok
invariant_of-self-in-Ok c = (
  anonymous_keeps c.args.types.now _ c.args.r c.args.q c.args.ty c.requires.is c.self.invariant.0 _ c.put_member.new.typing c.in_ok-names.names.items c.push_selectors.new.selectors.items
      (c.contains-whole.ensures ∙ c.self.invariant.1 c.args.r.0) c.in_ok-names.ensures.all c.in-Ok.ensures.ok
      (c.push_selectors.ensures ∙ (λ j. c.reserve.ensures.items j ++ map (selector_for c.args.r) (c.deref.ensures.value j))),
  c.self.invariant.1,
)

pub returns-in-Ok-clause-ok : goal.returns-in-Ok-clause-ok
returns-in-Ok-clause-ok c =
    subst (λ z. Does Always c.args.types.now z (splicing c.args.r.0 (type_at c.args.types.now c.args.ty)) (record { records = c.self.inside.records.items; typing = c.put_member.new.typing; selectors = c.push_selectors.new.selectors.items; completed = c.self.inside.completed.keys; ended = c.self.inside.ended.items }))
    c.self.view_is
    (anonymous_does c.args.types.now _ c.args.r c.args.q c.args.ty c.requires.is c.self.invariant.0 _ c.put_member.new.typing c.in_ok-names.names.items c.push_selectors.new.selectors.items
    (c.contains-whole.ensures ∙ c.self.invariant.1 c.args.r.0) c.in_ok-names.ensures.all c.in-Ok.ensures.ok
    (c.push_selectors.ensures ∙ (λ j. c.reserve.ensures.items j ++ map (selector_for c.args.r) (c.deref.ensures.value j)))
    c.in-Ok.ensures.allowed)

pub returns-in-Ok-clause-spelled : goal.returns-in-Ok-clause-spelled
returns-in-Ok-clause-spelled c =
    subst (λ z. KeepsSpelling Always z (record { records = c.self.inside.records.items; typing = c.put_member.new.typing; selectors = c.push_selectors.new.selectors.items; completed = c.self.inside.completed.keys; ended = c.self.inside.ended.items }))
    c.self.view_is
    (anonymous_keeps_spelling c.args.types.now _ c.args.r c.args.q c.args.ty c.requires.is c.self.invariant.0 _ c.put_member.new.typing c.in_ok-names.names.items c.push_selectors.new.selectors.items
    (c.contains-whole.ensures ∙ c.self.invariant.1 c.args.r.0) c.in_ok-names.ensures.all c.in-Ok.ensures.ok
    (c.push_selectors.ensures ∙ (λ j. c.reserve.ensures.items j ++ map (selector_for c.args.r) (c.deref.ensures.value j))))

pub returns-clause-ill : goal.returns-clause-ill
returns-clause-ill c =
    subst (λ z. Refuses c.refused.result (Repeats Always c.args.types.now z (splicing c.args.r.0 (type_at c.args.types.now c.args.ty)))) c.self.view_is
    (anonymous_refused c.args.types.now _ c.args.r c.args.q c.args.ty c.requires.is c.self.invariant.0 c.in-Err.fault c.refused.result c.refused.ensures c.in-Err.ensures.refused)
