use Rattle.std.proofs.Common.{[], ◌∷◌, ◌++◌, subst, sym, ap, ◌∙◌}
use Rattle.cr_types.specs.Types.{type_at}
use Rattle.cr_typing.specs.Members.{AreOfTable}
use Rattle.cr_records.specs.Records.{IsNamed, Does, KeepsSpelling, Repeats, Refuses, adding}
use Rattle.cr_records.proofs.Calls.{named_refused, named_keeps, named_does, named_keeps_spelling}
use Rattle.cr_records.proofs.records.Records.add_member.Goals as goal

pub put_member-requires-clause-held : goal.put_member-requires-clause-held
put_member-requires-clause-held c = subst (λ z. AreOfTable c.args.types.now z.typing) (sym c.self.view_is) c.requires.of.held

pub invariant_of-self-in-Ok : goal.invariant_of-self-in-Ok
invariant_of-self-in-Ok c = (
  named_keeps c.args.types.now _ c.args.r c.args.name c.args.ty c.args.token c.self.invariant.0 _ c.put_member.new.typing _ c.push_selector.new.selectors.items
      (c.contains-whole.ensures ∙ c.self.invariant.1 c.args.r.0) c.in-Ok.ensures.number c.in-Ok.ensures.ok
      (c.push_selector.ensures.items ∙ ap (λ l. l ++ (record { holder = c.args.r; member = c.in-Ok.member }) ∷ []) c.reserve.ensures.items),
  c.self.invariant.1,
)

pub returns-in-Ok-clause-ok : goal.returns-in-Ok-clause-ok
returns-in-Ok-clause-ok c =
    subst (λ z. Does (IsNamed c.args.token c.args.name) c.args.types.now z (adding c.args.r.0 c.args.token (type_at c.args.types.now c.args.ty)) (record { records = c.self.inside.records.items; typing = c.put_member.new.typing; selectors = c.push_selector.new.selectors.items; completed = c.self.inside.completed.keys; ended = c.self.inside.ended.items }))
    c.self.view_is
    (named_does c.args.types.now _ c.args.r c.args.name c.args.ty c.args.token c.self.invariant.0 _ c.put_member.new.typing _ c.push_selector.new.selectors.items
    (c.contains-whole.ensures ∙ c.self.invariant.1 c.args.r.0) c.in-Ok.ensures.number c.in-Ok.ensures.ok
    (c.push_selector.ensures.items ∙ ap (λ l. l ++ (record { holder = c.args.r; member = c.in-Ok.member }) ∷ []) c.reserve.ensures.items)
    c.in-Ok.ensures.allowed)

pub returns-in-Ok-clause-spelled : goal.returns-in-Ok-clause-spelled
returns-in-Ok-clause-spelled c =
    subst (λ z. KeepsSpelling (IsNamed c.args.token c.args.name) z (record { records = c.self.inside.records.items; typing = c.put_member.new.typing; selectors = c.push_selector.new.selectors.items; completed = c.self.inside.completed.keys; ended = c.self.inside.ended.items }))
    c.self.view_is
    (named_keeps_spelling c.args.types.now _ c.args.r c.args.name c.args.ty c.args.token c.self.invariant.0 _ c.put_member.new.typing _ c.push_selector.new.selectors.items
    (c.contains-whole.ensures ∙ c.self.invariant.1 c.args.r.0) c.in-Ok.ensures.number c.in-Ok.ensures.ok
    (c.push_selector.ensures.items ∙ ap (λ l. l ++ (record { holder = c.args.r; member = c.in-Ok.member }) ∷ []) c.reserve.ensures.items))

pub returns-in-Err-clause-ill : goal.returns-in-Err-clause-ill
returns-in-Err-clause-ill c =
    subst (λ z. Refuses c.refused.result (Repeats (IsNamed c.args.token c.args.name) c.args.types.now z (adding c.args.r.0 c.args.token (type_at c.args.types.now c.args.ty)))) c.self.view_is
    (named_refused c.args.types.now _ c.args.r c.args.name c.args.ty c.args.token c.self.invariant.0 c.in-Err.fault c.refused.result c.refused.ensures c.in-Err.ensures.refused)
