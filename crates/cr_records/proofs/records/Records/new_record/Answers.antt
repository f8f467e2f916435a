use Rattle.std.proofs.Common.{[], ◌∷◌, ◌++◌, refl, subst, sym, ap, ◌∙◌}
use Rattle.cr_types.specs.Types.{Table}
use Rattle.cr_records.specs.Kept.{IsOf}
use Rattle.cr_records.specs.Records.{with_records, recorded}
use Rattle.cr_records.proofs.Announcing.{made_records, keeps_both, announced_of, announced_does}
use Rattle.cr_records.proofs.records.Records.new_record.Goals as goal

pub returns-in_err-n-clause-of : goal.returns-in_err-n-clause-of
returns-in_err-n-clause-of c =
    announced_of c.args.types.now c.make.new.self _ c.push_record.new.records.items (record { token = c.args.token; is_union = c.args.is_union }) c.self.invariant.0 (subst (IsOf c.args.types.now) (sym c.self.view_is) c.requires.of)
    (keeps_both _ _ _ c.in_ok-r.ensures.keeps c.in_err-n.ensures.keeps)
    (c.push_record.ensures ∙ ap (λ l. l ++ (record { token = c.args.token; is_union = c.args.is_union }) ∷ []) c.reserve.ensures.items)
    _ refl (ap (λ (t : Table). t.records) (c.in_err-n.ensures.err ∙ c.in_ok-r.ensures.ok))

pub returns-clause-ok : goal.returns-clause-ok
returns-clause-ok c = λ s.
    announced_does c.args.types.now c.make.new.self _ c.push_record.new.records.items (record { token = c.args.token; is_union = c.args.is_union }) c.self.invariant.0 (subst (IsOf c.args.types.now) (sym c.self.view_is) c.requires.of)
    (keeps_both _ _ _ c.in_ok-r.ensures.keeps c.in_ok-n.ensures.keeps)
    (c.push_record.ensures ∙ ap (λ l. l ++ (record { token = c.args.token; is_union = c.args.is_union }) ∷ []) c.reserve.ensures.items) s
    ∙ ap (λ z. recorded (record { token = c.args.token; is_union = c.args.is_union }) (with_records c.args.types.now z s)) c.self.view_is

pub returns-clause-of : goal.returns-clause-of
returns-clause-of c =
    announced_of c.args.types.now c.make.new.self _ c.push_record.new.records.items (record { token = c.args.token; is_union = c.args.is_union }) c.self.invariant.0 (subst (IsOf c.args.types.now) (sym c.self.view_is) c.requires.of)
    (keeps_both _ _ _ c.in_ok-r.ensures.keeps c.in_ok-n.ensures.keeps)
    (c.push_record.ensures ∙ ap (λ l. l ++ (record { token = c.args.token; is_union = c.args.is_union }) ∷ []) c.reserve.ensures.items)
    _ refl (made_records _ _ _ c.in_ok-n.ensures.ok ∙ ap (λ (t : Table). t.records) c.in_ok-r.ensures.ok)
