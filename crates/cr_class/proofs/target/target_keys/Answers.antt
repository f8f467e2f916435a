use Rattle.std.proofs.Common.{Result, Ok, Err, sym, ap, ◌∙◌, subst}
use Rattle.std.specs.Prelude.{IfOk}
use Rattle.cr_base.specs.declared.key.Key.TheVariants as key
use Rattle.cr_base.specs.declared.key.RecordKey.TheVariants as record_key
use Rattle.cr_class.specs.RenameClass.{Means}
use Rattle.cr_class.proofs.Candidates.{ordinary_renamable}
use Rattle.cr_class.proofs.target.target_keys.Goals as goal

if_ok : {A B : Type 0} (P Q : A → Type 0) (r : Result A B) → ((a : A) → P a → Q a) → IfOk r P → IfOk r Q
if_ok P Q (Ok a) h p = h a p
if_ok P Q (Err b) h p = p

pub returns-in-Ordinary : goal.returns-in-Ordinary
returns-in-Ordinary c = if_ok _ _ c.ordinary_keys.result
    (λ keys h k. (
      λ has. (let m = (h k).0 has in (subst (λ t. Means c.args.snapshot.now c.args.facts.now c.args.old.now t k) (sym c.in-Ordinary.is) m, ordinary_renamable c.args.snapshot.now c.args.facts.now c.args.old.now k m)),
      λ m. (h k).1 (subst (λ t. Means c.args.snapshot.now c.args.facts.now c.args.old.now t k) c.in-Ordinary.is m.0),
    ))
    c.ordinary_keys.ensures

pub returns-in_ok-new-in-Tagged : goal.returns-in_ok-new-in-Tagged
returns-in_ok-new-in-Tagged c =
    let name = c.in_ok-new-in-Tagged.ensures in
    if_ok _ _ c.if_renamable.result
    (λ keys h k. (
      λ has. (let m = (h k).0 has in (subst (λ t. Means c.args.snapshot.now c.args.facts.now c.args.old.now t k) (sym c.in-Tagged.is) (m.0 ∙ ap (key.Tag c.in-Tagged.kind) name), m.1)),
      λ m. (h k).1 (subst (λ t. Means c.args.snapshot.now c.args.facts.now c.args.old.now t k) c.in-Tagged.is m.0 ∙ ap (key.Tag c.in-Tagged.kind) (sym name), m.1),
    ))
    c.if_renamable.ensures

pub returns-in_ok-new-in-MemberOf : goal.returns-in_ok-new-in-MemberOf
returns-in_ok-new-in-MemberOf c =
    let name = c.in_ok-new-in-MemberOf.ensures in
    let tag = c.in_ok-copy-in-MemberOf.ensures in
    let same = ap (λ t. key.Member (record_key.Tag c.in-MemberOf.kind t) c.in_ok-new-in-MemberOf.field-0) tag ∙ ap (key.Member (record_key.Tag c.in-MemberOf.kind c.in-MemberOf.tag)) name in
    if_ok _ _ c.if_renamable-in-MemberOf.result
    (λ keys h k. (
      λ has. (let m = (h k).0 has in (subst (λ t. Means c.args.snapshot.now c.args.facts.now c.args.old.now t k) (sym c.in-MemberOf.is) (m.0 ∙ same), m.1)),
      λ m. (h k).1 (subst (λ t. Means c.args.snapshot.now c.args.facts.now c.args.old.now t k) c.in-MemberOf.is m.0 ∙ sym same, m.1),
    ))
    c.if_renamable-in-MemberOf.ensures
