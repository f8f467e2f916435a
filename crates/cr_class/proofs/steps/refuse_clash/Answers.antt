use Rattle.std.proofs.Common.{◌≡◌, true, false, sym, ap, ◌∙◌, subst}
use Rattle.std.specs.List.{Contains, list_any}
use Rattle.std.specs.FinSet.{contains}
use Rattle.cr_facts.specs.declared.fact.Fact.TheVariants.{NewKey}
use Rattle.cr_class.specs.ShownOrder.{shown_cmp}
use Rattle.cr_class.specs.Verdict.{IsClashPlace, has_clash, renamed_key}
use Rattle.cr_class.proofs.Candidates.{shown_total}
use Rattle.cr_class.proofs.Judged.{none_found, some_found, same_refusal}
use Rattle.cr_class.proofs.steps.refuse_clash.Goals as goal

pub returns-in-None-clause-ok : goal.returns-in-None-clause-ok
returns-in-None-clause-ok c = λ p h.
    none_found (shown_cmp c.args.question.now.snapshot.now) (shown_total c.args.question.now.snapshot.now) (Contains c.args.question.now.class.now.places) c.items-class.result.now (λ q. (subst (λ l. Contains l q) c.items-class.ensures, subst (λ l. Contains l q) (sym c.items-class.ensures)))
    (sym c.least_place.ensures ∙ c.in-None.is) p h.0

pub returns-in-Some-clause-refused : goal.returns-in-Some-clause-refused
returns-in-Some-clause-refused c = λ r e.
    let clash : has_clash c.args.question.now.facts.now c.args.question.now.class.now c.args.question.now.new.now ≡ true = ap (list_any (λ k. contains c.args.question.now.facts.now (NewKey (renamed_key c.args.question.now.new.now k)))) (sym c.items.ensures) ∙ sym c.in_ok-has_clash.ensures ∙ c.if-not-branch.false in (
      c.in-Some.place,
      sym (same_refusal _ r e),
      some_found (shown_cmp c.args.question.now.snapshot.now) (shown_total c.args.question.now.snapshot.now) (IsClashPlace c.args.question.now.facts.now c.args.question.now.class.now c.args.question.now.new.now) c.items-class.result.now
          (λ q. ((λ h. (subst (λ l. Contains l q) c.items-class.ensures h, clash)), (λ h. subst (λ l. Contains l q) (sym c.items-class.ensures) h.0)))
          c.in-Some.place (sym c.least_place.ensures ∙ c.in-Some.is),
    )

pub returns-then-not-branch-clause-ok : goal.returns-then-not-branch-clause-ok
returns-then-not-branch-clause-ok c = λ p h.
    let none : has_clash c.args.question.now.facts.now c.args.question.now.class.now c.args.question.now.new.now ≡ false = ap (list_any (λ k. contains c.args.question.now.facts.now (NewKey (renamed_key c.args.question.now.new.now k)))) (sym c.items.ensures) ∙ sym c.in_ok-has_clash.ensures ∙ c.if-not-branch.true in
    let both : false ≡ true = sym none ∙ h.1 in
    let bad : ⊥ = cc in bad
