use Rattle.std.proofs.Common.{◌≡◌, Bool, true, false, ◌||◌, sym, ap, ◌∙◌, subst, refl}
use Rattle.std.specs.FinSet.{contains, contains-empty, contains-insert}
use Rattle.std.specs.Ordering.{eq_by_cmp}
use Rattle.std.specs.Cmp.{Equal-is}
use Rattle.cr_facts.specs.FactOrder.{Facts, fact_cmp}
use Rattle.cr_class.specs.RenameClass.{IsKnownFact}
use Rattle.cr_class.proofs.tests.facts_of.Goals as goal

pub loop-told-init : goal.loop-told-init
loop-told-init c count lt f has =
    let none = ap (λ (s : Facts). contains s f) (sym c.new-facts.ensures) in
    let bad : true ≡ false = sym has ∙ sym none ∙ contains-empty fact_cmp f in
    let no_way : ⊥ = cc in
    absurd no_way

pub loop-told-preserved : goal.loop-told-preserved
loop-told-preserved c count lt f has =
    let law = c.facts_are_ordered.ensures in
    let fact = c.in_ok-fact_of.field-0 in
    let old = c.loop-told.invariant count lt f in
    let has_now : (eq_by_cmp fact_cmp f fact || contains c.loop-told.facts f) ≡ true =
    sym (contains-insert law.total c.loop-told.facts fact f) ∙ ap (λ (s : Facts). contains s f) (sym c.in_ok-insert.ensures.ok) ∙ has in
    let by : (b : Bool) → eq_by_cmp fact_cmp f fact ≡ b → (b || contains c.loop-told.facts f) ≡ true → IsKnownFact count f = elim [
      | true ↦ λ e h. subst (IsKnownFact count) (sym (law.ties f fact ((Equal-is (fact_cmp f fact)).0 e))) (c.in_ok-fact_of.ensures count lt)
      | false ↦ λ e h. old h
    ] in
    by (eq_by_cmp fact_cmp f fact) refl has_now
