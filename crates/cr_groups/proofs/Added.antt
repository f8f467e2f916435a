-- What sets of facts have more.
use Rattle.std.proofs.Common.{◌≡◌, ◌⊎◌, inl, inr, Bool, true, false, ◌||◌, refl, sym, ap, subst, ◌∙◌}
use Rattle.std.specs.Ordering.{eq_by_cmp}
use Rattle.std.specs.declared.cmp.Ordering.{Ordering}
use Rattle.std.specs.declared.cmp.Ordering.TheVariants.{Less, Equal, Greater}
use Rattle.std.specs.FinSet.{contains, insert, contains-insert}
use Rattle.std.proofs.lemmas.Cmp.{eq_by_cmp_equiv}
use Rattle.cr_facts.specs.FactOrder.{Facts, fact_cmp, FactsAreOrdered}
use Rattle.cr_facts.specs.declared.fact.Fact.{Fact}
use Rattle.cr_groups.specs.Adding.{Adds}

tie : (o : Ordering) → eq_by_cmp (λ (a b : Bool). o) true true ≡ true → o ≡ Equal
tie Less h = cc
tie Equal h = refl
tie Greater h = cc

tied : (o : Ordering) → o ≡ Equal → eq_by_cmp (λ (a b : Bool). o) true true ≡ true
tied Less h = cc
tied Equal h = refl
tied Greater h = cc

either : (a b : Bool) → (a || b) ≡ true → (a ≡ true) ⊎ (b ≡ true)
either true b h = inl refl
either false b h = inr h

right_true : (a b : Bool) → b ≡ true → (a || b) ≡ true
right_true true b h = refl
right_true false b h = h

left_true : (a b : Bool) → a ≡ true → (a || b) ≡ true
left_true true b h = refl
left_true false b h = cc

pub adds_one : FactsAreOrdered → (before after : Facts) (x : Fact) → after ≡ insert before x → Adds before after (λ f. f ≡ x)
adds_one law before after x more f = (
  (λ h.
      elim (either (eq_by_cmp fact_cmp f x) (contains before f) (sym (contains-insert law.total before x f) ∙ ap (λ (s : Facts). contains s f) (sym more) ∙ h)) [
        | inl t ↦ inr (law.ties f x (tie (fact_cmp f x) t))
        | inr k ↦ inl k
      ]),
  (λ h.
      ap (λ (s : Facts). contains s f) more ∙ contains-insert law.total before x f
      ∙ elim h [
        | inl k ↦ right_true (eq_by_cmp fact_cmp f x) (contains before f) k
        | inr e ↦ left_true (eq_by_cmp fact_cmp f x) (contains before f) (subst (λ z. eq_by_cmp fact_cmp z x ≡ true) (sym e) ((eq_by_cmp_equiv law.total).refl x))
      ]),
)

pub adds_same : (before after : Facts) (P Q : Fact → Type 0) → ((x : Fact) → P x → Q x) → ((x : Fact) → Q x → P x) → Adds before after P → Adds before after Q
adds_same before after P Q f g h x = (
  (λ k. elim ((h x).0 k) [ inl m ↦ inl m | inr m ↦ inr (f x m) ]),
  (λ k. elim k [ inl m ↦ (h x).1 (inl m) | inr m ↦ (h x).1 (inr (g x m)) ]),
)

pub adds_none : (before : Facts) (P : Fact → Type 0) → ((x : Fact) → P x → ⊥) → Adds before before P
adds_none before P f x = ((λ k. inl k), (λ k. elim k [ inl m ↦ m | inr m ↦ absurd (f x m) ]))

pub adds_both : (a b c : Facts) (P Q : Fact → Type 0) → Adds a b P → Adds b c Q → Adds a c (λ x. P x ⊎ Q x)
adds_both a b c P Q h g x = (
  (λ k.
      elim ((g x).0 k) [
        | inl m ↦ elim ((h x).0 m) [ inl n ↦ inl n | inr n ↦ inr (inl n) ]
        | inr m ↦ inr (inr m)
      ]),
  (λ k.
      elim k [
        | inl m ↦ (g x).1 (inl ((h x).1 (inl m)))
        | inr m ↦ elim m [ inl n ↦ (g x).1 (inl ((h x).1 (inr n))) | inr n ↦ (g x).1 (inr n) ]
      ]),
)
