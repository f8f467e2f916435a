-- What each step of a verdict finds.
use Rattle.std.proofs.Common.{◌≡◌, ℕ, ◌+◌, ◌<◌, ◌⊎◌, Bool, true, false, ◌||◌, List, [], ◌∷◌, Option, Some, None, Result, Err, refl, sym, ap, ◌∙◌, subst, inl, inr, arith}
use Rattle.std.specs.Prelude.{Ok, OnOk, ◌↔◌}
use Rattle.std.specs.List.{Contains, list_any}
use Rattle.std.specs.declared.cmp.Ordering.{Ordering}
use Rattle.std.specs.Cmp.{IsTotalOrder, on_total}
use Rattle.std.specs.FinSet.{from_list}
use Rattle.std.proofs.lemmas.Cmp.{then_total}
use Rattle.std.proofs.lemmas.Bool.{cases_eq}
use Rattle.cr_base.specs.declared.token.Place.{Place}
use Rattle.cr_base.specs.declared.key.Key.{Key}
use Rattle.cr_base.specs.contracts.cause.RoleOrd.TheImpl.Laws.{total-law}
use Rattle.cr_facts.specs.FactOrder.{Facts, FactsAreOrdered}
use Rattle.cr_facts.specs.declared.fact.Fact.{Fact}
use Rattle.cr_facts.specs.declared.fact.Fact.TheVariants.{FileScope}
use Rattle.cr_snapshot.specs.declared.known.KnownFile.{KnownFile}
use Rattle.cr_class.specs.RenameClass.{Has}
use Rattle.cr_class.specs.ShownOrder.{path_of}
use Rattle.cr_class.specs.Judging.{scope_of}
use Rattle.cr_class.specs.Declarations.{least}
use Rattle.cr_class.specs.Verdict.{IsGiven, IsLeast, Passes, Refuses, IsFirstRefusal, step_of, use_cmp, is_in_class, is_renamed, macro_place, mixed_use, made_place, opaque_place, IsCaptured, IsClashPlace, is_unwritable_path, is_unspellable_at, bytes_of, IsReservedScope}
use Rattle.cr_class.specs.declared.class.Class.{Class}
use Rattle.cr_class.specs.declared.uses.Use.{Use}
use Rattle.cr_class.specs.declared.refusal.Refusal.{Refusal}
use Rattle.cr_class.specs.declared.refusal.VerdictFault.{VerdictFault}
use Rattle.cr_class.specs.declared.refusal.VerdictFault.TheVariants as fault
use Rattle.cr_class.specs.declared.refusal.Refusal.TheVariants as refusal
use Rattle.cr_class.proofs.Listed.{later, cons_cases, listed, told}
use Rattle.cr_class.proofs.Least.{least_below, least_among, least_none}
use Rattle.cr_class.proofs.Candidates.{shown_total}

pub use_total : (files : List KnownFile) → IsTotalOrder (use_cmp files)
use_total files = then_total (on_total (λ (u : Use). u.place) (shown_total files)) (on_total (λ (u : Use). u.role) total-law)

-- the least of what a list has, which is what a predicate holds of
module _ {X : Type 0} (R : X → X → Ordering) (order : IsTotalOrder R) (P : X → Type 0) (xs : List X) (are : (x : X) → Contains xs x ↔ P x) where
  pub none_found : least R None xs ≡ None → (x : X) → P x → ⊥
  none_found e x h = least_none R order xs e x ((are x).1 h)

  pub some_found : (x : X) → least R None xs ≡ Some x → IsLeast R P x
  some_found x e = (by (least_among R order None xs x e), λ y h. (least_below R order None xs x e).1 y ((are y).1 h))
    where
      by : (None ≡ Some x) ⊎ Contains xs x → P x
      by (inl h) = let bad : ⊥ = cc in absurd bad
      by (inr h) = (are x).0 h

pub any_true : {X : Type 0} (t : X → Bool) (xs : List X) → list_any t xs ≡ true → (x : X) × Contains xs x × (t x ≡ true)
any_true t [] e = let bad : ⊥ = cc in absurd bad
any_true {X} t (y ∷ xs) e = by (t y) refl e (any_true t xs)
  where
    by : (b : Bool) → t y ≡ b → (b || list_any t xs) ≡ true → (list_any t xs ≡ true → (x : X) × Contains xs x × (t x ≡ true)) → (x : X) × Contains (y ∷ xs) x × (t x ≡ true)
    by true h g rest = (y, (0, omega arith, refl), h)
    by false h g rest = let r = rest g in (r.0, later y r.0 xs r.1, r.2)

-- where nothing is found, no refusal of the step holds
module _ (facts : Facts) (class : Class) (files : List KnownFile) (root : Option (List ℕ)) (old new : List ℕ) where
  pub passes_macro : ((p : Place) → IsGiven macro_place facts p → ⊥) → Passes facts class files root old new 1
  passes_macro none (refusal.NewIsMacro p) e h = none p h.0
  passes_macro none r e h = let bad : ⊥ = omega (arith, e) in bad

  pub passes_mixed : ((u : Use) → IsGiven (mixed_use (is_in_class class) (is_renamed class)) facts u → ⊥) → Passes facts class files root old new 2
  passes_mixed none (refusal.Mixed p r) e h = none (record { place = p; role = r }) h.0
  passes_mixed none r e h = let bad : ⊥ = omega (arith, e) in bad

  pub passes_made : ((p : Place) → IsGiven (made_place (is_in_class class) (is_renamed class)) facts p → ⊥) → Passes facts class files root old new 3
  passes_made none (refusal.Made p) e h = none p h.0
  passes_made none r e h = let bad : ⊥ = omega (arith, e) in bad

  pub passes_unwritable : ((p : Place) → Contains class.places p × (is_unwritable_path root (path_of files p) ≡ true) → ⊥) → Passes facts class files root old new 4
  passes_unwritable none (refusal.Unwritable p) e h = none p h.0
  passes_unwritable none r e h = let bad : ⊥ = omega (arith, e) in bad

  pub passes_spelling : ((p : Place) → Contains class.places p × (is_unspellable_at old new (bytes_of files p) p.offset ≡ true) → ⊥) → Passes facts class files root old new 5
  passes_spelling none (refusal.Spelling p) e h = none p h.0
  passes_spelling none r e h = let bad : ⊥ = omega (arith, e) in bad

  pub passes_opaque : ((p : Place) → IsGiven opaque_place facts p → ⊥) → Passes facts class files root old new 6
  passes_opaque none (refusal.Opaque p) e h = none p h.0
  passes_opaque none r e h = let bad : ⊥ = omega (arith, e) in bad

  pub passes_capture : ((p : Place) → IsCaptured facts class p → ⊥) → ((p : Place) → IsClashPlace facts class new p → ⊥) → Passes facts class files root old new 7
  passes_capture none clash (refusal.Capture p) e (inl h) = none p h.0
  passes_capture none clash (refusal.Capture p) e (inr h) = clash p h.1.0
  passes_capture none clash r e h = let bad : ⊥ = omega (arith, e) in bad

  pub passes_reserved : (IsReservedScope facts class new → ⊥) → Passes facts class files root old new 0
  passes_reserved none refusal.Reserved e h = none h
  passes_reserved none r e h = let bad : ⊥ = omega (arith, e) in bad

pub on_ok : {P Q : Type 0} (r : Result (Unit {0}) VerdictFault) → OnOk r P → (P → Q) → OnOk r Q
on_ok (Ok a) p f = f p
on_ok (Err e) p f = tt

pub same_refusal : (a r : Refusal) → ◌≡◌ {A = Result (Unit {0}) VerdictFault} (Err (fault.Refused a)) (Err (fault.Refused r)) → a ≡ r
same_refusal a r e = cc

pub true_any : {X : Type 0} (t : X → Bool) (xs : List X) (x : X) → Contains xs x → t x ≡ true → list_any t xs ≡ true
true_any t [] x has e = let bad : ⊥ = omega (arith, has.1) in absurd bad
true_any t (y ∷ xs) x has e = by (cons_cases y x xs has) (true_any t xs x)
  where
    either : (b : Bool) → (b || true) ≡ true
    either true = refl
    either false = refl

    by : (y ≡ x) ⊎ Contains xs x → (Contains xs x → t x ≡ true → list_any t xs ≡ true) → (t y || list_any t xs) ≡ true
    by (inl same) rest = ap (λ b. b || list_any t xs) (ap t same ∙ e)
    by (inr h) rest = ap (λ b. t y || b) (rest h e) ∙ either (t y)

module _ (law : FactsAreOrdered) (facts : Facts) (all : List Fact) (is : from_list all ≡ facts) (known : Key → Bool) where
  pub scope_any : (k : Key) → Has facts (FileScope k) → known k ≡ true → list_any (scope_of known) all ≡ true
  scope_any k has e = true_any (scope_of known) all (FileScope k) (listed law facts all is (FileScope k) has) e

  from_scope : (f : Fact) → Contains all f → scope_of known f ≡ true → (k : Key) × Has facts (FileScope k) × (known k ≡ true)
  from_scope (FileScope k) has e = (k, told law facts all is (FileScope k) has, e)
  from_scope f has e = let bad : ⊥ = cc in absurd bad

  pub scope_found : list_any (scope_of known) all ≡ true → (k : Key) × Has facts (FileScope k) × (known k ≡ true)
  scope_found e = let f = any_true (scope_of known) all e in from_scope f.0 f.1 f.2

-- the steps in order
module _ (facts : Facts) (class : Class) (files : List KnownFile) (root : Option (List ℕ)) (old new : List ℕ) where
  abbrev pub PassesBelow : ℕ → Type 0
  PassesBelow count = (step : ℕ) → step < count → Passes facts class files root old new step

  pub passes_none : PassesBelow 0
  passes_none step lt = let bad : ⊥ = omega (arith, lt) in absurd bad

  pub passes_more : (count : ℕ) → PassesBelow count → Passes facts class files root old new count → PassesBelow (count + 1)
  passes_more count below own step lt = by (cases_eq step count)
    where
      by : (step ≡ count) ⊎ (step ≡ count → ⊥) → Passes facts class files root old new step
      by (inl e) = subst (Passes facts class files root old new) (sym e) own
      by (inr ne) = below step (omega (arith, lt, ne))

  pub is_first : (count : ℕ) → PassesBelow count → (r : Refusal) → (step_of r ≡ count) × Refuses facts class files root old new r → IsFirstRefusal facts class files root old new r
  is_first count below r h = (h.1, λ step lt. below step (subst (λ n. step < n) h.0 lt))

  step_below : (r : Refusal) → step_of r < 8
  step_below refusal.Reserved = omega arith
  step_below (refusal.NewIsMacro p) = omega arith
  step_below (refusal.Mixed p r) = omega arith
  step_below (refusal.Made p) = omega arith
  step_below (refusal.Unwritable p) = omega arith
  step_below (refusal.Spelling p) = omega arith
  step_below (refusal.Opaque p) = omega arith
  step_below (refusal.Capture p) = omega arith

  pub none_refuses : PassesBelow 8 → (r : Refusal) → Refuses facts class files root old new r → ⊥
  none_refuses below r h = below (step_of r) (step_below r) r refl h
