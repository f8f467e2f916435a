-- The first of equal items.
use Rattle.std.proofs.Common.{◌≡◌, ℕ, ◌+◌, ◌<◌, ◌⊎◌, Bool, List, [], ◌∷◌, ◌++◌, length, get_or, Option, Some, None, slice_get, refl, sym, ap, ◌∙◌, subst, inl, inr, arith, length-append}
use Rattle.std.specs.Prelude.{cond, if◌then◌else◌}
use Rattle.std.specs.declared.cmp.Ordering.{Ordering}
use Rattle.std.specs.declared.cmp.Ordering.TheVariants.{Less, Equal, Greater}
use Rattle.std.specs.Ordering.{is_eq}
use Rattle.std.specs.Cmp.{IsTotalOrder, tied_itself, tied_back}
use Rattle.std.specs.Map.{lookup}
use Rattle.std.proofs.lemmas.Bool.{cases_eq}
use Rattle.std.proofs.lemmas.List.Elements.{Contains-push_cases}
use Rattle.std.specs.List.{Contains}
use Rattle.std.proofs.lemmas.List.{get_or_at}
use Rattle.std.proofs.lemmas.Grind.{common_steps}
use Rattle.std.proofs.lemmas.Option.{slice_get_within}
use Rattle.cr_class.specs.Graph.{AreBelow, IsFirst}

pub lookup_same : {K X : Type 0} (t u : K → Bool) (es : List (K × X)) → ((k : K) → t k ≡ u k) → lookup t es ≡ lookup u es
lookup_same t u [] h = refl
lookup_same t u (e ∷ es) h = ap (λ b. cond b (Some e.1) (lookup t es)) (h e.0) ∙ ap (λ r. cond (u e.0) (Some e.1) r) (lookup_same t u es h)

-- equal items find the same
pub alike : {T K X : Type 0} {R : T → T → Ordering} → IsTotalOrder R → (view : K → T) (es : List (K × X)) (q x : T) → R q x ≡ Equal
    → lookup (λ k. is_eq (R q (view k))) es ≡ lookup (λ k. is_eq (R x (view k))) es
alike {R} order view es q x e = lookup_same (λ k. is_eq (R q (view k))) (λ k. is_eq (R x (view k))) es (λ k. ap is_eq (order.congr q x (view k) e))

get_push_last : (xs : List ℕ) (x i : ℕ) → i ≡ length xs → get_or (xs ++ x ∷ []) i 0 ≡ x
get_push_last xs x i e = get_or_at xs x [] 0 i (sym e)

get_push_front : (xs : List ℕ) (x i : ℕ) → i < length xs → get_or (xs ++ x ∷ []) i 0 ≡ get_or xs i 0
get_push_front xs x i lt = grind (arith, common_steps)

within : {X : Type 0} (xs : List X) (i : ℕ) (x : X) → slice_get xs i ≡ Some x → i < length xs
within xs i x e = slice_get_within xs i x e

module _ {T : Type 0} (R : T → T → Ordering) where
  -- the leaders of the first items, and the numbers of the first of equal ones
  pub record AreLeading (items : List T) (count : ℕ) (leaders : List ℕ) (firsts : T → Option ℕ) : Type 0 where
    pub size : length leaders ≡ count
    pub below : AreBelow (length items) leaders
    pub found : (j : ℕ) (x : T) → j < count → slice_get items j ≡ Some x → firsts x ≡ Some (get_or leaders j 0)
    pub first : (q : T) (n : ℕ) → firsts q ≡ Some n → (y : T) × (slice_get items n ≡ Some y) × (R q y ≡ Equal)

  module _ (order : IsTotalOrder R) (items : List T) (count : ℕ) (leaders : List ℕ) (firsts : T → Option ℕ) (item : T) (at : slice_get items count ≡ Some item) (leading : AreLeading items count leaders firsts) where
    -- an equal item stands in front
    known : (now : T → Option ℕ) (n : ℕ) → firsts item ≡ Some n → ((q : T) → now q ≡ firsts q) → AreLeading items (count + 1) (leaders ++ n ∷ []) now
    known now n is same = record {
      size = length-append leaders (n ∷ []) ∙ ap (λ k. k + 1) leading.size;
      below = λ m has. below_by m (Contains-push_cases leaders n m has);
      found = λ j x lt e. same x ∙ found_by j x lt e (cases_eq j count);
      first = λ q m e. leading.first q m (sym (same q) ∙ e);
    }
      where
        below_by : (m : ℕ) → Contains leaders m ⊎ (n ≡ m) → m < length items
        below_by m (inl h) = leading.below m h
        below_by m (inr e) = let k = leading.first item n is in subst (λ i. i < length items) e (within items n k.0 k.1)

        found_by : (j : ℕ) (x : T) → j < count + 1 → slice_get items j ≡ Some x → (j ≡ count) ⊎ (j ≡ count → ⊥) → firsts x ≡ Some (get_or (leaders ++ n ∷ []) j 0)
        found_by j x lt e (inl here) =
            let one : Some item ≡ Some x = sym at ∙ ap (slice_get items) (sym here) ∙ e in
            let own : item ≡ x = cc in
            subst (λ y. firsts y ≡ Some n) own is ∙ ap Some (sym (get_push_last leaders n j (here ∙ sym leading.size)))
        found_by j x lt e (inr other) =
            let before : j < count = omega (arith, lt, other) in
            leading.found j x before e ∙ ap Some (sym (get_push_front leaders n j (omega (arith, before, leading.size))))

    -- no equal item stands in front
    new : (now : T → Option ℕ) → ((q : T) → now q ≡ (if is_eq (R item q) then Some count else firsts q)) → ((q x : T) → R q x ≡ Equal → firsts q ≡ firsts x) → firsts item ≡ None → AreLeading items (count + 1) (leaders ++ count ∷ []) now
    new now updates alike none = record {
      size = length-append leaders (count ∷ []) ∙ ap (λ k. k + 1) leading.size;
      below = λ m has. below_by m (Contains-push_cases leaders count m has);
      found = λ j x lt e. found_by j x lt e (cases_eq j count);
      first = λ q n is. first_by q n (R item q) refl (sym (updates q) ∙ is);
    }
      where
        below_by : (m : ℕ) → Contains leaders m ⊎ (count ≡ m) → m < length items
        below_by m (inl h) = leading.below m h
        below_by m (inr e) = subst (λ i. i < length items) e (within items count item at)

        at_old : (x : T) (n : ℕ) (r : Ordering) → R item x ≡ r → firsts x ≡ Some n → now x ≡ Some n
        at_old x n Equal e is = let bad : None ≡ Some n = sym none ∙ alike item x e ∙ is in let no : ⊥ = cc in absurd no
        at_old x n Less e is = updates x ∙ ap (λ r. if is_eq r then Some count else firsts x) e ∙ is
        at_old x n Greater e is = updates x ∙ ap (λ r. if is_eq r then Some count else firsts x) e ∙ is

        found_by : (j : ℕ) (x : T) → j < count + 1 → slice_get items j ≡ Some x → (j ≡ count) ⊎ (j ≡ count → ⊥) → now x ≡ Some (get_or (leaders ++ count ∷ []) j 0)
        found_by j x lt e (inl here) =
            let one : Some item ≡ Some x = sym at ∙ ap (slice_get items) (sym here) ∙ e in
            let own : item ≡ x = cc in
            subst (λ y. now y ≡ Some count) own (updates item ∙ ap (λ r. if is_eq r then Some count else firsts item) (tied_itself order item))
            ∙ ap Some (sym (get_push_last leaders count j (here ∙ sym leading.size)))
        found_by j x lt e (inr other) =
            let before : j < count = omega (arith, lt, other) in
            at_old x (get_or leaders j 0) (R item x) refl (leading.found j x before e)
            ∙ ap Some (sym (get_push_front leaders count j (omega (arith, before, leading.size))))

        first_by : (q : T) (n : ℕ) (r : Ordering) → R item q ≡ r → (if is_eq (R item q) then Some count else firsts q) ≡ Some n → (y : T) × (slice_get items n ≡ Some y) × (R q y ≡ Equal)
        first_by q n Equal e is =
            let own : Some count ≡ Some n = sym (ap (λ r. if is_eq r then Some count else firsts q) e) ∙ is in
            let number : count ≡ n = cc in
            (item, subst (λ k. slice_get items k ≡ Some item) number at, tied_back order item q e)
        first_by q n Less e is = leading.first q n (sym (ap (λ r. if is_eq r then Some count else firsts q) e) ∙ is)
        first_by q n Greater e is = leading.first q n (sym (ap (λ r. if is_eq r then Some count else firsts q) e) ∙ is)

    pub more : (now : T → Option ℕ) (n : ℕ) → ((q x : T) → R q x ≡ Equal → firsts q ≡ firsts x) → IsFirst R firsts now item count n → AreLeading items (count + 1) (leaders ++ n ∷ []) now
    more now n alike (inl h) = known now n h.0 h.1
    more now n alike (inr h) = subst (λ m. AreLeading items (count + 1) (leaders ++ m ∷ []) now) (sym h.1) (new now h.2 alike h.0)
