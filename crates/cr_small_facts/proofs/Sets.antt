-- Finite sets that grow by a list.
use Rattle.std.proofs.Common.{◌≡◌, Bool, true, false, ◌||◌, List, [], ◌∷◌, ◌++◌, refl, sym, ap, ◌∙◌}
use Rattle.std.specs.Ordering.{eq_by_cmp}
use Rattle.std.specs.Cmp.{IsTotalOrder}
use Rattle.std.specs.FinSet.{FinSet, IsAntisymmetric, empty, contains, insert, union, from_list, contains-empty, contains-insert, contains-union, same_set}
use Rattle.std.specs.declared.cmp.Ordering.{Ordering}

or_false : (a : Bool) → (a || false) ≡ a
or_false true = refl
or_false false = refl

or_turn : (a b c : Bool) → (a || (b || c)) ≡ ((b || a) || c)
or_turn true true c = refl
or_turn true false c = refl
or_turn false true c = refl
or_turn false false c = refl

module _ {K : Type 0} {R : K → K → Ordering} (total : IsTotalOrder R) (ties : IsAntisymmetric R) where
  pub union_none : (s : FinSet R) → union s (from_list []) ≡ s
  union_none s = same_set total ties (union s (from_list [])) s (λ q.
      contains-union total s (from_list []) q ∙ ap (λ c. contains s q || c) (contains-empty R q) ∙ or_false (contains s q))

  pub union_more : (s : FinSet R) (k : K) (ks : List K) → union s (from_list (k ∷ ks)) ≡ union (insert s k) (from_list ks)
  union_more s k ks = same_set total ties (union s (from_list (k ∷ ks))) (union (insert s k) (from_list ks)) (λ q.
      contains-union total s (from_list (k ∷ ks)) q
      ∙ ap (λ c. contains s q || c) (contains-insert total (from_list ks) k q)
      ∙ or_turn (contains s q) (eq_by_cmp R q k) (contains (from_list {R = R} ks) q)
      ∙ ap (λ c. c || contains (from_list {R = R} ks) q) (sym (contains-insert total s k q))
      ∙ sym (contains-union total (insert s k) (from_list ks) q))

  pub union_both : (s : FinSet R) (xs ys : List K) → union s (from_list (xs ++ ys)) ≡ union (union s (from_list xs)) (from_list ys)
  union_both s [] ys = ap (λ (z : FinSet R). union z (from_list ys)) (sym (union_none s))
  union_both s (x ∷ xs) ys = union_more s x (xs ++ ys) ∙ union_both (insert s x) xs ys ∙ ap (λ (z : FinSet R). union z (from_list ys)) (sym (union_more s x xs))

  pub union_all : (ks : List K) → union empty (from_list ks) ≡ from_list {R = R} ks
  union_all ks = same_set total ties (union empty (from_list ks)) (from_list ks) (λ q.
      contains-union total empty (from_list ks) q ∙ ap (λ c. c || contains (from_list {R = R} ks) q) (contains-empty R q))
