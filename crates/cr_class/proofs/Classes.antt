-- The class of a target and its places, from sets of keys.
use Rattle.std.proofs.Common.{◌≡◌, ℕ, suc, Bool, true, false, ◌||◌, List, [], ◌∷◌, slice_get, Some, None, refl, sym, ap, subst, arith}
use Rattle.std.specs.Prelude.{◌↔◌, if◌then◌else◌}
use Rattle.std.specs.List.{Contains, list_any, filter_map}
use Rattle.std.specs.Ordering.{eq_by_cmp}
use Rattle.std.specs.Cmp.{IsTotalOrder, Equal-is, eq_by_cmp_equiv}
use Rattle.std.specs.FinSet.{from_list}
use Rattle.std.specs.declared.cmp.Ordering.{Ordering}
use Rattle.std.specs.declared.cmp.Ordering.TheVariants.{Equal}
use Rattle.std.proofs.lemmas.Map.Views.{list_any-from_Contains}
use Rattle.cr_base.specs.declared.token.Place.{Place}
use Rattle.cr_base.specs.declared.key.Key.{Key}
use Rattle.cr_facts.specs.FactOrder.{Facts, FactsAreOrdered}
use Rattle.cr_facts.specs.declared.fact.Fact.{Fact}
use Rattle.cr_facts.specs.declared.fact.Fact.TheVariants.{Denotes, BodyParam}
use Rattle.cr_snapshot.specs.declared.known.KnownFile.{KnownFile}
use Rattle.cr_class.specs.declared.target.Target.{Target}
use Rattle.cr_class.specs.RenameClass.{Has, place_cmp, InClass, targeted, shares, IsTargetKey}
use Rattle.cr_class.specs.Declarations.{known_place}
use Rattle.cr_class.specs.Sharing.{Shares, given, shared}
use Rattle.cr_class.proofs.Listed.{listed, told, kept, from_kept}

-- membership by a test of the order, and as an item
module _ {X : Type 0} (R : X → X → Ordering) (order : IsTotalOrder R) (ties : (x y : X) → R x y ≡ Equal → x ≡ y) where
  pub any_item : (x : X) (xs : List X) → list_any (eq_by_cmp R x) xs ≡ true → Contains xs x
  any_item x [] e = let bad : ⊥ = cc in absurd bad
  any_item x (y ∷ xs) e = by (eq_by_cmp R x y) refl e (any_item x xs)
    where
      by : (b : Bool) → eq_by_cmp R x y ≡ b → (b || list_any (eq_by_cmp R x) xs) ≡ true → (list_any (eq_by_cmp R x) xs ≡ true → Contains xs x) → Contains (y ∷ xs) x
      by true h g rest = (0, omega arith, sym (ties x y ((Equal-is (R x y)).0 h)))
      by false h g rest = let r = rest g in (suc r.0, omega (arith, r.1), r.2)

  pub item_any : (x : X) (xs : List X) → Contains xs x → list_any (eq_by_cmp R x) xs ≡ true
  item_any x xs has = list_any-from_Contains (eq_by_cmp_equiv order) x xs has

pub place_total : FactsAreOrdered → IsTotalOrder place_cmp
place_total law = record {
  antisymm = λ p q. law.total.antisymm (BodyParam p) (BodyParam q);
  trans = λ p q r e f. law.total.trans (BodyParam p) (BodyParam q) (BodyParam r) e f;
  congr = λ p q r e. law.total.congr (BodyParam p) (BodyParam q) (BodyParam r) e;
}

module _ (law : FactsAreOrdered) (facts : Facts) (all : List Fact) (is : from_list all ≡ facts) (known : Key → Bool) where
  place_from : (f : Fact) (p : Place) → Contains all f → known_place known f ≡ Some p → (k : Key) × (known k ≡ true) × Has facts (Denotes p k)
  place_from (Denotes q k) p has e = by (known k) refl e
    where
      by : (b : Bool) → known k ≡ b → (if b then Some q else None) ≡ Some p → (l : Key) × (known l ≡ true) × Has facts (Denotes p l)
      by true h g = let same : q ≡ p = cc in (k, h, subst (λ r. Has facts (Denotes r k)) same (told law facts all is (Denotes q k) has))
      by false h g = let bad : ⊥ = cc in absurd bad
  place_from f p has e = let bad : ⊥ = cc in absurd bad

  -- the places that denote an entity of a known key
  pub places_are : (p : Place) → Contains (filter_map (known_place known) all) p ↔ ((k : Key) × (known k ≡ true) × Has facts (Denotes p k))
  places_are p = (
    λ has. (let h = from_kept (known_place known) all p has in place_from h.0 p h.1 h.2),
    λ h. kept (known_place known) all (Denotes p h.0) p (listed law facts all is (Denotes p h.0) h.2) (ap (λ b. if b then Some p else None) h.1),
  )

module _ (files : List KnownFile) (facts : Facts) (old : List ℕ) (t : Target) (targets : List Key) (are : (k : Key) → Contains targets k ↔ IsTargetKey files facts old t k) where
  pub class_from : (k : Key) → Shares facts targets k → InClass files facts old t k
  class_from k (given has) = targeted ((are k).0 has)
  class_from l (shared {k = k} p share here there) = shares p (class_from k share) here there

  pub class_to : (k : Key) → InClass files facts old t k → Shares facts targets k
  class_to k (targeted is) = given ((are k).1 is)
  class_to l (shares {k = k} p share here there) = shared p (class_to k share) here there

pub first_contains : {X : Type 0} (xs : List X) (x : X) → slice_get xs 0 ≡ Some x → Contains xs x
first_contains [] x e = let bad : ⊥ = cc in absurd bad
first_contains (y ∷ xs) x e = let same : y ≡ x = cc in (0, omega arith, same)
