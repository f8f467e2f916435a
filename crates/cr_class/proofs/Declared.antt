-- The declarations of a list of facts.
use Rattle.std.proofs.Common.{◌≡◌, ℕ, zero, suc, ◌⊎◌, List, [], ◌∷◌, length, slice_get, Some, refl, sym, ap, ◌∙◌, subst, inl, inr, arith}
use Rattle.std.specs.List.{Contains, filter_map}
use Rattle.std.specs.FinSet.{from_list}
use Rattle.cr_base.specs.declared.token.Place.{Place}
use Rattle.cr_base.specs.declared.key.Key.{Key}
use Rattle.cr_facts.specs.FactOrder.{Facts, FactsAreOrdered}
use Rattle.cr_facts.specs.declared.fact.Fact.{Fact}
use Rattle.cr_facts.specs.declared.fact.Fact.TheVariants.{Declares}
use Rattle.cr_class.specs.Declarations.{declared_key, declared_place, AreDeclarations}
use Rattle.cr_class.proofs.Listed.{later, cons_cases, listed, told}

abbrev keys : List Fact → List Key
keys all = filter_map declared_key all

abbrev places : List Fact → List Place
places all = filter_map declared_place all

only : (all : List Fact) (i : ℕ) (k : Key) (p : Place) → slice_get (keys all) i ≡ Some k → slice_get (places all) i ≡ Some p → Contains all (Declares k p)
only [] i k p a b = let bad : ⊥ = cc in absurd bad
only (Declares l q ∷ all) zero k p a b = let key : l ≡ k = cc in let place : q ≡ p = cc in (0, omega arith, ap (λ m. Declares m q) key ∙ ap (Declares k) place)
only (Declares l q ∷ all) (suc i) k p a b = later (Declares l q) (Declares k p) all (only all i k p a b)
only (f ∷ all) i k p a b = later f (Declares k p) all (only all i k p a b)

abbrev Stands : List Fact → Key → Place → Type 0
Stands all k p = (i : ℕ) × (slice_get (keys all) i ≡ Some k) × (slice_get (places all) i ≡ Some p)

behind : (f : Fact) (all : List Fact) (k : Key) (p : Place) → Stands all k p → Stands (f ∷ all) k p
behind (Declares l q) all k p h = (suc h.0, h.1, h.2)
behind f all k p h = h

some : (all : List Fact) (k : Key) (p : Place) → Contains all (Declares k p) → Stands all k p
some [] k p has = let bad : ⊥ = omega (arith, has.1) in absurd bad
some (f ∷ all) k p has = by (cons_cases f (Declares k p) all has) (some all k p)
  where
    by : (f ≡ Declares k p) ⊎ Contains all (Declares k p) → (Contains all (Declares k p) → Stands all k p) → Stands (f ∷ all) k p
    by (inl e) rest = subst (λ g. Stands (g ∷ all) k p) (sym e) (0, refl, refl)
    by (inr h) rest = behind f all k p (rest h)

beside : (all : List Fact) → length (keys all) ≡ length (places all)
beside [] = refl
beside (Declares k p ∷ all) = ap suc (beside all)
beside (f ∷ all) = beside all

pub are_declarations : FactsAreOrdered → (facts : Facts) (all : List Fact) → from_list all ≡ facts → AreDeclarations facts (keys all) (places all)
are_declarations law facts all is = record {
  count = beside all;
  only = λ i k p a b. told law facts all is (Declares k p) (only all i k p a b);
  all = λ k p has. some all k p (listed law facts all is (Declares k p) has);
}
