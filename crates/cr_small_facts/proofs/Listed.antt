-- The places of the facts of a list.
use Rattle.std.proofs.Common.{◌≡◌, ℕ, ◌+◌, ◌<◌, ◌≤◌, Bool, true, false, ◌||◌, List, [], ◌∷◌, ◌++◌, Option, Some, None, refl, sym, ap, ◌∙◌, subst, arith, eq-eqb, eqb-true}
use Rattle.std.specs.Prelude.{◌==◌, if◌then◌else◌}
use Rattle.std.specs.List.{list_any, AllByRecursion}
use Rattle.std.specs.List.Sorted.{IsStrictlySortedBy}
use Rattle.std.specs.Ordering.{nat_cmp, eq_by_cmp, is_eq, ordering_then}
use Rattle.std.specs.declared.cmp.Ordering.{Ordering}
use Rattle.std.specs.declared.cmp.Ordering.TheVariants.{Less, Equal, Greater}
use Rattle.std.specs.Cmp.{Equal-is, both_ways, tied_itself, nat_cmp_total}
use Rattle.std.proofs.lemmas.Cmp.{ranked}
use Rattle.std.specs.FinSet.{contains, from_list, contains-from_list}
use Rattle.std.proofs.lemmas.List.Folds.{list_any-append}
use Rattle.cr_base.specs.declared.token.Place.{Place}
use Rattle.cr_base.specs.declared.key.Key.{Key}
use Rattle.cr_base.specs.contracts.key.KeyOrd.TheImpl as key_ord
use Rattle.cr_base.specs.contracts.key.KeyOrd.TheImpl.Laws.{matches_eq-law}
use Rattle.cr_base.specs.contracts.key.KeyPartialEq.TheImpl as key_eq
use Rattle.cr_facts.specs.FactOrder.{Facts, fact_cmp, FactsAreOrdered}
use Rattle.cr_facts.specs.declared.fact.Fact.{Fact}
use Rattle.cr_facts.specs.declared.fact.Fact.TheVariants as fact
use Rattle.cr_small_facts.specs.TextFacts.{place}
use Rattle.cr_small_facts.specs.Places.{Rising, ArePlaces}
use Rattle.cr_small_facts.specs.Filing.{place_of, offset_if, offsets_among}
use Rattle.cr_small_facts.proofs.Rising.{among, first_among}

abbrev key_cmp : Key → Key → Ordering
key_cmp = (key_ord.ghosts).cmp

module _ (law : FactsAreOrdered) where
  tied : (f : Fact) → eq_by_cmp fact_cmp f f ≡ true
  tied f = ap is_eq (tied_itself law.total f)

  pub same_fact : (f g : Fact) → eq_by_cmp fact_cmp f g ≡ true → f ≡ g
  same_fact f g h = law.ties f g ((Equal-is (fact_cmp f g)).0 h)

  key_tied : (k : Key) → key_cmp k k ≡ Equal
  key_tied k = tied_itself law.total (fact.FileScope k)

  -- the code's test of keys
  abbrev is_key : Key → Key → Bool
  is_key = (key_eq.ghosts).eq

  by_order : (k l : Key) → is_key k l ≡ eq_by_cmp key_cmp k l
  by_order k l = matches_eq-law k l

  same_key : (k l : Key) → is_key k l ≡ true → k ≡ l
  same_key k l h = let e : fact.FileScope k ≡ fact.FileScope l = same_fact (fact.FileScope k) (fact.FileScope l) (sym (by_order k l) ∙ h) in cc

  own_key : (k : Key) → is_key k k ≡ true
  own_key k = by_order k k ∙ ap is_eq (key_tied k)

  -- of two places in one file the lesser is in front
  in_front : (file o p : ℕ) (k : Key) → fact_cmp (fact.Denotes (place file o) k) (fact.Denotes (place file p) k) ≡ Less → o < p
  in_front file o p k h = by (nat_cmp o p) refl (ap (λ x. ordering_then (ordering_then x (nat_cmp o p)) (key_cmp k k)) (sym (tied_itself nat_cmp_total file)) ∙ h)
    where
      by : (x : Ordering) → nat_cmp o p ≡ x → ordering_then (ordering_then Equal x) (key_cmp k k) ≡ Less → o < p
      by Less e g = ranked o p Less (sym e)
      by Equal e g = let no : Equal ≡ Less = sym (key_tied k) ∙ g in let bad : ⊥ = cc in absurd bad
      by Greater e g = let bad : ⊥ = cc in absurd bad

  module _ (file : ℕ) (key : Key) where
    -- a fact that has a place
    placed : (f : Fact) (p : Place) → place_of key f ≡ Some p → f ≡ fact.Denotes p key
    placed (fact.Denotes q k) p h = by (is_key k key) refl h
      where
        by : (b : Bool) → is_key k key ≡ b → (if b then Some q else None) ≡ Some p → fact.Denotes q k ≡ fact.Denotes p key
        by true e g = let place : q ≡ p = cc in ap (λ z. fact.Denotes z k) place ∙ ap (fact.Denotes p) (same_key k key e)
        by false e g = let bad : ⊥ = cc in absurd bad
    placed f p h = let bad : ⊥ = cc in absurd bad

    -- an offset of a place
    filed : (o : Option Place) (n : ℕ) → among n (offset_if file o) ≡ true → o ≡ Some (place file n)
    filed None n h = let bad : ⊥ = cc in absurd bad
    filed (Some p) n h = by (file == p.path.0) refl h
      where
        by : (b : Bool) → (file == p.path.0) ≡ b → among n (if b then p.offset ∷ [] else []) ≡ true → Some p ≡ Some (place file n)
        by true e g =
            let path : file ≡ p.path.0 = eqb-true file p.path.0 e in
            let offset : n ≡ p.offset = eqb-true n p.offset (or_none (n == p.offset) g) in
            ap {B = Option Place} (λ (z : ℕ). Some (record { path = record { 0 = z }; offset = p.offset })) (sym path) ∙ ap {B = Option Place} (λ (z : ℕ). Some (place file z)) (sym offset)
          where
            or_none : (b : Bool) → (b || false) ≡ true → b ≡ true
            or_none true g = refl
            or_none false g = g
        by false e g = let bad : ⊥ = cc in absurd bad

    abbrev told : ℕ → Fact
    told n = fact.Denotes (place file n) key

    own_offset : (n : ℕ) → offset_if file (place_of key (told n)) ≡ n ∷ []
    own_offset n = ap (λ b. offset_if file (if b then Some (place file n) else None)) (own_key key) ∙ ap (λ b. if b then n ∷ [] else []) (eq-eqb file file refl)

    -- a fact tells an offset just where that is the one filed
    tells : (n : ℕ) (f : Fact) → eq_by_cmp fact_cmp (told n) f ≡ among n (offset_if file (place_of key f))
    tells n f =
        both_ways (eq_by_cmp fact_cmp (told n) f) (among n (offset_if file (place_of key f)))
        (λ e. ap (λ x. among n (offset_if file (place_of key x))) (sym (same_fact (told n) f e)) ∙ ap (among n) (own_offset n) ∙ first_among n [])
        (λ h. ap (eq_by_cmp fact_cmp (told n)) (placed f (place file n) (filed (place_of key f) n h)) ∙ tied (told n))

    members : (n : ℕ) (facts : List Fact) → list_any (eq_by_cmp fact_cmp (told n)) facts ≡ among n (offsets_among file key facts)
    members n [] = refl
    members n (f ∷ facts) =
        ap (λ b. b || list_any (eq_by_cmp fact_cmp (told n)) facts) (tells n f)
        ∙ ap (λ b. among n (offset_if file (place_of key f)) || b) (members n facts)
        ∙ sym (list_any-append (λ o. n == o) (offset_if file (place_of key f)) (offsets_among file key facts))

    -- each offset of these facts is this at least
    abbrev AllFrom : ℕ → List Fact → Type 0
    AllFrom from facts = AllByRecursion (λ f. (n : ℕ) → f ≡ told n → from ≤ n) facts

    all_behind : (n : ℕ) (facts : List Fact) → AllByRecursion (λ f. fact_cmp (told n) f ≡ Less) facts → AllFrom (n + 1) facts
    all_behind n [] all = tt
    all_behind n (f ∷ facts) all = (λ m e. let less = in_front file n m key (subst (λ x. fact_cmp (told n) x ≡ Less) e all.0) in omega (arith, less), all_behind n facts all.1)

    rising : (from : ℕ) (facts : List Fact) → AllFrom from facts → IsStrictlySortedBy fact_cmp facts → Rising from (offsets_among file key facts)
    unfolding IsStrictlySortedBy
    rising from [] all sorted = tt
    rising from (f ∷ facts) all sorted = by (offset_if file (place_of key f)) refl (rising from facts all.1 sorted.1) (λ n less. rising (n + 1) facts (all_behind n facts less) sorted.1)
      where
        by : (ns : List ℕ) → offset_if file (place_of key f) ≡ ns → Rising from (offsets_among file key facts)
            → ((n : ℕ) → AllByRecursion (λ g. fact_cmp (told n) g ≡ Less) facts → Rising (n + 1) (offsets_among file key facts)) → Rising from (ns ++ offsets_among file key facts)
        by [] e same behind = same
        by (n ∷ ns) e same behind =
            let one : f ≡ told n = placed f (place file n) (filed (place_of key f) n (ap (among n) e ∙ first_among n ns)) in
            let own : n ∷ [] ≡ n ∷ ns = sym (own_offset n) ∙ ap (λ x. offset_if file (place_of key x)) (sym one) ∙ e in
            let none : [] ≡ ns = cc in
            (all.0 n one, subst (λ ms. Rising (n + 1) (ms ++ offsets_among file key facts)) none (behind n (subst (λ x. AllByRecursion (λ g. fact_cmp x g ≡ Less) facts) one sorted.0)))

    all_from : (facts : List Fact) → AllFrom 0 facts
    all_from [] = tt
    all_from (f ∷ facts) = (λ n e. omega arith, all_from facts)

    -- the offsets of sorted facts are the places of their set
    pub are_places : (facts : Facts) (list : List Fact) → from_list list ≡ facts → IsStrictlySortedBy fact_cmp list → ArePlaces facts file key (offsets_among file key list)
    are_places facts list is sorted = record {
      rise = rising 0 list (all_from list) sorted;
      each = λ n. ap (λ (s : Facts). contains s (told n)) (sym is) ∙ contains-from_list law.total list (told n) ∙ members n list;
    }
