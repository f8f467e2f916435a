-- Finite sets by their members, and what a loop makes of one.
use Rattle.std.proofs.Common.{◌≡◌, Bool, true, false, not, ◌&&◌, ◌||◌, List, [], ◌∷◌, refl, sym, ap, ◌∙◌}
use Rattle.std.specs.Prelude.{cond, if◌then◌else◌, Result, Ok, Err, OnErr}
use Rattle.std.specs.List.{list_any}
use Rattle.std.specs.Ordering.{eq_by_cmp}
use Rattle.std.specs.Cmp.{IsTotalOrder, Equal-is, eq_by_cmp_equiv}
use Rattle.std.specs.BTreeSet as tree
use Rattle.std.specs.BTreeSet.{BTreeSet}
use Rattle.std.specs.FinSet.{FinSet, IsAntisymmetric, empty, contains, insert, remove, union, difference, from_list, contains-empty, contains-insert, contains-remove, contains-union, contains-difference, contains-from_list, contains_tied, same_set}
use Rattle.std.specs.declared.cmp.Ordering.{Ordering}

cond_true : (a b c : Bool) → a ≡ b → cond a true c ≡ (b || c)
cond_true true true c e = refl
cond_true false false c e = refl
cond_true true false c e = cc
cond_true false true c e = cc

cond_false : (a b c : Bool) → a ≡ b → cond a false c ≡ (not b && c)
cond_false true true c e = refl
cond_false false false c e = refl
cond_false true false c e = cc
cond_false false true c e = cc

or_none : (a b : Bool) → a ≡ (a || (false && b))
or_none true b = refl
or_none false b = refl

fresh_known : (e c n any : Bool) → e ≡ false → (c || (any && not n)) ≡ (c || ((e || any) && not n))
fresh_known true c n any h = cc
fresh_known false c n any h = refl

-- the first of the list is known, and so is an equal one
known_first : (e c n any : Bool) → (e ≡ true → n ≡ true) → (c || (any && not n)) ≡ (c || ((e || any) && not n))
known_first false c n any h = refl
known_first true true n any h = refl
known_first true false true true h = refl
known_first true false true false h = refl
known_first true false false any h = let k = h refl in cc

-- the first of the list is not known, and no equal one is
new_first : (e c n any : Bool) → (e ≡ true → n ≡ false) → ((e || c) || (any && not n)) ≡ (c || ((e || any) && not n))
new_first false c n any h = refl
new_first true true n any h = refl
new_first true false false any h = refl
new_first true false true any h = let k = h refl in cc

or_false : (a : Bool) → a ≡ (a || false)
or_false true = refl
or_false false = refl

or_turn : (a b c : Bool) → ((a || b) || c) ≡ (b || (a || c))
or_turn true true c = refl
or_turn true false c = refl
or_turn false b c = refl

and_true : (a : Bool) → a ≡ (a && not false)
and_true true = refl
and_true false = refl

and_turn : (a b c : Bool) → ((not a && b) && not c) ≡ (b && not (a || c))
and_turn true true c = refl
and_turn true false c = refl
and_turn false b c = refl

within_more : (e c : Bool) → c ≡ true → (e || c) ≡ true
within_more true c h = refl
within_more false c h = h

kept_by : (new old : Bool) → (old ≡ true → new ≡ true) → (new || old) ≡ new
kept_by true old h = refl
kept_by false true h = let k = h refl in cc
kept_by false false h = refl

partly_by : (new old left all : Bool) → (new || left) ≡ (old || all) → (old ≡ true → new ≡ true) → (new || all) ≡ (old || all)
partly_by true true left all e h = refl
partly_by true false left true e h = refl
partly_by true false left false e h = e
partly_by false true left all e h = let k = h refl in cc
partly_by false false left all e h = refl

all_by : (old other : Bool) → (old || (other && not old)) ≡ (old || other)
all_by true other = refl
all_by false true = refl
all_by false false = refl

back_by : (mid old other : Bool) → (mid || (other && not old)) ≡ (old || (other && not old)) → (mid || old) ≡ mid → (mid && not (other && not old)) ≡ old
back_by true true true e k = refl
back_by true true false e k = refl
back_by true false true e k = refl
back_by true false false e k = cc
back_by false true other e k = cc
back_by false false other e k = refl

pub err_holds : {A E : Type 0} (r : Result A E) (P : Type 0) → P → OnErr r P
err_holds (Ok a) P p = tt
err_holds (Err e) P p = p

module _ {K : Type 0} {R : K → K → Ordering} where
  abbrev pub all_of : List K → FinSet R
  all_of facts = from_list facts

  abbrev pub seen : BTreeSet K → FinSet R
  seen b = from_list b.keys

  -- those of a list that are not known are added
  abbrev pub fresh : FinSet R → FinSet R → List K → FinSet R
  fresh known m [] = m
  fresh known m (k ∷ ks) = fresh known (if contains known k then m else insert m k) ks

  abbrev pub added : FinSet R → List K → FinSet R
  added s [] = s
  added s (k ∷ ks) = added (insert s k) ks

  abbrev pub removed : FinSet R → List K → FinSet R
  removed s [] = s
  removed s (k ∷ ks) = removed (remove s k) ks

  abbrev pub IsWithin : FinSet R → FinSet R → Type 0
  IsWithin old new = (q : K) → contains old q ≡ true → contains new q ≡ true

module _ {K : Type 0} {R : K → K → Ordering} (total : IsTotalOrder R) (ties : IsAntisymmetric R) where
  -- two sets with the same members are one
  same : (s t : FinSet R) → ((q : K) → contains s q ≡ contains t q) → s ≡ t
  same = same_set total ties

  pub contains_seen : (b : BTreeSet K) (q : K) → tree.contains R b q ≡ contains (seen {R = R} b) q
  contains_seen b q = sym (contains-from_list total b.keys q)

  flip : (k q : K) → eq_by_cmp R k q ≡ eq_by_cmp R q k
  flip = (eq_by_cmp_equiv total).symm

  pub seen_insert : (a b : BTreeSet K) (k : K) → tree.Updates R a b k true → seen {R = R} b ≡ insert (seen {R = R} a) k
  seen_insert a b k u = same (seen {R = R} b) (insert (seen {R = R} a) k) (λ q.
      sym (contains_seen b q) ∙ u.0 q ∙ cond_true (eq_by_cmp R k q) (eq_by_cmp R q k) (tree.contains R a q) (flip k q)
      ∙ ap (λ c. eq_by_cmp R q k || c) (contains_seen a q) ∙ sym (contains-insert total (seen {R = R} a) k q))

  pub seen_remove : (a b : BTreeSet K) (k : K) → tree.Updates R a b k false → seen {R = R} b ≡ remove (seen {R = R} a) k
  seen_remove a b k u = same (seen {R = R} b) (remove (seen {R = R} a) k) (λ q.
      sym (contains_seen b q) ∙ u.0 q ∙ cond_false (eq_by_cmp R k q) (eq_by_cmp R q k) (tree.contains R a q) (flip k q)
      ∙ ap (λ c. not (eq_by_cmp R q k) && c) (contains_seen a q) ∙ sym (contains-remove total (seen {R = R} a) k q))

  tied : (known : FinSet R) (q k : K) → eq_by_cmp R q k ≡ true → contains known k ≡ contains known q
  tied known q k e = contains_tied total known q k ((Equal-is (R q k)).0 e)

  fresh_by : (known m : FinSet R) (k : K) (any : Bool) (q : K) → (b : Bool) → contains known k ≡ b
      → (contains (if b then m else insert m k) q || (any && not (contains known q))) ≡ (contains m q || ((eq_by_cmp R q k || any) && not (contains known q)))
  fresh_by known m k any q true is = known_first (eq_by_cmp R q k) (contains m q) (contains known q) any (λ e. sym (tied known q k e) ∙ is)
  fresh_by known m k any q false is =
      ap (λ c. c || (any && not (contains known q))) (contains-insert total m k q)
      ∙ new_first (eq_by_cmp R q k) (contains m q) (contains known q) any (λ e. sym (tied known q k e) ∙ is)

  contains_fresh : (known m : FinSet R) (ks : List K) (q : K) → contains (fresh known m ks) q ≡ (contains m q || (list_any (eq_by_cmp R q) ks && not (contains known q)))
  contains_fresh known m [] q = or_none (contains m q) (not (contains known q))
  contains_fresh known m (k ∷ ks) q =
      contains_fresh known (if contains known k then m else insert m k) ks q
      ∙ fresh_by known m k (list_any (eq_by_cmp R q) ks) q (contains known k) refl

  pub fresh_is : (known other : FinSet R) (all : List K) → from_list all ≡ other → fresh known empty all ≡ difference other known
  fresh_is known other all e = same (fresh known empty all) (difference other known) (λ q.
      contains_fresh known empty all q
      ∙ ap (λ c. c || (list_any (eq_by_cmp R q) all && not (contains known q))) (contains-empty R q)
      ∙ ap (λ c. c && not (contains known q)) (sym (contains-from_list total all q) ∙ ap (λ (s : FinSet R). contains s q) e)
      ∙ sym (contains-difference total other known q))

  pub contains_added : (s : FinSet R) (ks : List K) (q : K) → contains (added s ks) q ≡ (contains s q || list_any (eq_by_cmp R q) ks)
  contains_added s [] q = or_false (contains s q)
  contains_added s (k ∷ ks) q =
      contains_added (insert s k) ks q
      ∙ ap (λ c. c || list_any (eq_by_cmp R q) ks) (contains-insert total s k q)
      ∙ or_turn (eq_by_cmp R q k) (contains s q) (list_any (eq_by_cmp R q) ks)

  pub added_is : (s other : FinSet R) (all : List K) → from_list all ≡ other → added s all ≡ union s other
  added_is s other all e = same (added s all) (union s other) (λ q.
      contains_added s all q
      ∙ ap (λ c. contains s q || c) (sym (contains-from_list total all q) ∙ ap (λ (z : FinSet R). contains z q) e)
      ∙ sym (contains-union total s other q))

  contains_removed : (s : FinSet R) (ks : List K) (q : K) → contains (removed s ks) q ≡ (contains s q && not (list_any (eq_by_cmp R q) ks))
  contains_removed s [] q = and_true (contains s q)
  contains_removed s (k ∷ ks) q =
      contains_removed (remove s k) ks q
      ∙ ap (λ c. c && not (list_any (eq_by_cmp R q) ks)) (contains-remove total s k q)
      ∙ and_turn (eq_by_cmp R q k) (contains s q) (list_any (eq_by_cmp R q) ks)

  pub removed_is : (s other : FinSet R) (all : List K) → from_list all ≡ other → removed s all ≡ difference s other
  removed_is s other all e = same (removed s all) (difference s other) (λ q.
      contains_removed s all q
      ∙ ap (λ c. contains s q && not c) (sym (contains-from_list total all q) ∙ ap (λ (z : FinSet R). contains z q) e)
      ∙ sym (contains-difference total s other q))

  pub within_insert : (old s : FinSet R) (k : K) → IsWithin old s → IsWithin old (insert s k)
  within_insert old s k h q has = contains-insert total s k q ∙ within_more (eq_by_cmp R q k) (contains s q) (h q has)

  pub kept : (old new : FinSet R) → IsWithin old new → union new old ≡ new
  kept old new h = same (union new old) new (λ q. contains-union total new old q ∙ kept_by (contains new q) (contains old q) (h q))

  -- some facts of the list are still to be added
  pub partly : (old new other : FinSet R) (left all : List K) → from_list all ≡ other → added new left ≡ added old all → IsWithin old new → union new other ≡ union old other
  partly old new other left all is e h = same (union new other) (union old other) (λ q.
      let any = sym (contains-from_list total all q) ∙ ap (λ (z : FinSet R). contains z q) is in
      let both = sym (contains_added new left q) ∙ ap (λ (z : FinSet R). contains z q) e ∙ contains_added old all q ∙ ap (λ c. contains old q || c) any in
      contains-union total new other q
      ∙ partly_by (contains new q) (contains old q) (list_any (eq_by_cmp R q) left) (contains other q) both (h q)
      ∙ sym (contains-union total old other q))

  pub all_added : (old other missing new : FinSet R) → missing ≡ difference other old → new ≡ union old missing → new ≡ union old other
  all_added old other missing new m n = n ∙ ap (λ (z : FinSet R). union old z) m ∙ same (union old (difference other old)) (union old other) (λ q.
      contains-union total old (difference other old) q
      ∙ ap (λ c. contains old q || c) (contains-difference total other old q)
      ∙ all_by (contains old q) (contains other q)
      ∙ sym (contains-union total old other q))

  pub taken_back : (old other missing mid new : FinSet R) → missing ≡ difference other old → union mid missing ≡ union old missing → union mid old ≡ mid → new ≡ difference mid missing → new ≡ old
  taken_back old other missing mid new m e k n = n ∙ ap (λ (z : FinSet R). difference mid z) m ∙ same (difference mid (difference other old)) old (λ q.
      let miss = contains-difference total other old q in
      let both : (contains mid q || (contains other q && not (contains old q))) ≡ (contains old q || (contains other q && not (contains old q))) =
      ap (λ c. contains mid q || c) (sym (ap (λ (z : FinSet R). contains z q) m ∙ miss)) ∙ sym (contains-union total mid missing q)
      ∙ ap (λ (z : FinSet R). contains z q) e
      ∙ contains-union total old missing q ∙ ap (λ c. contains old q || c) (ap (λ (z : FinSet R). contains z q) m ∙ miss) in
      let stays = sym (contains-union total mid old q) ∙ ap (λ (z : FinSet R). contains z q) k in
      contains-difference total mid (difference other old) q
      ∙ ap (λ c. contains mid q && not c) miss
      ∙ back_by (contains mid q) (contains old q) (contains other q) both stays)
