-- Keys that share declaring places, by what is reached among declarations.
use Rattle.std.proofs.Common.{◌≡◌, ℕ, zero, suc, ◌+◌, ◌<◌, ◌≤◌, ◌⊎◌, Bool, true, false, ◌||◌, List, [], ◌∷◌, ◌++◌, length, map, get_or, slice_get, Option, Some, None, refl, sym, ap, ◌∙◌, subst, inl, inr, arith}
use Rattle.std.specs.Prelude.{◌↔◌, cond}
use Rattle.std.specs.Option.{option_map}
use Rattle.std.specs.List.{Contains, list_any}
use Rattle.std.specs.Ordering.{eq_by_cmp, is_eq}
use Rattle.std.specs.Cmp.{Equal-is, tied_itself, eq_by_cmp_equiv}
use Rattle.std.proofs.lemmas.Map.Views.{list_any-from_Contains}
use Rattle.std.specs.declared.cmp.Ordering.{Ordering}
use Rattle.std.specs.declared.cmp.Ordering.TheVariants.{Equal}
use Rattle.std.proofs.lemmas.Bool.{cases_eq, cases_lt}
use Rattle.std.proofs.lemmas.List.{get_or_past, length-map}
use Rattle.std.proofs.lemmas.List.Elements.{Contains-get_or, Contains-push, Contains-push_cases, Contains-append_left}
use Rattle.std.proofs.lemmas.Option.{slice_get_within}
use Rattle.cr_base.specs.declared.token.Place.{Place}
use Rattle.cr_base.specs.declared.key.Key.{Key}
use Rattle.cr_facts.specs.FactOrder.{Facts, FactsAreOrdered}
use Rattle.cr_facts.specs.declared.fact.Fact.TheVariants.{Declares, FileScope, BodyParam}
use Rattle.cr_class.specs.RenameClass.{Has, key_cmp, place_cmp}
use Rattle.cr_class.specs.Graph.{linked_with, AreLinked, AreBelow, Leads, Reaches, begins, goes}
use Rattle.cr_class.specs.Declarations.{AreDeclarations}
use Rattle.cr_class.specs.Sharing.{Shares, given, shared, LinksEqual}
use Rattle.cr_class.proofs.Candidates.{key_total}

pub slice_get_map : {X Y : Type 0} (f : X → Y) (xs : List X) (i : ℕ) → slice_get (map f xs) i ≡ option_map f (slice_get xs i)
slice_get_map f [] i = refl
slice_get_map f (x ∷ xs) zero = refl
slice_get_map f (x ∷ xs) (suc i) = slice_get_map f xs i

-- an item under a view
unmapped : {X Y : Type 0} (f : X → Y) (xs : List X) (i : ℕ) (y : Y) → slice_get (map f xs) i ≡ Some y → (x : X) × (slice_get xs i ≡ Some x) × (f x ≡ y)
unmapped {X} f xs i y e = by (slice_get xs i) refl (sym (slice_get_map f xs i) ∙ e)
  where
    by : (o : Option X) → slice_get xs i ≡ o → option_map f o ≡ Some y → (x : X) × (slice_get xs i ≡ Some x) × (f x ≡ y)
    by None h g = let bad : ⊥ = cc in absurd bad
    by (Some x) h g = let same : f x ≡ y = cc in (x, h, same)

pub map_same : {X : Type 0} (xs : List X) → map (λ x. x) xs ≡ xs
map_same [] = refl
map_same (x ∷ xs) = ap (λ l. x ∷ l) (map_same xs)

pub item_at : {X : Type 0} (xs : List X) (i : ℕ) → i < length xs → (x : X) × (slice_get xs i ≡ Some x)
item_at [] i lt = let bad : ⊥ = omega (arith, lt) in absurd bad
item_at (x ∷ xs) zero lt = (x, refl)
item_at (x ∷ xs) (suc i) lt = item_at xs i (omega (arith, lt))

-- each label has a leader with the same label, and equal labels have one leader
pub record IsLeading {X : Type 0} (labels : List X) (leaders : List ℕ) : Type 0 where
  pub size : length leaders ≡ length labels
  pub below : AreBelow (length labels) leaders
  pub same : (i : ℕ) (x : X) → slice_get labels i ≡ Some x → slice_get labels (get_or leaders i 0) ≡ Some x
  pub one : (i j : ℕ) (x : X) → slice_get labels i ≡ Some x → slice_get labels j ≡ Some x → get_or leaders i 0 ≡ get_or leaders j 0

pub leading :
    {V X : Type 0} (view : V → X) (R : X → X → Ordering)
    → ((x y : X) → R x y ≡ Equal → x ≡ y)
    → ((x : X) → R x x ≡ Equal)
    → (items : List V) (leaders : List ℕ)
    → length leaders ≡ length items
    → AreBelow (length items) leaders
    → ((i : ℕ) (x : V) → slice_get items i ≡ Some x → (y : V) × (slice_get items (get_or leaders i 0) ≡ Some y) × (R (view x) (view y) ≡ Equal))
    → ((i j : ℕ) (x y : V) → slice_get items i ≡ Some x → slice_get items j ≡ Some y → R (view x) (view y) ≡ Equal → get_or leaders i 0 ≡ get_or leaders j 0)
    → IsLeading (map view items) leaders
leading view R ties own items leaders size below equal one = record {
  size = size ∙ sym (length-map items view);
  below = λ n has. omega (arith, below n has, length-map items view);
  same = λ i x e. (
      let v = unmapped view items i x e in
      let w = equal i v.0 v.1 in
      slice_get_map view items (get_or leaders i 0) ∙ ap (option_map view) w.1 ∙ ap Some (sym (ties (view v.0) (view w.0) w.2) ∙ v.2)
      );
  one = λ i j x e f. (
      let v = unmapped view items i x e in
      let w = unmapped view items j x f in
      one i j v.0 w.0 v.1 w.1 (ap (λ z. R z (view w.0)) (v.2 ∙ sym w.2) ∙ own (view w.0))
      );
}

-- links of declarations, first by key and then by place
module _ (keys : List Key) (places : List Place) (beside : length keys ≡ length places) (by_key by_place : List ℕ) (leads_key : IsLeading keys by_key) (leads_place : IsLeading places by_place)
    (zero one two : List (List ℕ)) (none : (n : ℕ) → linked_with zero n ≡ []) (first : AreLinked zero one (length by_key) by_key) (second : AreLinked one two (length by_place) by_place) (count : length two ≡ length keys) where
  no_link : {A : Type 0} (a b : ℕ) → Contains (linked_with zero a) b → A
  no_link a b has = let h = subst (λ l. Contains l b) (none a) has in let bad : ⊥ = omega (arith, h.1) in absurd bad

  -- leaders of one label
  leads_same : {X : Type 0} (labels : List X) (leaders : List ℕ) → IsLeading labels leaders → (a b : ℕ) (x y : X) → slice_get labels a ≡ Some x → slice_get labels b ≡ Some y → Leads (length leaders) leaders a b → x ≡ y
  leads_same labels leaders is a b x y e f (inl h) = let same : Some x ≡ Some y = sym (is.same a x e) ∙ ap (slice_get labels) h.1 ∙ f in cc
  leads_same labels leaders is a b x y e f (inr h) = let same : Some y ≡ Some x = sym (is.same b y f) ∙ ap (slice_get labels) h.1 ∙ e in cc

  leads_within : {X : Type 0} (labels : List X) (leaders : List ℕ) → IsLeading labels leaders → (a b : ℕ) → Leads (length leaders) leaders a b → b < length labels
  leads_within labels leaders is a b (inl h) = subst (λ n. n < length labels) h.1 (is.below (get_or leaders a 0) (Contains-get_or leaders a 0 h.0))
  leads_within labels leaders is a b (inr h) = omega (arith, h.0, is.size)

  cases : (a b : ℕ) → Contains (linked_with two a) b → Leads (length by_key) by_key a b ⊎ Leads (length by_place) by_place a b
  cases a b has = by_second (second.only a b has)
    where
      by_first : Contains (linked_with zero a) b ⊎ Leads (length by_key) by_key a b → Leads (length by_key) by_key a b ⊎ Leads (length by_place) by_place a b
      by_first (inl h) = no_link a b h
      by_first (inr h) = inl h

      by_second : Contains (linked_with one a) b ⊎ Leads (length by_place) by_place a b → Leads (length by_key) by_key a b ⊎ Leads (length by_place) by_place a b
      by_second (inl h) = by_first (first.only a b h)
      by_second (inr h) = inr h

  pub links_equal : LinksEqual keys places two
  links_equal = record {
    graph = λ n m has. within n m (cases n m has);
    only = λ a b k l p q ka kb pa pb has. equal a b k l p q ka kb pa pb (cases a b has);
    same_key = λ a b k e f. (
      get_or by_key a 0,
      second.old a (get_or by_key a 0) (first.new a (get_or by_key a 0) (inl (omega (arith, slice_get_within keys a k e, leads_key.size), refl))),
      second.old (get_or by_key a 0) b (first.new (get_or by_key a 0) b (inr (omega (arith, slice_get_within keys b k f, leads_key.size), leads_key.one b a k f e))),
    );
    same_place = λ a b p e f. (
      get_or by_place a 0,
      second.new a (get_or by_place a 0) (inl (omega (arith, slice_get_within places a p e, leads_place.size), refl)),
      second.new (get_or by_place a 0) b (inr (omega (arith, slice_get_within places b p f, leads_place.size), leads_place.one b a p f e)),
    );
  }
    where
      within : (n m : ℕ) → Leads (length by_key) by_key n m ⊎ Leads (length by_place) by_place n m → m < length two
      within n m (inl h) = omega (arith, leads_within keys by_key leads_key n m h, count)
      within n m (inr h) = omega (arith, leads_within places by_place leads_place n m h, count, beside)

      equal : (a b : ℕ) (k l : Key) (p q : Place) → slice_get keys a ≡ Some k → slice_get keys b ≡ Some l → slice_get places a ≡ Some p → slice_get places b ≡ Some q
          → Leads (length by_key) by_key a b ⊎ Leads (length by_place) by_place a b → (k ≡ l) ⊎ (p ≡ q)
      equal a b k l p q ka kb pa pb (inl h) = inl (leads_same keys by_key leads_key a b k l ka kb h)
      equal a b k l p q ka kb pa pb (inr h) = inr (leads_same places by_place leads_place a b p q pa pb h)

module _ (law : FactsAreOrdered) where
  pub key_ties : (k l : Key) → key_cmp k l ≡ Equal → k ≡ l
  key_ties k l e = let one : FileScope k ≡ FileScope l = law.ties (FileScope k) (FileScope l) e in cc

  pub key_own : (k : Key) → key_cmp k k ≡ Equal
  key_own k = tied_itself (key_total law) k

  pub place_ties : (p q : Place) → place_cmp p q ≡ Equal → p ≡ q
  place_ties p q e = let one : BodyParam p ≡ BodyParam q = law.ties (BodyParam p) (BodyParam q) e in cc

  pub place_own : (p : Place) → place_cmp p p ≡ Equal
  place_own p = tied_itself law.total (BodyParam p)

  -- membership in a set of keys
  pub any_key : (k : Key) (ks : List Key) → list_any (eq_by_cmp key_cmp k) ks ≡ true → Contains ks k
  any_key k [] e = let bad : ⊥ = cc in absurd bad
  any_key k (l ∷ ks) e = by (eq_by_cmp key_cmp k l) refl e (any_key k ks)
    where
      by : (b : Bool) → eq_by_cmp key_cmp k l ≡ b → (b || list_any (eq_by_cmp key_cmp k) ks) ≡ true → (list_any (eq_by_cmp key_cmp k) ks ≡ true → Contains ks k) → Contains (l ∷ ks) k
      by true h g rest = (0, omega arith, sym (key_ties k l ((Equal-is (key_cmp k l)).0 h)))
      by false h g rest = let r = rest g in (suc r.0, omega (arith, r.1), r.2)

  pub key_any : (k : Key) (ks : List Key) → Contains ks k → list_any (eq_by_cmp key_cmp k) ks ≡ true
  key_any k ks has = list_any-from_Contains (eq_by_cmp_equiv (key_total law)) k ks has

-- the declarations of known keys among the first ones
pub record AreNodes (keys : List Key) (known : Key → Bool) (count : ℕ) (nodes : List ℕ) : Type 0 where
  pub only : (j : ℕ) → Contains nodes j → (k : Key) × (slice_get keys j ≡ Some k) × (known k ≡ true)
  pub all : (j : ℕ) (k : Key) → j < count → slice_get keys j ≡ Some k → known k ≡ true → Contains nodes j

module _ (keys : List Key) (known : Key → Bool) (i : ℕ) (key : Key) (at : slice_get keys i ≡ Some key) (nodes : List ℕ) (are : AreNodes keys known i nodes) where
  pub node_more : known key ≡ true → AreNodes keys known (i + 1) (nodes ++ i ∷ [])
  node_more is = record {
    only = λ j has. only_by j (Contains-push_cases nodes i j has);
    all = λ j k lt e h. all_by j k lt e h (cases_eq j i);
  }
    where
      only_by : (j : ℕ) → Contains nodes j ⊎ (i ≡ j) → (k : Key) × (slice_get keys j ≡ Some k) × (known k ≡ true)
      only_by j (inl h) = are.only j h
      only_by j (inr e) = (key, subst (λ n. slice_get keys n ≡ Some key) e at, is)

      all_by : (j : ℕ) (k : Key) → j < i + 1 → slice_get keys j ≡ Some k → known k ≡ true → (j ≡ i) ⊎ (j ≡ i → ⊥) → Contains (nodes ++ i ∷ []) j
      all_by j k lt e h (inl same) = subst (Contains (nodes ++ i ∷ [])) (sym same) (Contains-push nodes i)
      all_by j k lt e h (inr ne) = Contains-append_left nodes (i ∷ []) j (are.all j k (omega (arith, lt, ne)) e h)

  pub node_none : known key ≡ false → AreNodes keys known (i + 1) nodes
  node_none is = record {
    only = are.only;
    all = λ j k lt e h. all_by j k lt e h (cases_eq j i);
  }
    where
      all_by : (j : ℕ) (k : Key) → j < i + 1 → slice_get keys j ≡ Some k → known k ≡ true → (j ≡ i) ⊎ (j ≡ i → ⊥) → Contains nodes j
      all_by j k lt e h (inl same) =
          let one : Some key ≡ Some k = sym at ∙ ap (slice_get keys) (sym same) ∙ e in
          let own : key ≡ k = cc in
          let bad : true ≡ false = sym h ∙ ap known (sym own) ∙ is in
          let no_way : ⊥ = cc in
          absurd no_way
      all_by j k lt e h (inr ne) = are.all j k (omega (arith, lt, ne)) e h

-- the known keys with those of the first declarations that are seen
abbrev pub IsAdded : List Key → List Bool → ℕ → (before now : Key → Bool) → Type 0
IsAdded keys seen count before now = (k : Key) → (now k ≡ true) ↔ ((before k ≡ true) ⊎ ((j : ℕ) × (j < count) × (slice_get keys j ≡ Some k) × (get_or seen j false ≡ true)))

module _ (keys : List Key) (seen : List Bool) (i : ℕ) (key : Key) (at : slice_get keys i ≡ Some key) (before was : Key → Bool) (added : IsAdded keys seen i before was) where
  pub added_none : get_or seen i false ≡ false → IsAdded keys seen (i + 1) before was
  added_none is k = (
    λ h. to ((added k).0 h),
    λ h. (added k).1 (from h),
  )
    where
      to : (before k ≡ true) ⊎ ((j : ℕ) × (j < i) × (slice_get keys j ≡ Some k) × (get_or seen j false ≡ true)) → (before k ≡ true) ⊎ ((j : ℕ) × (j < i + 1) × (slice_get keys j ≡ Some k) × (get_or seen j false ≡ true))
      to (inl h) = inl h
      to (inr h) = inr (h.0, omega (arith, h.1), h.2, h.3)

      from : (before k ≡ true) ⊎ ((j : ℕ) × (j < i + 1) × (slice_get keys j ≡ Some k) × (get_or seen j false ≡ true)) → (before k ≡ true) ⊎ ((j : ℕ) × (j < i) × (slice_get keys j ≡ Some k) × (get_or seen j false ≡ true))
      from (inl h) = inl h
      from (inr h) = by (cases_eq h.0 i)
        where
          by : (h.0 ≡ i) ⊎ (h.0 ≡ i → ⊥) → (before k ≡ true) ⊎ ((j : ℕ) × (j < i) × (slice_get keys j ≡ Some k) × (get_or seen j false ≡ true))
          by (inl e) = let bad : true ≡ false = sym h.3 ∙ ap (λ n. get_or seen n false) e ∙ is in let no_way : ⊥ = cc in absurd no_way
          by (inr ne) = inr (h.0, omega (arith, h.1, ne), h.2, h.3)

  pub added_more : FactsAreOrdered → (now : Key → Bool) → ((q : Key) → now q ≡ cond (is_eq (key_cmp key q)) true (was q)) → get_or seen i false ≡ true → IsAdded keys seen (i + 1) before now
  added_more law now updates is k = (
    λ h. to (is_eq (key_cmp key k)) refl (sym (updates k) ∙ h),
    λ h. from h,
  )
    where
      wider : (before k ≡ true) ⊎ ((j : ℕ) × (j < i) × (slice_get keys j ≡ Some k) × (get_or seen j false ≡ true)) → (before k ≡ true) ⊎ ((j : ℕ) × (j < i + 1) × (slice_get keys j ≡ Some k) × (get_or seen j false ≡ true))
      wider (inl h) = inl h
      wider (inr h) = inr (h.0, omega (arith, h.1), h.2, h.3)

      to : (b : Bool) → is_eq (key_cmp key k) ≡ b → cond b true (was k) ≡ true → (before k ≡ true) ⊎ ((j : ℕ) × (j < i + 1) × (slice_get keys j ≡ Some k) × (get_or seen j false ≡ true))
      to true e h = let same = key_ties law key k ((Equal-is (key_cmp key k)).0 e) in inr (i, omega arith, at ∙ ap Some same, is)
      to false e h = wider ((added k).0 h)

      old : was k ≡ true → now k ≡ true
      old h = updates k ∙ ap (λ b. cond (is_eq (key_cmp key k)) true b) h ∙ either (is_eq (key_cmp key k))
        where
          either : (b : Bool) → cond b true true ≡ true
          either true = refl
          either false = refl

      from : (before k ≡ true) ⊎ ((j : ℕ) × (j < i + 1) × (slice_get keys j ≡ Some k) × (get_or seen j false ≡ true)) → now k ≡ true
      from (inl h) = old ((added k).1 (inl h))
      from (inr h) = by (cases_eq h.0 i)
        where
          by : (h.0 ≡ i) ⊎ (h.0 ≡ i → ⊥) → now k ≡ true
          by (inl e) =
              let one : Some key ≡ Some k = sym at ∙ ap (slice_get keys) (sym e) ∙ h.2 in
              let own : key ≡ k = cc in
              updates k ∙ ap (λ r. cond (is_eq r) true (was k)) (subst (λ l. key_cmp key l ≡ Equal) own (key_own law key))
          by (inr ne) = old ((added k).1 (inr (h.0, omega (arith, h.1, ne), h.2, h.3)))

-- what is reached from the declarations of the targets
module _ (facts : Facts) (targets keys : List Key) (places : List Place) (are : AreDeclarations facts keys places) (links : List (List ℕ)) (size : length links ≡ length keys) (linked : LinksEqual keys places links)
    (start : List ℕ) (starts : (i : ℕ) → Contains start i ↔ ((k : Key) × (slice_get keys i ≡ Some k) × Contains targets k)) where
  source_within : (a b : ℕ) → Contains (linked_with links a) b → a < length links
  source_within a b has = by (cases_lt a (length links))
    where
      by : (a < length links) ⊎ (length links ≤ a) → a < length links
      by (inl h) = h
      by (inr h) = let none = subst (λ l. Contains l b) (get_or_past links a [] h) has in let bad : ⊥ = omega (arith, none.1) in absurd bad

  pub shares_sound : (n : ℕ) (l : Key) → Reaches links start n → slice_get keys n ≡ Some l → Shares facts targets l
  shares_sound n l (begins has) e =
      let h = (starts n).0 has in
      let one : Some h.0 ≡ Some l = sym h.1 ∙ e in
      let own : h.0 ≡ l = cc in
      given (subst (Contains targets) own h.2)
  shares_sound n l (goes {n = m} way has) e =
      let lt = source_within m n has in
      let k = item_at keys m (omega (arith, lt, size)) in
      let p = item_at places m (omega (arith, lt, size, are.count)) in
      let q = item_at places n (omega (arith, slice_get_within keys n l e, are.count)) in
      step k.0 p.0 q.0 (shares_sound m k.0 way k.1) (are.only m k.0 p.0 k.1 p.1) (are.only n l q.0 e q.1) (linked.only m n k.0 l p.0 q.0 k.1 e p.1 q.1 has)
    where
      step : (k : Key) (p q : Place) → Shares facts targets k → Has facts (Declares k p) → Has facts (Declares l q) → (k ≡ l) ⊎ (p ≡ q) → Shares facts targets l
      step k p q share here there (inl same) = subst (Shares facts targets) same share
      step k p q share here there (inr same) = shared p share here (subst (λ r. Has facts (Declares l r)) (sym same) there)

  two_steps : (a b : ℕ) → Reaches links start a → (m : ℕ) × Contains (linked_with links a) m × Contains (linked_with links m) b → Reaches links start b
  two_steps a b way h = goes (goes way h.1) h.2

  abbrev pub IsReached : Key → Type 0
  IsReached k = Contains targets k ⊎ ((i : ℕ) × (slice_get keys i ≡ Some k) × Reaches links start i)

  pub shares_complete : (k : Key) → Shares facts targets k → IsReached k
  shares_complete k (given has) = inl has
  shares_complete l (shared {k = k} p share here there) =
      let i = are.all k p here in
      let j = are.all l p there in
      inr (j.0, j.1, two_steps i.0 j.0 (at i.0 i.1 (shares_complete k share)) (linked.same_place i.0 j.0 p i.2 j.2))
    where
      at : (i : ℕ) → slice_get keys i ≡ Some k → IsReached k → Reaches links start i
      at i e (inl has) = begins ((starts i).1 (k, e, has))
      at i e (inr h) = two_steps h.0 i h.2 (linked.same_key h.0 i k h.1 e)
