-- What a target means, from the facts of a list.
use Rattle.std.proofs.Common.{◌≡◌, ℕ, ◌⊎◌, Bool, true, false, ◌&&◌, ◌||◌, List, [], ◌∷◌, Some, None, refl, sym, ap, ◌∙◌, subst, inl, inr, arith}
use Rattle.std.specs.Prelude.{if◌then◌else◌, ◌≢◌, ◌↔◌}
use Rattle.std.specs.List.{Contains, filter_map}
use Rattle.std.specs.FinSet.{contains, from_list}
use Rattle.std.specs.declared.cmp.Ordering.{Ordering}
use Rattle.std.specs.declared.cmp.Ordering.TheVariants.{Less, Equal, Greater}
use Rattle.std.specs.Ordering.{is_eq, ordering_reverse}
use Rattle.std.specs.Cmp.{IsTotalOrder, nat_cmp_total, on_total, alike_right, Equal-is}
use Rattle.std.specs.Cmp.Lexicographic.{nat_list_cmp_total}
use Rattle.std.proofs.lemmas.Cmp.{then_total}
use Rattle.cr_base.specs.declared.token.Place.{Place}
use Rattle.cr_base.specs.declared.key.Key.{Key}
use Rattle.cr_base.specs.declared.key.Key.TheVariants.{Ext}
use Rattle.cr_base.specs.declared.key.Kind.{Kind}
use Rattle.cr_base.specs.declared.key.Kind.TheVariants.{Function, Object, Typedef, Enumerator}
use Rattle.cr_facts.specs.FactOrder.{Facts, FactsAreOrdered}
use Rattle.cr_facts.specs.declared.fact.Fact.{Fact}
use Rattle.cr_facts.specs.declared.fact.Fact.TheVariants.{Declares, Denotes, OfKind, FileScope}
use Rattle.cr_snapshot.specs.declared.known.KnownFile.{KnownFile}
use Rattle.cr_class.specs.RenameClass.{Has, key_cmp, is_of_kinds, is_file_scope, is_renamable, renamable_kinds, ordinary_kinds, DeclaresFileScope, IsFirstPlace, MeansInternal, MeansOrdinary, means_by}
use Rattle.cr_class.specs.ShownOrder.{shown_cmp, path_of}
use Rattle.cr_class.specs.Declarations.{least, file_scope_place, file_scope_key, denoted_key, key_shown_at}
use Rattle.cr_class.proofs.Listed.{listed, told, kept, from_kept, cons_cases}
use Rattle.cr_class.proofs.Least.{least_below, least_among, least_none}

pub shown_total : (files : List KnownFile) → IsTotalOrder (shown_cmp files)
shown_total files = then_total (on_total (path_of files) nat_list_cmp_total) (on_total (λ (p : Place). p.offset) nat_cmp_total)

if_some : {X : Type 0} (b : Bool) (x y : X) → (if b then Some x else None) ≡ Some y → (b ≡ true) × (x ≡ y)
if_some true x y e = (refl, cc)
if_some false x y e = let bad : ⊥ = cc in absurd bad

both_true : (a b : Bool) → (a && b) ≡ true → (a ≡ true) × (b ≡ true)
both_true true b e = (refl, e)
both_true false b e = let bad : ⊥ = cc in absurd bad

and_true : (a b : Bool) → a ≡ true → b ≡ true → (a && b) ≡ true
and_true a b e f = ap (λ c. c && b) e ∙ f

some_kind : (facts : Facts) (k : Key) (kinds : List Kind) → is_of_kinds kinds facts k ≡ true → (kind : Kind) × Has facts (OfKind k kind)
some_kind facts k [] e = let bad : ⊥ = cc in absurd bad
some_kind facts k (kind ∷ kinds) e = by (contains facts (OfKind k kind)) refl e (some_kind facts k kinds)
  where
    by : (b : Bool) → contains facts (OfKind k kind) ≡ b → (b || is_of_kinds kinds facts k) ≡ true → (is_of_kinds kinds facts k ≡ true → (kind : Kind) × Has facts (OfKind k kind)) → (kind : Kind) × Has facts (OfKind k kind)
    by true h e rest = (kind, h)
    by false h e rest = rest e

module _ (law : FactsAreOrdered) where
  pub key_total : IsTotalOrder key_cmp
  key_total = record {
    antisymm = λ k l. law.total.antisymm (FileScope k) (FileScope l);
    trans = λ k l m e f. law.total.trans (FileScope k) (FileScope l) (FileScope m) e f;
    congr = λ k l m e. law.total.congr (FileScope k) (FileScope l) (FileScope m) e;
  }

neither : {T : Type 0} {R : T → T → Ordering} → IsTotalOrder R → (x y : T) → R x y ≢ Less → R y x ≢ Less → R x y ≡ Equal
neither {R} order x y one two = by (R x y) refl
  where
    by : (r : Ordering) → R x y ≡ r → R x y ≡ Equal
    by Less e = absurd (one e)
    by Equal e = e
    by Greater e = absurd (two (order.antisymm y x ∙ ap ordering_reverse e))

module _ (law : FactsAreOrdered) (files : List KnownFile) (facts : Facts) where
  first_too : (place p : Place) → IsFirstPlace files facts place → shown_cmp files p place ≡ Equal → IsFirstPlace files facts p
  first_too place p first same k q d less = first k q d (sym (alike_right (shown_total files) p place q same) ∙ less)

  -- what an ordinary name means where there is a first place,
  pub means_at : (place : Place) → ((k : Key) × DeclaresFileScope facts k place) × IsFirstPlace files facts place → (k : Key)
      → ((p : Place) × DeclaresFileScope facts k p × (shown_cmp files p place ≡ Equal)) ↔ MeansInternal files facts k
  means_at place first k = (
    λ h. inl (h.0, h.1, first_too place h.0 first.1 h.2),
    λ m. by m,
  )
    where
      by : MeansInternal files facts k → (p : Place) × DeclaresFileScope facts k p × (shown_cmp files p place ≡ Equal)
      by (inl h) = (h.0, h.1, neither (shown_total files) h.0 place (first.1 k h.0 h.1) (h.2 first.0.0 place first.0.1))
      by (inr h) = absurd (h.1.0 first.0.0 place first.0.1)

  -- where there is none but a least key,
  pub means_key : ((k : Key) (p : Place) → DeclaresFileScope facts k p → ⊥) → (key : Key) → (is_file_scope facts key ≡ true) × ((l : Key) → is_file_scope facts l ≡ true → key_cmp l key ≢ Less) → (k : Key)
      → Contains (key ∷ []) k ↔ MeansInternal files facts k
  means_key none key least k = (
    λ has. to (cons_cases key k [] has),
    λ m. from m,
  )
    where
      to : (key ≡ k) ⊎ Contains {X = Key} [] k → MeansInternal files facts k
      to (inl e) = subst (MeansInternal files facts) e (inr (least.0, (none, least.1)))
      to (inr h) = let bad : ⊥ = omega (arith, h.1) in absurd bad

      same : key_cmp key k ≡ Equal → key ≡ k
      same e = let one : FileScope key ≡ FileScope k = law.ties (FileScope key) (FileScope k) e in cc

      from : MeansInternal files facts k → Contains (key ∷ []) k
      from (inl h) = absurd (none k h.0 h.1)
      from (inr h) = (0, omega arith, same (neither (key_total law) key k (h.1.1 key least.0) (least.1 k h.0)))

  -- and where there is neither
  pub means_none : ((k : Key) (p : Place) → DeclaresFileScope facts k p → ⊥) → ((k : Key) → is_file_scope facts k ≡ true → ⊥) → (k : Key) → MeansInternal files facts k → ⊥
  means_none none without k (inl h) = none k h.0 h.1
  means_none none without k (inr h) = without k h.0

module _ (law : FactsAreOrdered) (files : List KnownFile) (facts : Facts) (all : List Fact) (is : from_list all ≡ facts) where
  place_kept : (k : Key) (p : Place) → DeclaresFileScope facts k p → Contains (filter_map (file_scope_place facts) all) p
  place_kept k p h = kept (file_scope_place facts) all (Declares k p) p (listed law facts all is (Declares k p) h.1) (ap (λ b. if b then Some p else None) h.0)

  from_place : (f : Fact) (p : Place) → Contains all f → file_scope_place facts f ≡ Some p → (k : Key) × DeclaresFileScope facts k p
  from_place (Declares k q) p has e = let h = if_some (is_file_scope facts k) q p e in (k, (h.0, subst (λ r. Has facts (Declares k r)) h.1 (told law facts all is (Declares k q) has)))
  from_place f p has e = let bad : ⊥ = cc in absurd bad

  pub no_first_place : least (shown_cmp files) None (filter_map (file_scope_place facts) all) ≡ None → (k : Key) (p : Place) → DeclaresFileScope facts k p → ⊥
  no_first_place e k p h = least_none (shown_cmp files) (shown_total files) (filter_map (file_scope_place facts) all) e p (place_kept k p h)

  pub is_first_place : (p : Place) → least (shown_cmp files) None (filter_map (file_scope_place facts) all) ≡ Some p → ((k : Key) × DeclaresFileScope facts k p) × IsFirstPlace files facts p
  is_first_place p e = (
    by (least_among (shown_cmp files) (shown_total files) None (filter_map (file_scope_place facts) all) p e),
    λ k q h. (least_below (shown_cmp files) (shown_total files) None (filter_map (file_scope_place facts) all) p e).1 q (place_kept k q h),
  )
    where
      by : (None ≡ Some p) ⊎ Contains (filter_map (file_scope_place facts) all) p → (k : Key) × DeclaresFileScope facts k p
      by (inl h) = let bad : ⊥ = cc in absurd bad
      by (inr h) = let k = from_kept (file_scope_place facts) all p h in from_place k.0 p k.1 k.2

  denoted : (place : Place) (f : Fact) (k : Key) → denoted_key facts place f ≡ Some k → Has facts (Denotes place k) × (is_renamable facts k ≡ true)
  denoted place (OfKind l kind) k e =
      let h = if_some (is_renamable facts l && contains facts (Denotes place l)) l k e in
      let both = both_true (is_renamable facts l) (contains facts (Denotes place l)) h.0 in
      (subst (λ m. Has facts (Denotes place m)) h.1 both.1, subst (λ m. is_renamable facts m ≡ true) h.1 both.0)
  denoted place f k e = let bad : ⊥ = cc in absurd bad

  -- the keys that a place denotes
  pub denoted_all : (place : Place) (k : Key) → Contains (filter_map (denoted_key facts place) all) k ↔ (Has facts (Denotes place k) × (is_renamable facts k ≡ true))
  denoted_all place k = (
    λ has. (let h = from_kept (denoted_key facts place) all k has in denoted place h.0 k h.2),
    λ h. (let kind = some_kind facts k renamable_kinds h.1 in
        kept (denoted_key facts place) all (OfKind k kind.0) k (listed law facts all is (OfKind k kind.0) kind.1)
        (ap (λ b. if b then Some k else None) (and_true (is_renamable facts k) (contains facts (Denotes place k)) h.1 h.0))),
  )

  shown_at : (first : Place) (f : Fact) (k : Key) → Contains all f → key_shown_at files facts first f ≡ Some k → (p : Place) × DeclaresFileScope facts k p × (shown_cmp files p first ≡ Equal)
  shown_at first (Declares l p) k has e =
      let h = if_some (is_file_scope facts l && is_eq (shown_cmp files p first)) l k e in
      let both = both_true (is_file_scope facts l) (is_eq (shown_cmp files p first)) h.0 in
      (p, (subst (λ m. is_file_scope facts m ≡ true) h.1 both.0, subst (λ m. Has facts (Declares m p)) h.1 (told law facts all is (Declares l p) has)), (Equal-is (shown_cmp files p first)).0 both.1)
  shown_at first f k has e = let bad : ⊥ = cc in absurd bad

  -- the keys that are declared where the first one is
  pub shown_all : (first : Place) (k : Key) → Contains (filter_map (key_shown_at files facts first) all) k ↔ ((p : Place) × DeclaresFileScope facts k p × (shown_cmp files p first ≡ Equal))
  shown_all first k = (
    λ has. (let h = from_kept (key_shown_at files facts first) all k has in shown_at first h.0 k h.1 h.2),
    λ h. kept (key_shown_at files facts first) all (Declares k h.0) k (listed law facts all is (Declares k h.0) h.1.1)
        (ap (λ b. if b then Some k else None) (and_true (is_file_scope facts k) (is_eq (shown_cmp files h.0 first)) h.1.0 ((Equal-is (shown_cmp files h.0 first)).1 h.2))),
  )

  from_scope : (f : Fact) (k : Key) → file_scope_key facts f ≡ Some k → is_file_scope facts k ≡ true
  from_scope (FileScope l) k e = let h = if_some (is_file_scope facts l) l k e in subst (λ m. is_file_scope facts m ≡ true) h.1 h.0
  from_scope f k e = let bad : ⊥ = cc in absurd bad

  scope_kept : (k : Key) → is_file_scope facts k ≡ true → Contains (filter_map (file_scope_key facts) all) k
  scope_kept k e =
      let both = both_true (is_of_kinds ordinary_kinds facts k) (contains facts (FileScope k)) e in
      kept (file_scope_key facts) all (FileScope k) k (listed law facts all is (FileScope k) both.1) (ap (λ b. if b then Some k else None) e)

  pub no_key : least key_cmp None (filter_map (file_scope_key facts) all) ≡ None → (k : Key) → is_file_scope facts k ≡ true → ⊥
  no_key e k h = least_none key_cmp (key_total law) (filter_map (file_scope_key facts) all) e k (scope_kept k h)

  pub is_least_key : (k : Key) → least key_cmp None (filter_map (file_scope_key facts) all) ≡ Some k → (is_file_scope facts k ≡ true) × ((l : Key) → is_file_scope facts l ≡ true → key_cmp l k ≢ Less)
  is_least_key k e = (
    by (least_among key_cmp (key_total law) None (filter_map (file_scope_key facts) all) k e),
    λ l h. (least_below key_cmp (key_total law) None (filter_map (file_scope_key facts) all) k e).1 l (scope_kept l h),
  )
    where
      by : (None ≡ Some k) ⊎ Contains (filter_map (file_scope_key facts) all) k → is_file_scope facts k ≡ true
      by (inl h) = let bad : ⊥ = cc in absurd bad
      by (inr h) = let f = from_kept (file_scope_key facts) all k h in from_scope f.0 k f.2

-- an ordinary identifier of file scope can be renamed
wider : (a b c d e : Bool) → (a || (b || (c || (d || false)))) ≡ true → (a || (b || (c || (d || e)))) ≡ true
wider true b c d e h = refl
wider false true c d e h = refl
wider false false true d e h = refl
wider false false false true e h = refl
wider false false false false e h = let bad : ⊥ = cc in absurd bad

scope_renamable : (facts : Facts) (k : Key) → is_file_scope facts k ≡ true → is_renamable facts k ≡ true
scope_renamable facts k e =
    wider (contains facts (OfKind k Function)) (contains facts (OfKind k Object)) (contains facts (OfKind k Typedef)) (contains facts (OfKind k Enumerator)) _
    (both_true (is_of_kinds ordinary_kinds facts k) (contains facts (FileScope k)) e).0

pub ordinary_renamable : (files : List KnownFile) (facts : Facts) (old : List ℕ) (k : Key) → MeansOrdinary files facts old k → is_renamable facts k ≡ true
ordinary_renamable files facts old k m = by (is_renamable facts (Ext old)) refl m
  where
    by : (b : Bool) → is_renamable facts (Ext old) ≡ b → means_by files facts old k b → is_renamable facts k ≡ true
    by true e h = ap (is_renamable facts) h ∙ e
    by false e (inl h) = scope_renamable facts k h.1.0
    by false e (inr h) = scope_renamable facts k h.0
