-- Where no refusal holds, no fact gives one: of finitely many places one is the least.
use Rattle.std.proofs.Common.{◌≡◌, ℕ, Bool, true, false, ◌&&◌, ◌||◌, List, [], ◌∷◌, Option, Some, None, refl, sym, ap, ◌∙◌, subst, inl, inr, arith}
use Rattle.std.specs.Prelude.{if◌then◌else◌, ◌≢◌, not}
use Rattle.std.specs.List.{Contains, list_any, filter_map}
use Rattle.std.specs.FinSet.{contains, items, contains-items}
use Rattle.std.specs.Ordering.{eq_by_cmp}
use Rattle.std.specs.declared.cmp.Ordering.{Ordering}
use Rattle.std.specs.declared.cmp.Ordering.TheVariants.{Less, Equal, Greater}
use Rattle.std.specs.Cmp.{IsTotalOrder, tied_itself, Equal-is, eq_by_cmp_equiv}
use Rattle.std.proofs.lemmas.Map.Views.{list_any-from_Contains}
use Rattle.cr_base.specs.declared.token.Place.{Place}
use Rattle.cr_base.specs.declared.key.Key.{Key}
use Rattle.cr_base.specs.declared.cause.Role.{Role}
use Rattle.cr_base.specs.declared.cause.Role.TheVariants as role
use Rattle.cr_facts.specs.FactOrder.{Facts, fact_cmp, FactsAreOrdered}
use Rattle.cr_facts.specs.declared.fact.Fact.{Fact}
use Rattle.cr_facts.specs.declared.fact.Fact.TheVariants.{Denotes, HasRole, MadeDenotes, NewKey, NewMacro, BodyParam, OpaqueAt, Conflict, FileScope}
use Rattle.cr_snapshot.specs.declared.known.KnownFile.{KnownFile}
use Rattle.cr_class.specs.RenameClass.{Has, key_cmp, place_cmp}
use Rattle.cr_class.specs.ShownOrder.{shown_cmp, path_of}
use Rattle.cr_class.specs.Verdict.{is_in_class, is_renamed, macro_place, mixed_use, made_place, opaque_place, capture_place, has_clash, renamed_key, IsCaptured, is_mixed_role, is_made_role, IsGiven, is_unspellable_at, is_unwritable_path, Refuses, bytes_of, IsLeast, use_cmp}
use Rattle.cr_class.specs.declared.class.Class.{Class}
use Rattle.cr_class.specs.declared.uses.Use.{Use}
use Rattle.cr_class.specs.declared.refusal.Refusal.TheVariants as refusal
use Rattle.cr_class.specs.Accepted.{NothingRefuses, AcceptedMeansNothing, ClassTestsTell}
use Rattle.cr_class.specs.declared.refusal.Refusal.{Refusal}
use Rattle.cr_class.proofs.Listed.{later, cons_cases, kept, from_kept}
use Rattle.cr_class.proofs.Candidates.{shown_total}
use Rattle.cr_class.proofs.Judged.{use_total, true_any}

-- ---- membership by a test of an order

module _ {X : Type 0} (R : X → X → Ordering) (order : IsTotalOrder R) (ties : (x y : X) → R x y ≡ Equal → x ≡ y) where
  pub any_item : (x : X) (xs : List X) → list_any (eq_by_cmp R x) xs ≡ true → Contains xs x
  any_item x [] e = let bad : ⊥ = cc in absurd bad
  any_item x (y ∷ xs) e = by (eq_by_cmp R x y) refl e (any_item x xs)
    where
      by : (b : Bool) → eq_by_cmp R x y ≡ b → (b || list_any (eq_by_cmp R x) xs) ≡ true → (list_any (eq_by_cmp R x) xs ≡ true → Contains xs x) → Contains (y ∷ xs) x
      by true h g rest = (0, omega arith, sym (ties x y ((Equal-is (R x y)).0 h)))
      by false h g rest = later y x xs (rest g)

  pub item_any : (x : X) (xs : List X) → Contains xs x → list_any (eq_by_cmp R x) xs ≡ true
  item_any x xs has = list_any-from_Contains (eq_by_cmp_equiv order) x xs has

-- ---- the least of some items

module _ {X : Type 0} (R : X → X → Ordering) (order : IsTotalOrder R) where
  own : (x : X) → R x x ≢ Less
  own x e = let bad : Less ≡ Equal = sym e ∙ tied_itself order x in let none : ⊥ = cc in none

  record Lowest (xs : List X) : Type 0 where
    item : X
    among : Contains xs item
    low : (y : X) → Contains xs y → R y item ≢ Less

  lowest : (x : X) (xs : List X) → Lowest (x ∷ xs)
  lowest x [] = record { item = x; among = (0, omega arith, refl); low = λ y c. elim (cons_cases x y [] c) [ inl e ↦ subst (λ z. R z x ≢ Less) e (own x) | inr d ↦ absurd (omega (arith, d.1)) ] }
  lowest x (y ∷ ys) = by (lowest y ys)
    where
      by : Lowest (y ∷ ys) → Lowest (x ∷ y ∷ ys)
      by m = at (R x m.item) refl
        where
          keeps : R x m.item ≢ Less → Lowest (x ∷ y ∷ ys)
          keeps h = record { item = m.item; among = later x m.item (y ∷ ys) m.among; low = λ z c. elim (cons_cases x z (y ∷ ys) c) [ inl e ↦ subst (λ w. R w m.item ≢ Less) e h | inr d ↦ m.low z d ] }

          at : (o : Ordering) → R x m.item ≡ o → Lowest (x ∷ y ∷ ys)
          at Less e = record { item = x; among = (0, omega arith, refl); low = λ z c. elim (cons_cases x z (y ∷ ys) c) [ inl h ↦ subst (λ w. R w x ≢ Less) h (own x) | inr d ↦ (λ g. m.low z d (order.trans z x m.item g e)) ] }
          at Equal e = keeps (λ g. (let bad : Less ≡ Equal = sym g ∙ e in let none : ⊥ = cc in none))
          at Greater e = keeps (λ g. (let bad : Less ≡ Greater = sym g ∙ e in let none : ⊥ = cc in none))

  some_lowest : (xs : List X) (x : X) → Contains xs x → Lowest xs
  some_lowest [] x c = absurd (omega (arith, c.1))
  some_lowest (y ∷ ys) x c = lowest y ys

-- ---- what facts give

module _ (law : FactsAreOrdered) where
  pub key_total : IsTotalOrder key_cmp
  key_total = record {
    antisymm = λ k l. law.total.antisymm (FileScope k) (FileScope l);
    trans = λ k l m e f. law.total.trans (FileScope k) (FileScope l) (FileScope m) e f;
    congr = λ k l m e. law.total.congr (FileScope k) (FileScope l) (FileScope m) e;
  }

  pub place_total : IsTotalOrder place_cmp
  place_total = record {
    antisymm = λ p q. law.total.antisymm (BodyParam p) (BodyParam q);
    trans = λ p q r e f. law.total.trans (BodyParam p) (BodyParam q) (BodyParam r) e f;
    congr = λ p q r e. law.total.congr (BodyParam p) (BodyParam q) (BodyParam r) e;
  }

  pub key_ties : (k l : Key) → key_cmp k l ≡ Equal → k ≡ l
  key_ties k l e = let one : FileScope k ≡ FileScope l = law.ties (FileScope k) (FileScope l) e in cc

  pub place_ties : (p q : Place) → place_cmp p q ≡ Equal → p ≡ q
  place_ties p q e = let one : BodyParam p ≡ BodyParam q = law.ties (BodyParam p) (BodyParam q) e in cc

  pub class_tests : ClassTestsTell
  class_tests class k = (any_item key_cmp key_total key_ties k class.keys, item_any key_cmp key_total key_ties k class.keys)

  in_items : (facts : Facts) (f : Fact) → Has facts f → Contains (items facts) f
  in_items facts f has = any_item fact_cmp law.total law.ties f (items facts) (sym (contains-items facts f) ∙ has)

  of_items : (facts : Facts) (f : Fact) → Contains (items facts) f → Has facts f
  of_items facts f c = contains-items facts f ∙ item_any fact_cmp law.total law.ties f (items facts) c

  module _ (facts : Facts) where
    -- where a fact gives something, one is the least of all that facts give
    pub least_given : {X : Type 0} (R : X → X → Ordering) → IsTotalOrder R → (give : Fact → Option X) (f : Fact) (x : X) → Has facts f → give f ≡ Some x → (m : X) × IsLeast R (IsGiven give facts) m
    least_given R order give f x has e =
        let m = some_lowest R order (filter_map give (items facts)) x (kept give (items facts) f x (in_items facts f has) e) in
        let g = from_kept give (items facts) m.item m.among in
        (m.item, ((g.0, of_items facts g.0 g.1, g.2), λ y h. m.low y (kept give (items facts) h.0 y (in_items facts h.0 h.1) h.2)))

    module _ (class : Class) (files : List KnownFile) (root : Option (List ℕ)) (old new : List ℕ) (accepted : (r : Refusal) → Refuses facts class files root old new r → ⊥) where
      abbrev renamed : Place → Bool
      renamed = is_renamed class

      abbrev inside : Key → Bool
      inside = is_in_class class

      renamed_there : (p : Place) → Contains class.places p → renamed p ≡ true
      renamed_there p c = item_any place_cmp place_total place_ties p class.places c

      inside_there : (k : Key) → Contains class.keys k → inside k ≡ true
      inside_there k c = item_any key_cmp key_total key_ties k class.keys c

      no_mixed : (f : Fact) (u : Use) → Has facts f → mixed_use inside renamed f ≡ Some u → ⊥
      no_mixed f u has e = let m = least_given (use_cmp files) (use_total files) (mixed_use inside renamed) f u has e in accepted (refusal.Mixed m.0.place m.0.role) m.1

      no_made : (f : Fact) (p : Place) → Has facts f → made_place inside renamed f ≡ Some p → ⊥
      no_made f p has e = let m = least_given (shown_cmp files) (shown_total files) (made_place inside renamed) f p has e in accepted (refusal.Made m.0) m.1

      no_capture : (f : Fact) (p : Place) → Has facts f → capture_place inside renamed f ≡ Some p → ⊥
      no_capture f p has e = let m = least_given (shown_cmp files) (shown_total files) (capture_place inside renamed) f p has e in accepted (refusal.Capture m.0) (inl m.1)

      -- where a place is one of the class, no entity of it becomes one with another: else the least place would be refused
      no_clash : (p : Place) → Contains class.places p → has_clash facts class new ≡ true → ⊥
      no_clash p c clash =
          let m = some_lowest (shown_cmp files) (shown_total files) class.places p c in
          accepted (refusal.Capture m.item) (inr (none, ((m.among, clash), λ y h. m.low y h.0)))
        where
          none : (q : Place) → IsCaptured facts class q → ⊥
          none q (f, has, e) = no_capture f q has e

      alone : (p : Place) (k : Key) → Has facts (Denotes p k) → Contains class.places p → Contains class.keys k
      alone p k has c = by (inside k) refl
        where
          by : (b : Bool) → inside k ≡ b → Contains class.keys k
          by true h = any_item key_cmp key_total key_ties k class.keys h
          by false h = absurd (no_mixed (Denotes p k) (record { place = p; role = role.Final }) has (ap (λ b. if b && not (inside k) then Some (record { place = p; role = role.Final }) else None) (renamed_there p c) ∙ ap (λ b. if not b then Some (record { place = p; role = role.Final }) else None) h))

      roles : (p : Place) (r : Role) → Has facts (HasRole p r) → Contains class.places p → (is_mixed_role r ≡ false) × (is_made_role r ≡ false)
      roles p r has c = (mixed (is_mixed_role r) refl, made (is_made_role r) refl)
        where
          mixed : (b : Bool) → is_mixed_role r ≡ b → b ≡ false
          mixed false h = refl
          mixed true h = absurd (no_mixed (HasRole p r) (record { place = p; role = r }) has (ap (λ b. if b && is_mixed_role r then Some (record { place = p; role = r }) else None) (renamed_there p c) ∙ ap (λ b. if b then Some (record { place = p; role = r }) else None) h))

          made : (b : Bool) → is_made_role r ≡ b → b ≡ false
          made false h = refl
          made true h = absurd (no_made (HasRole p r) p has (ap (λ b. if b && is_made_role r then Some p else None) (renamed_there p c) ∙ ap (λ b. if b then Some p else None) h))

      -- a test that no least place of the class meets is met by none
      module _ (test : Place → Bool) (refused : (p : Place) → IsLeast (shown_cmp files) (λ q. Contains class.places q × (test q ≡ true)) p → ⊥) where
        abbrev tested : Place → Option Place
        tested q = if test q then Some q else None

        met : (p : Place) → Contains class.places p → test p ≡ true → ⊥
        met p c h =
            let m = some_lowest (shown_cmp files) (shown_total files) (filter_map tested class.places) p (kept tested class.places p p c (ap (λ b. if b then Some p else None) h)) in
            refused m.item (holds m.item (from_kept tested class.places m.item m.among), λ y g. m.low y (kept tested class.places y y g.0 (ap (λ b. if b then Some y else None) g.1)))
          where
            at : (q m : Place) → Contains class.places q → (b : Bool) → test q ≡ b → (if b then Some q else None) ≡ Some m → Contains class.places m × (test m ≡ true)
            at q m d true g e = let same : q ≡ m = cc in (subst (Contains class.places) same d, ap test (sym same) ∙ g)
            at q m d false g e = cc

            holds : (m : Place) → (q : Place) × Contains class.places q × (tested q ≡ Some m) → Contains class.places m × (test m ≡ true)
            holds m (q, d, e) = at q m d (test q) refl e

        unmet : (p : Place) → Contains class.places p → test p ≡ false
        unmet p c = by (test p) refl
          where
            by : (b : Bool) → test p ≡ b → b ≡ false
            by false h = refl
            by true h = absurd (met p c h)

      spelled : (p : Place) → Contains class.places p → is_unspellable_at old new (bytes_of files p) p.offset ≡ false
      spelled = unmet (λ q. is_unspellable_at old new (bytes_of files q) q.offset) (λ p least. accepted (refusal.Spelling p) least)

      reached : (p : Place) → Contains class.places p → is_unwritable_path root (path_of files p) ≡ false
      reached = unmet (λ q. is_unwritable_path root (path_of files q)) (λ p least. accepted (refusal.Unwritable p) least)

      nothing : NothingRefuses facts class files root old new
      nothing = record {
        not_reserved = accepted refusal.Reserved;
        no_macro = λ p has. (let m = least_given (shown_cmp files) (shown_total files) macro_place (NewMacro p) p has refl in accepted (refusal.NewIsMacro m.0) m.1);
        alone = alone;
        roles = roles;
        not_made = λ k p has c. no_made (MadeDenotes k p) p has (ap (λ b. if b then Some p else None) (inside_there k c));
        writable = reached;
        spellable = spelled;
        clear = λ p has. (let m = least_given (shown_cmp files) (shown_total files) opaque_place (OpaqueAt p) p has refl in accepted (refusal.Opaque m.0) m.1);
        no_conflict = λ k p has c. no_capture (Conflict k p) p has (ap (λ b. if b then Some p else None) (inside_there k c));
        no_parameter = λ p has c. no_capture (BodyParam p) p has (ap (λ b. if b then Some p else None) (renamed_there p c));
        no_link = λ p k in_p in_k new_key. no_clash p in_p (true_any (λ l. contains facts (NewKey (renamed_key new l))) class.keys k in_k new_key);
      }

pub accepted_means_nothing : FactsAreOrdered → AcceptedMeansNothing
accepted_means_nothing law facts class files root old new accepted = nothing law facts class files root old new accepted
