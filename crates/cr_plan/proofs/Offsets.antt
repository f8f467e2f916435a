-- The paths of the offsets of places: each is that of a place, and none stands twice.
use Rattle.std.proofs.Common.{◌≡◌, ℕ, zero, suc, Bool, true, false, ◌||◌, List, [], ◌∷◌, ◌++◌, map, Option, Some, None, slice_get, refl, sym, ap, ◌∙◌, subst, arith}
use Rattle.std.specs.Prelude.{bytes_eq, cond, fold}
use Rattle.std.specs.List.{list_any, Contains}
use Rattle.std.specs.Map.{lookup, set_value}
use Rattle.std.specs.BTreeMap.{insert_entry, is_at}
use Rattle.std.specs.Ordering.{match_ordering, nat_cmp, ordering_then, is_eq}
use Rattle.std.specs.Cmp.Lexicographic.{slice_cmp}
use Rattle.std.specs.declared.cmp.Ordering.{Ordering}
use Rattle.std.specs.declared.cmp.Ordering.TheVariants.{Less, Equal, Greater}
use Rattle.std.proofs.lemmas.Slice.Eq.{bytes_eq-Decides}
use Rattle.cr_base.specs.declared.token.Place.{Place}
use Rattle.cr_snapshot.specs.declared.known.KnownFile.{KnownFile}
use Rattle.cr_class.specs.ShownOrder.{path_of}
use Rattle.cr_edit.specs.Planned.{Apart}
use Rattle.cr_edit.proofs.Editings.{or_false_left, or_false_right, apart_sym}
use Rattle.cr_plan.specs.Outcome.{Offsets, with_offset, with_place, offsets_of, behind_others}

abbrev pub keys : Offsets → List (List ℕ)
keys es = map (λ (e : List ℕ × List ℕ). e.0) es

nat_same : (n : ℕ) → nat_cmp n n ≡ Equal
nat_same n = grind (arith)

path_same : (path : List ℕ) → slice_cmp nat_cmp path path ≡ Equal
path_same [] = refl
path_same (x ∷ xs) = ap (λ o. ordering_then o (slice_cmp nat_cmp xs xs)) (nat_same x) ∙ path_same xs

-- where nothing is found at a path, no key is this path
none_found : (path : List ℕ) (es : Offsets) → lookup (is_at (slice_cmp nat_cmp path)) es ≡ None → list_any (bytes_eq path) (keys es) ≡ false
none_found path [] h = refl
none_found path (e ∷ es) h = by (is_at (slice_cmp nat_cmp path) e.0) refl h (none_found path es)
  where
    away : (b : Bool) → bytes_eq path e.0 ≡ b → is_at (slice_cmp nat_cmp path) e.0 ≡ false → b ≡ false
    away true k f =
        let same : is_at (slice_cmp nat_cmp path) e.0 ≡ true = ap (λ p. is_eq (slice_cmp nat_cmp path p)) (sym ((bytes_eq-Decides path e.0).0 k)) ∙ ap is_eq (path_same path) in
        sym same ∙ f
    away false k f = refl

    by : (b : Bool) → is_at (slice_cmp nat_cmp path) e.0 ≡ b → cond b (Some e.1) (lookup (is_at (slice_cmp nat_cmp path)) es) ≡ None
        → (lookup (is_at (slice_cmp nat_cmp path)) es ≡ None → list_any (bytes_eq path) (keys es) ≡ false) → (bytes_eq path e.0 || list_any (bytes_eq path) (keys es)) ≡ false
    by true k f more = let no : Some e.1 ≡ None = f in let bad : ⊥ = cc in absurd bad
    by false k f more = ap (λ b. b || list_any (bytes_eq path) (keys es)) (away (bytes_eq path e.0) refl k) ∙ more f

set_keys : (test : List ℕ → Bool) (es : Offsets) (v : List ℕ) → keys (set_value test es v) ≡ keys es
set_keys test [] v = refl
set_keys test (e ∷ es) v = by (test e.0) (set_keys test es v)
  where
    by : (b : Bool) → keys (set_value test es v) ≡ keys es → keys (cond b ((e.0, v) ∷ es) (e ∷ set_value test es v)) ≡ keys (e ∷ es)
    by true h = refl
    by false h = ap (λ l. e.0 ∷ l) h

insert_other : (P : List ℕ → Bool) (es : Offsets) (k v : List ℕ) → P k ≡ false → list_any P (keys es) ≡ false → list_any P (keys (insert_entry (slice_cmp nat_cmp) es k v)) ≡ false
insert_other P [] k v own h = ap (λ b. b || false) own
insert_other P (e ∷ es) k v own h = by (slice_cmp nat_cmp k e.0) (insert_other P es k v own (or_false_right (P e.0) _ h))
  where
    by : (o : Ordering) → list_any P (keys (insert_entry (slice_cmp nat_cmp) es k v)) ≡ false
        → list_any P (keys (match_ordering o ((k, v) ∷ e ∷ es) ((e.0, v) ∷ es) (e ∷ insert_entry (slice_cmp nat_cmp) es k v))) ≡ false
    by Less more = ap (λ b. b || list_any P (keys (e ∷ es))) own ∙ h
    by Equal more = h
    by Greater more = ap (λ b. b || list_any P (keys (insert_entry (slice_cmp nat_cmp) es k v))) (or_false_left (P e.0) _ h) ∙ more

insert_apart : (es : Offsets) (k v : List ℕ) → list_any (bytes_eq k) (keys es) ≡ false → Apart (keys es) → Apart (keys (insert_entry (slice_cmp nat_cmp) es k v))
insert_apart [] k v h all = (refl, tt)
insert_apart (e ∷ es) k v h all = by (slice_cmp nat_cmp k e.0) (insert_apart es k v (or_false_right (bytes_eq k e.0) _ h) all.1)
  where
    by : (o : Ordering) → Apart (keys (insert_entry (slice_cmp nat_cmp) es k v)) → Apart (keys (match_ordering o ((k, v) ∷ e ∷ es) ((e.0, v) ∷ es) (e ∷ insert_entry (slice_cmp nat_cmp) es k v)))
    by Less more = (h, all)
    by Equal more = all
    by Greater more = (insert_other (bytes_eq e.0) es k v (apart_sym k e.0 (or_false_left (bytes_eq k e.0) _ h)) all.0, more)

offset_apart : (path : List ℕ) (offset : ℕ) (es : Offsets) → Apart (keys es) → Apart (keys (with_offset path offset es))
offset_apart path offset es all = by (lookup (is_at (slice_cmp nat_cmp path)) es) refl
  where
    by : (o : Option (List ℕ)) → lookup (is_at (slice_cmp nat_cmp path)) es ≡ o → Apart (keys (behind_others path offset es o))
    by None e = insert_apart es path (offset ∷ []) (none_found path es e) all
    by (Some offsets) e = subst Apart (sym (set_keys (is_at (slice_cmp nat_cmp path)) es (offsets ++ offset ∷ []))) all

apart_from : (files : List KnownFile) (places : List Place) (es : Offsets) → Apart (keys es) → Apart (keys (fold (with_place files) es places))
apart_from files [] es all = all
apart_from files (p ∷ ps) es all = apart_from files ps (with_place files es p) (offset_apart (path_of files p) p.offset es all)

-- no path stands twice
pub offsets_apart : (files : List KnownFile) (places : List Place) → Apart (keys (offsets_of files places))
offsets_apart files places = apart_from files places [] tt

in_front : (p : Place) (ps : List Place) → Contains (p ∷ ps) p
in_front p ps = (0, omega arith, refl)

in_rest : (p : Place) (ps : List Place) (q : Place) → Contains ps q → Contains (p ∷ ps) q
in_rest p ps q (k, l, e) = (suc k, omega (arith, l), e)

-- what holds of the path of each place holds of each key
module _ (P : List ℕ → Type 0) where
  abbrev Each : Offsets → Type 0
  Each es = (i : ℕ) (e : List ℕ × List ℕ) → slice_get es i ≡ Some e → P e.0

  each_cons : (e : List ℕ × List ℕ) (es : Offsets) → P e.0 → Each es → Each (e ∷ es)
  each_cons e es one more zero x h = let same : e ≡ x = cc in subst (λ (z : List ℕ × List ℕ). P z.0) same one
  each_cons e es one more (suc i) x h = more i x h

  each_rest : (e : List ℕ × List ℕ) (es : Offsets) → Each (e ∷ es) → Each es
  each_rest e es all i x h = all (suc i) x h

  each_insert : (es : Offsets) (k v : List ℕ) → P k → Each es → Each (insert_entry (slice_cmp nat_cmp) es k v)
  each_insert [] k v own all = each_cons (k, v) [] own all
  each_insert (e ∷ es) k v own all = by (slice_cmp nat_cmp k e.0) (each_insert es k v own (each_rest e es all))
    where
      by : (o : Ordering) → Each (insert_entry (slice_cmp nat_cmp) es k v) → Each (match_ordering o ((k, v) ∷ e ∷ es) ((e.0, v) ∷ es) (e ∷ insert_entry (slice_cmp nat_cmp) es k v))
      by Less more = each_cons (k, v) (e ∷ es) own all
      by Equal more = each_cons (e.0, v) es (all zero e refl) (each_rest e es all)
      by Greater more = each_cons e (insert_entry (slice_cmp nat_cmp) es k v) (all zero e refl) more

  each_set : (test : List ℕ → Bool) (es : Offsets) (v : List ℕ) → Each es → Each (set_value test es v)
  each_set test [] v all = all
  each_set test (e ∷ es) v all = by (test e.0) (each_set test es v (each_rest e es all))
    where
      by : (b : Bool) → Each (set_value test es v) → Each (cond b ((e.0, v) ∷ es) (e ∷ set_value test es v))
      by true more = each_cons (e.0, v) es (all zero e refl) (each_rest e es all)
      by false more = each_cons e (set_value test es v) (all zero e refl) more

  each_offset : (path : List ℕ) (offset : ℕ) (es : Offsets) → P path → Each es → Each (with_offset path offset es)
  each_offset path offset es own all = by (lookup (is_at (slice_cmp nat_cmp path)) es)
    where
      by : (o : Option (List ℕ)) → Each (behind_others path offset es o)
      by None = each_insert es path (offset ∷ []) own all
      by (Some offsets) = each_set (is_at (slice_cmp nat_cmp path)) es (offsets ++ offset ∷ []) all

  each_from : (files : List KnownFile) (places : List Place) (es : Offsets) → ((p : Place) → Contains places p → P (path_of files p)) → Each es → Each (fold (with_place files) es places)
  each_from files [] es own all = all
  each_from files (p ∷ ps) es own all =
      each_from files ps (with_place files es p) (λ q h. own q (in_rest p ps q h)) (each_offset (path_of files p) p.offset es (own p (in_front p ps)) all)

  pub each_key : (files : List KnownFile) (places : List Place) → ((p : Place) → Contains places p → P (path_of files p))
      → (i : ℕ) (e : List ℕ × List ℕ) → slice_get (offsets_of files places) i ≡ Some e → P e.0
  each_key files places own = each_from files places [] own (λ i e h. let no : None ≡ Some e = h in let bad : ⊥ = cc in absurd bad)
