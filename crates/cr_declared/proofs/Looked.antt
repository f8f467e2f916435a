-- The last declaration of the nearest slot is what a name means.
use Rattle.std.proofs.Common.{◌≡◌, ◌⊎◌, inl, inr, ℕ, zero, suc, ◌+◌, ◌<◌, ◌≤◌, Bool, true, false, ◌&&◌, eqb, Option, Some, None, List, [], ◌∷◌, length, map, refl, sym, ap, subst, ◌∙◌, arith, true≢false}
use Rattle.std.specs.Prelude.{option_map, slice_get, MatchOption}
use Rattle.std.proofs.lemmas.Bool.{eqb-true, eq-eqb}
use Rattle.cr_base.specs.declared.token.Name.{Name}
use Rattle.cr_scope.specs.declared.Space.{Space}
use Rattle.cr_scope.specs.declared.Space.TheVariants as space
use Rattle.cr_scope.specs.Declarations.{Entry, depth, is_prefix, lookup, same_space, same_name}
use Rattle.cr_scope.specs.Meaning.{Sees, IsLookup, SeesNone}
use Rattle.cr_scope.proofs.Paths.{and_both}
use Rattle.cr_scope.proofs.Looked.{lookup_means}
use Rattle.cr_paths.specs.Paths.{path_at, Grows}
use Rattle.cr_declared.specs.declared.rows.Slot.{Slot}
use Rattle.cr_declared.specs.declared.table.Ends.{Ends}
use Rattle.cr_declared.specs.declared.rows.Row.{Row}
use Rattle.cr_declared.specs.Rows.{slot, is_in, entry_of}
use Rattle.cr_declared.specs.Kept.{find_slot, Encloses, IsNearest, before, ends_from, ArePlaced, AreFound}

-- ---- the last of a slot

abbrev pub Means : ℕ → Slot → List Row → Option Ends → Type 0
Means n s xs None = (j : ℕ) (x : Row) → slice_get xs j ≡ Some x → is_in s x ≡ true → ⊥
Means n s xs (Some e) =
    (j : ℕ) × (x : Row) × (e.last ≡ n + j) × (slice_get xs j ≡ Some x) × (is_in s x ≡ true) × ((i : ℕ) (y : Row) → slice_get xs i ≡ Some y → is_in s y ≡ true → i ≤ j)

pub means : (n : ℕ) (s : Slot) (xs : List Row) → Means n s xs (ends_from n s xs)
means n s [] = λ j x at is. cc
means n s (x ∷ xs) = by (is_in s x) refl (ends_from (n + 1) s xs) (means (n + 1) s xs)
  where
    first_is : (y : Row) (b : Bool) → slice_get (x ∷ xs) 0 ≡ Some y → is_in s x ≡ b → is_in s y ≡ b
    first_is y b at e = (let same : x ≡ y = cc in subst (λ z. is_in s z ≡ b) same e)

    none_of : is_in s x ≡ false → Means (n + 1) s xs None → (j : ℕ) (y : Row) → slice_get (x ∷ xs) j ≡ Some y → is_in s y ≡ true → ⊥
    none_of e h zero y at is = true≢false (sym is ∙ first_is y false at e)
    none_of e h (suc j) y at is = h j y at is

    best_of : (d : Ends) → is_in s x ≡ false → (h : Means (n + 1) s xs (Some d)) → (i : ℕ) (y : Row) → slice_get (x ∷ xs) i ≡ Some y → is_in s y ≡ true → i ≤ suc h.0
    best_of d e h zero y at is = omega arith
    best_of d e h (suc i) y at is = (let l : i ≤ h.0 = h.5 i y at is in omega arith)

    only_of : Means (n + 1) s xs None → (i : ℕ) (y : Row) → slice_get (x ∷ xs) i ≡ Some y → is_in s y ≡ true → i ≤ 0
    only_of h zero y at is = omega arith
    only_of h (suc i) y at is = absurd (h i y at is)

    best_yet : (d : Ends) → (h : Means (n + 1) s xs (Some d)) → (i : ℕ) (y : Row) → slice_get (x ∷ xs) i ≡ Some y → is_in s y ≡ true → i ≤ suc h.0
    best_yet d h zero y at is = omega arith
    best_yet d h (suc i) y at is = (let l : i ≤ h.0 = h.5 i y at is in omega arith)

    by : (b : Bool) → is_in s x ≡ b → (r : Option Ends) → Means (n + 1) s xs r → Means n s (x ∷ xs) (before b n r)
    by false e None h = none_of e h
    by false e (Some d) h = (let l : d.last ≡ (n + 1) + h.0 = h.2 in (suc h.0, h.1, omega arith, h.3, h.4, best_of d e h))
    by true e None h = (0, x, omega arith, refl, e, only_of h)
    by true e (Some d) h = (let l : d.last ≡ (n + 1) + h.0 = h.2 in (suc h.0, h.1, omega arith, h.3, h.4, best_yet d h))

-- ---- slots and names

pub space_true : (a b : Space) → same_space a b ≡ true → a ≡ b
space_true space.Label space.Label h = refl
space_true space.Tag space.Tag h = refl
space_true space.Ordinary space.Ordinary h = refl
space_true space.Label space.Tag h = absurd (true≢false (sym h))
space_true space.Label space.Ordinary h = absurd (true≢false (sym h))
space_true space.Tag space.Label h = absurd (true≢false (sym h))
space_true space.Tag space.Ordinary h = absurd (true≢false (sym h))
space_true space.Ordinary space.Label h = absurd (true≢false (sym h))
space_true space.Ordinary space.Tag h = absurd (true≢false (sym h))

pub space_itself : (a : Space) → same_space a a ≡ true
space_itself space.Label = refl
space_itself space.Tag = refl
space_itself space.Ordinary = refl

pub in_parts : (q : ℕ) (sp : Space) (name : Name) (x : Row) → is_in (slot q sp name) x ≡ true → (q ≡ x.path) × (x.decl.space ≡ sp) × (x.decl.name ≡ name)
in_parts q sp name x h =
    let a : (eqb q x.path ≡ true) × ((same_space sp x.decl.space && same_name name x.decl.name) ≡ true) = and_both (eqb q x.path) (same_space sp x.decl.space && same_name name x.decl.name) h in
    let b : (same_space sp x.decl.space ≡ true) × (same_name name x.decl.name ≡ true) = and_both (same_space sp x.decl.space) (same_name name x.decl.name) a.1 in
    let n : name.0 ≡ x.decl.name.0 = eqb-true name.0 x.decl.name.0 b.1 in
    (eqb-true q x.path a.0, sym (space_true sp x.decl.space b.0), (λ i. record { 0 = sym n i }))

pub parts_in : (q : ℕ) (sp : Space) (name : Name) (x : Row) → x.path ≡ q → x.decl.space ≡ sp → x.decl.name ≡ name → is_in (slot q sp name) x ≡ true
parts_in q sp name x p s n =
    ap (λ z. z && (same_space sp x.decl.space && same_name name x.decl.name)) (eq-eqb q x.path (sym p))
    ∙ ap (λ z. same_space sp z && same_name name x.decl.name) s
    ∙ ap (λ z. z && same_name name x.decl.name) (space_itself sp)
    ∙ eq-eqb name.0 x.decl.name.0 (ap (λ (z : Name). z.0) (sym n))

prefix_length : (p q : List ℕ) → is_prefix p q ≡ true → length p ≤ length q
prefix_length [] q h = omega arith
prefix_length (a ∷ p) [] h = cc
prefix_length (a ∷ p) (b ∷ q) h =
    let x : (eqb a b ≡ true) × (is_prefix p q ≡ true) = and_both (eqb a b) (is_prefix p q) h in
    let l : length p ≤ length q = prefix_length p q x.1 in
    omega arith

prefix_whole : (p q : List ℕ) → is_prefix p q ≡ true → length q ≤ length p → p ≡ q
prefix_whole [] [] h l = refl
prefix_whole [] (b ∷ q) h l = absurd (omega (arith, l))
prefix_whole (a ∷ p) [] h l = cc
prefix_whole (a ∷ p) (b ∷ q) h l =
    let x : (eqb a b ≡ true) × (is_prefix p q ≡ true) = and_both (eqb a b) (is_prefix p q) h in
    let e : a ≡ b = eqb-true a b x.0 in
    let m : length q ≤ length p = omega (arith, l) in
    let r : p ≡ q = prefix_whole p q x.1 m in
    cc

pub row_at : (ps : List (List ℕ)) (xs : List Row) (j : ℕ) (e : Entry) → slice_get (map (entry_of ps) xs) j ≡ Some e → (x : Row) × (slice_get xs j ≡ Some x) × (e ≡ entry_of ps x)
row_at ps [] j e h = cc
row_at ps (x ∷ xs) zero e h = (x, refl, cc)
row_at ps (x ∷ xs) (suc j) e h = row_at ps xs j e h

pub at_row : (ps : List (List ℕ)) (xs : List Row) (j : ℕ) (x : Row) → slice_get xs j ≡ Some x → slice_get (map (entry_of ps) xs) j ≡ Some (entry_of ps x)
at_row ps [] j x h = cc
at_row ps (y ∷ xs) zero x h = (let e : y ≡ x = cc in ap (λ z. Some (entry_of ps z)) e)
at_row ps (y ∷ xs) (suc j) x h = at_row ps xs j x h

module _ (ps : List (List ℕ)) (place function : ℕ) (xs : List Row) (es : List (Slot × Ends)) (ls : List (Name × ℕ)) (placed : ArePlaced ps place function) (kept : AreFound ps xs es ls) (sp : Space) (name : Name) where
  abbrev pub here : List ℕ
  here = path_at ps place

  abbrev pub ents : List Entry
  ents = map (entry_of ps) xs

  -- of what is seen the row, whose scope encloses the place, and which is in the slot there
  pub seen_row : (j : ℕ) (e : Entry) → Sees here sp name ents j e → (x : Row) × (slice_get xs j ≡ Some x) × (e ≡ entry_of ps x) × Encloses ps x.path place × (is_in (slot x.path sp name) x ≡ true)
  seen_row j e h =
      let r : (x : Row) × (slice_get xs j ≡ Some x) × (e ≡ entry_of ps x) = row_at ps xs j e h.there in
      let same : e ≡ entry_of ps r.0 = r.2 in
      let v : is_prefix (path_at ps r.0.path) here ≡ true = subst (λ z. is_prefix z.path here ≡ true) same h.visible in
      let s : r.0.decl.space ≡ sp = subst (λ z. z.decl.space ≡ sp) same h.in_space in
      let n : r.0.decl.name ≡ name = subst (λ z. z.decl.name ≡ name) same h.named in
      (r.0, r.1, same, (kept.within j r.0 r.1, v), parts_in r.0.path sp name r.0 refl s n)

  -- a slot that has a row is found
  full : (q j : ℕ) (x : Row) → slice_get xs j ≡ Some x → is_in (slot q sp name) x ≡ true → find_slot (slot q sp name) es ≡ None → ⊥
  full q j x at is none =
      subst (Means 0 (slot q sp name) xs) (sym (kept.here (slot q sp name)) ∙ none) (means 0 (slot q sp name) xs) j x at is

  none_seen : IsNearest ps es place sp name None → SeesNone here sp name ents
  none_seen h j e s = (let r = seen_row j e s in full r.0.path j r.0 r.1 r.4 (h r.0.path r.3))

  some_seen : (e : Ends) → IsNearest ps es place sp name (Some e) → (i : ℕ) (f : Entry) → IsLookup here sp name ents i f → i ≡ e.last
  some_seen e h i f l =
      let q : ℕ = h.0 in
      let mean : Means 0 (slot q sp name) xs (Some e) = subst (Means 0 (slot q sp name) xs) (sym (kept.here (slot q sp name)) ∙ h.2) (means 0 (slot q sp name) xs) in
      let x : Row = mean.1 in
      let p : (q ≡ x.path) × (x.decl.space ≡ sp) × (x.decl.name ≡ name) = in_parts q sp name x mean.4 in
      let r = seen_row i f l.seen in
      let y : Row = r.0 in
      let vis : is_prefix (path_at ps x.path) here ≡ true = subst (λ z. is_prefix (path_at ps z) here ≡ true) p.0 h.1.1 in
      let best = l.best mean.0 (entry_of ps x) (record { there = at_row ps xs mean.0 x mean.3; visible = vis; in_space = p.1; named = p.2 }) in
      let around : is_prefix (path_at ps y.path) (path_at ps q) ≡ true = nearer (find_slot (slot y.path sp name) es) refl y.path i y r.1 r.3 r.4 in
      let shorter : length (path_at ps y.path) ≤ length (path_at ps q) = prefix_length (path_at ps y.path) (path_at ps q) around in
      let fd : depth f ≡ length (path_at ps y.path) = ap depth r.2 in
      let xd : length (path_at ps x.path) ≡ length (path_at ps q) = ap (λ z. length (path_at ps z)) (sym p.0) in
      let both : (depth (entry_of ps x) ≡ depth f) × (mean.0 ≤ i) = equal best (omega (arith, fd, xd, shorter)) in
      let longer : length (path_at ps q) ≤ length (path_at ps y.path) = omega (arith, fd, xd, both.0) in
      let same : y.path ≡ q = placed.distinct y.path q r.3.0 h.1.0 (prefix_whole (path_at ps y.path) (path_at ps q) around longer) in
      let inside : is_in (slot q sp name) y ≡ true = subst (λ z. is_in (slot z sp name) y ≡ true) same r.4 in
      let le : i ≤ mean.0 = mean.5 i y r.1 inside in
      let last : e.last ≡ 0 + mean.0 = mean.2 in
      omega (arith, both.1, le, last)
    where
      equal : {a b j k : ℕ} → (a < b) ⊎ ((a ≡ b) × (j ≤ k)) → b ≤ a → (a ≡ b) × (j ≤ k)
      equal (inl lt) le = absurd (omega (arith, lt, le))
      equal (inr both) le = both

      nearer : (o : Option Ends) → {q' : ℕ} → find_slot (slot q' sp name) es ≡ o → (q'' : ℕ) (j : ℕ) (y : Row) → slice_get xs j ≡ Some y → Encloses ps q' place → is_in (slot q' sp name) y ≡ true → is_prefix (path_at ps q') (path_at ps h.0) ≡ true
      nearer None {q'} none q'' j y at enc is = absurd (full q' j y at is none)
      nearer (Some g) {q'} some q'' j y at enc is = h.3 q' g enc some

  -- what is found nearest is what the name means
  pub nearest_is_lookup : (r : Option Ends) → IsNearest ps es place sp name r → option_map (λ e. e.last) r ≡ lookup here sp name ents
  nearest_is_lookup r h = by r (lookup here sp name ents) h (lookup_means here sp name ents)
    where
      by : (r : Option Ends) (o : Option ℕ) → IsNearest ps es place sp name r → MatchOption o (SeesNone here sp name ents) (λ i. (e : Entry) × IsLookup here sp name ents i e) → option_map (λ e. e.last) r ≡ o
      by None None h l = refl
      by None (Some i) h l = absurd (none_seen h i l.0 l.1.seen)
      by (Some e) None h l =
          let q : ℕ = h.0 in
          let mean : Means 0 (slot q sp name) xs (Some e) = subst (Means 0 (slot q sp name) xs) (sym (kept.here (slot q sp name)) ∙ h.2) (means 0 (slot q sp name) xs) in
          let p = in_parts q sp name mean.1 mean.4 in
          absurd (l mean.0 (entry_of ps mean.1) (record { there = at_row ps xs mean.0 mean.1 mean.3; visible = subst (λ z. is_prefix (path_at ps z) here ≡ true) p.0 h.1.1; in_space = p.1; named = p.2 }))
      by (Some e) (Some i) h l = ap Some (sym (some_seen e h i l.0 l.1))

-- where paths keep their numbers, rows keep their entries
pub rows_keep : (ps qs : List (List ℕ)) (xs : List Row) → Grows ps qs → ((i : ℕ) (x : Row) → slice_get xs i ≡ Some x → x.path < length ps) → map (entry_of qs) xs ≡ map (entry_of ps) xs
rows_keep ps qs [] g w = refl
rows_keep ps qs (x ∷ xs) g w =
    let e : path_at qs x.path ≡ path_at ps x.path = (g x.path (w 0 x refl)).1 in
    let r : map (entry_of qs) xs ≡ map (entry_of ps) xs = rows_keep ps qs xs g (λ i y at. w (suc i) y at) in
    λ j. record { path = e j; decl = x.decl } ∷ r j
