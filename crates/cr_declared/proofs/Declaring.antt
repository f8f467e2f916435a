-- One more declaration, and whether it clashes with an earlier one.
use Rattle.std.proofs.Common.{◌≡◌, ◌⊎◌, inl, inr, ℕ, ◌+◌, ◌<◌, ◌≤◌, Bool, true, false, not, ◌&&◌, ◌||◌, eqb, Option, Some, None, List, [], ◌∷◌, ◌++◌, length, map, refl, sym, ap, subst, ◌∙◌, arith, true≢false}
use Rattle.std.specs.Prelude.{slice_get}
use Rattle.std.specs.List.{list_any}
use Rattle.std.proofs.lemmas.Bool.{eqb-true, eq-eqb}
use Rattle.std.proofs.lemmas.Option.{slice_get_within}
use Rattle.std.proofs.lemmas.List.{map-append, length-map}
use Rattle.cr_base.specs.declared.token.Name.{Name}
use Rattle.cr_scope.specs.declared.Space.{Space}
use Rattle.cr_scope.specs.declared.Space.TheVariants as space
use Rattle.cr_scope.specs.declared.Linkage.{Linkage}
use Rattle.cr_scope.specs.declared.Linkage.TheVariants as linkage
use Rattle.cr_scope.specs.Declarations.{Entry, same_space, same_name}
use Rattle.cr_scope.specs.Linkage.{has_linkage, is_linked, linked}
use Rattle.cr_scope.specs.Redeclaration.{same_path, may_repeat, are_opposite, clashes}
use Rattle.cr_scope.proofs.Paths.{and_both, both_ways, same_path_itself, same_path_true}
use Rattle.cr_paths.specs.Paths.{path_at, AreDistinct}
use Rattle.cr_declared.specs.declared.rows.Row.{Row}
use Rattle.cr_declared.specs.declared.rows.Slot.{Slot}
use Rattle.cr_declared.specs.declared.table.Ends.{Ends}
use Rattle.cr_declared.specs.Rows.{same_slot, slot_of, is_in, entry_of, AreApart, AreFormed, IsFormed}
use Rattle.cr_declared.specs.Kept.{find_slot, find_linked, before, behind, ends_from, or_else, repeats_wrong, links_wrong, last_row, row_at, AreFound}
use Rattle.cr_declared.proofs.First.{end_at, any_at, at_any, IsFirst, first_position, position_means, position_more}
use Rattle.cr_declared.proofs.Looked.{Means, means, in_parts, parts_in, space_itself, at_row}
use Rattle.cr_declared.proofs.Looked as looked
use Rattle.cr_declared.proofs.Clashing.{clashes_last, clashes_linked}

-- ---- small facts

turned : (a b : ℕ) → eqb a b ≡ eqb b a
turned a b = both_ways (eqb a b) (eqb b a) (λ h. eq-eqb b a (sym (eqb-true a b h))) (λ h. eq-eqb a b (sym (eqb-true b a h)))

spaces_turned : (a b : Space) → same_space a b ≡ same_space b a
spaces_turned space.Label space.Label = refl
spaces_turned space.Label space.Tag = refl
spaces_turned space.Label space.Ordinary = refl
spaces_turned space.Tag space.Label = refl
spaces_turned space.Tag space.Tag = refl
spaces_turned space.Tag space.Ordinary = refl
spaces_turned space.Ordinary space.Label = refl
spaces_turned space.Ordinary space.Tag = refl
spaces_turned space.Ordinary space.Ordinary = refl

pub slots_turned : (a b : Slot) → same_slot a b ≡ same_slot b a
slots_turned a b = λ j. turned a.path b.path j && (spaces_turned a.space b.space j && turned a.name.0 b.name.0 j)

or_right : (a b : Bool) → b ≡ true → (a || b) ≡ true
or_right true b h = refl
or_right false b h = h

or_left : (a b : Bool) → a ≡ true → (a || b) ≡ true
or_left true b h = refl
or_left false b h = absurd (true≢false (sym h))

or_cases : (a b : Bool) → (a || b) ≡ true → (a ≡ true) ⊎ (b ≡ true)
or_cases true b h = inl refl
or_cases false b h = inr h

not_true : (a : Bool) → not a ≡ true → a ≡ false
not_true true h = absurd (true≢false (sym h))
not_true false h = refl

opposite_linked : (a b : Linkage) → are_opposite a b ≡ true → has_linkage b ≡ true
opposite_linked linkage.Internal linkage.External h = refl
opposite_linked linkage.External linkage.Internal h = refl
opposite_linked _ _ h = absurd (true≢false (sym h))

-- ---- the ends of a slot

pub ends_more : (n : ℕ) (s : Slot) (xs : List Row) (x : Row) → ends_from n s (xs ++ x ∷ []) ≡ behind (is_in s x) (n + length xs) (ends_from n s xs)
ends_more n s [] x = by (is_in s x)
  where
    by : (b : Bool) → before b n None ≡ behind b (n + 0) None
    by true = (let e : n ≡ n + 0 = omega arith in λ j. Some (record { first = e j; last = e j }))
    by false = refl
ends_more n s (y ∷ xs) x =
    ap (before (is_in s y) n) (ends_more (n + 1) s xs x) ∙ by (is_in s y) (is_in s x) (ends_from (n + 1) s xs)
  where
    e : (n + 1) + length xs ≡ n + length (y ∷ xs)
    e = omega arith

    by : (a b : Bool) (r : Option Ends) → before a n (behind b ((n + 1) + length xs) r) ≡ behind b (n + length (y ∷ xs)) (before a n r)
    by true true None = (λ j. Some (record { first = n; last = e j }))
    by true true (Some d) = (λ j. Some (record { first = n; last = e j }))
    by true false None = refl
    by true false (Some d) = refl
    by false true None = (λ j. Some (record { first = e j; last = e j }))
    by false true (Some d) = (λ j. Some (record { first = d.first; last = e j }))
    by false false r = refl

-- ---- one more declaration

pub apart_more : (es : List Entry) (e : Entry) → AreApart es → list_any (clashes e) es ≡ false → AreApart (es ++ e ∷ [])
apart_more es e apart none i j x y ax ay lt = by (end_at es e x i ax) (end_at es e y j ay)
  where
    by : (slice_get es i ≡ Some x) ⊎ ((x ≡ e) × (i ≡ length es)) → (slice_get es j ≡ Some y) ⊎ ((y ≡ e) × (j ≡ length es)) → clashes y x ≡ false
    by (inl a) (inl b) = apart i j x y a b lt
    by (inl a) (inr b) = ap (λ z. clashes z x) b.0 ∙ free (clashes e x) refl
      where
        free : (c : Bool) → clashes e x ≡ c → c ≡ false
        free true h = absurd (true≢false (sym (at_any (clashes e) es i x a h) ∙ none))
        free false h = refl
    by (inr a) (inl b) = absurd (let l : j < length es = within b in omega (arith, a.1, l))
      where
        within : slice_get es j ≡ Some y → j < length es
        within h = slice_get_within es j y h
    by (inr a) (inr b) = absurd (omega (arith, a.1, b.1, lt))

pub formed_more : (es : List Entry) (e : Entry) → AreFormed es → IsFormed e.decl → AreFormed (es ++ e ∷ [])
formed_more es e formed new i x at = elim (end_at es e x i at) [
  | inl h ↦ formed i x h
  | inr h ↦ subst (λ z. IsFormed z.decl) (sym h.0) new
]

-- the tables after one more row, which clashes with none
pub found_more : (ps : List (List ℕ)) (rows : List Row) (es es' : List (Slot × Ends)) (ls ls' : List (Name × ℕ)) (x : Row) (n : ℕ) → AreFound ps rows es ls
    → x.path < length ps → n ≡ length rows → list_any (clashes (entry_of ps x)) (map (entry_of ps) rows) ≡ false → IsFormed x.decl
    → ((a : Slot) → find_slot a es' ≡ behind (same_slot (slot_of x) a) n (find_slot a es))
    → ((a : Name) → find_linked a ls' ≡ or_else (has_linkage x.decl.linkage && same_name x.decl.name a) n (find_linked a ls))
    → AreFound ps (rows ++ x ∷ []) es' ls'
found_more ps rows es es' ls ls' x n h lt count none formed slots names = record {
  within = λ i y at. elim (end_at rows x y i at) [ inl a ↦ h.within i y a | inr a ↦ subst (λ z. z.path < length ps) (sym a.0) lt ];
  here = λ s.
      slots s
      ∙ ap (λ b. behind b n (find_slot s es)) (slots_turned (slot_of x) s)
      ∙ ap (λ k. behind (is_in s x) k (find_slot s es)) count
      ∙ ap (behind (is_in s x) (length rows)) (h.here s)
      ∙ sym (ends_more 0 s rows x ∙ ap (λ k. behind (is_in s x) k (ends_from 0 s rows)) (zero_more (length rows)));
  linked = λ name.
      names name
      ∙ ap (λ k. or_else (passes name) k (find_linked name ls)) (count ∙ sym (length-map rows (entry_of ps)))
      ∙ ap (or_else (passes name) (length (map (entry_of ps) rows))) (h.linked name)
      ∙ sym (position_more (λ e. is_linked e && same_name e.decl.name name) (map (entry_of ps) rows) (entry_of ps x))
      ∙ ap (linked name) (sym more);
  apart = subst AreApart (sym more) (apart_more (map (entry_of ps) rows) (entry_of ps x) h.apart none);
  formed = subst AreFormed (sym more) (formed_more (map (entry_of ps) rows) (entry_of ps x) h.formed formed);
}
  where
    passes : Name → Bool
    passes name = has_linkage x.decl.linkage && same_name x.decl.name name

    more : map (entry_of ps) (rows ++ x ∷ []) ≡ map (entry_of ps) rows ++ entry_of ps x ∷ []
    more = map-append (entry_of ps) rows (x ∷ [])

    zero_more : (k : ℕ) → 0 + k ≡ k
    zero_more k = omega arith

-- ---- clashes

module _ (ps : List (List ℕ)) (rows : List Row) (es : List (Slot × Ends)) (ls : List (Name × ℕ)) (found : AreFound ps rows es ls) (distinct : AreDistinct ps)
    (x : Row) (there : x.path < length ps) where
  abbrev ents : List Entry
  ents = map (entry_of ps) rows

  abbrev d : Entry
  d = entry_of ps x

  abbrev by_last : Bool
  by_last = repeats_wrong x.decl (last_row rows (find_slot (slot_of x) es))

  abbrev by_linked : Bool
  by_linked = links_wrong x.decl (row_at rows (find_linked x.decl.name ls))

  -- parts of a test
  clash_parts : (e : Entry) → clashes d e ≡ true
      → (same_name x.decl.name e.decl.name ≡ true)
      × (((same_path d.path e.path ≡ true) × (same_space x.decl.space e.decl.space ≡ true) × (may_repeat x.decl e.decl ≡ false)) ⊎ (are_opposite x.decl.linkage e.decl.linkage ≡ true))
  clash_parts e h =
      let a = and_both (same_name x.decl.name e.decl.name) ((same_path d.path e.path && (same_space x.decl.space e.decl.space && not (may_repeat x.decl e.decl))) || are_opposite x.decl.linkage e.decl.linkage) h in (
        a.0,
        elim (or_cases (same_path d.path e.path && (same_space x.decl.space e.decl.space && not (may_repeat x.decl e.decl))) (are_opposite x.decl.linkage e.decl.linkage) a.1) [
          | inl p ↦ (let q = and_both (same_path d.path e.path) (same_space x.decl.space e.decl.space && not (may_repeat x.decl e.decl)) p in
              let r = and_both (same_space x.decl.space e.decl.space) (not (may_repeat x.decl e.decl)) q.1 in
              inl (q.0, r.0, not_true (may_repeat x.decl e.decl) r.1))
          | inr o ↦ inr o
        ],
      )

  same_slot_clash : (e : Entry) → same_name x.decl.name e.decl.name ≡ true → same_path d.path e.path ≡ true → same_space x.decl.space e.decl.space ≡ true → not (may_repeat x.decl e.decl) ≡ true → clashes d e ≡ true
  same_slot_clash e n p s r =
      ap (λ b. b && ((same_path d.path e.path && (same_space x.decl.space e.decl.space && not (may_repeat x.decl e.decl))) || are_opposite x.decl.linkage e.decl.linkage)) n
      ∙ or_left (same_path d.path e.path && (same_space x.decl.space e.decl.space && not (may_repeat x.decl e.decl))) (are_opposite x.decl.linkage e.decl.linkage)
      (ap (λ b. b && (same_space x.decl.space e.decl.space && not (may_repeat x.decl e.decl))) p ∙ ap (λ b. b && not (may_repeat x.decl e.decl)) s ∙ r)

  opposite_clash : (e : Entry) → same_name x.decl.name e.decl.name ≡ true → are_opposite x.decl.linkage e.decl.linkage ≡ true → clashes d e ≡ true
  opposite_clash e n o =
      ap (λ b. b && ((same_path d.path e.path && (same_space x.decl.space e.decl.space && not (may_repeat x.decl e.decl))) || are_opposite x.decl.linkage e.decl.linkage)) n
      ∙ or_right (same_path d.path e.path && (same_space x.decl.space e.decl.space && not (may_repeat x.decl e.decl))) (are_opposite x.decl.linkage e.decl.linkage) o

  mean : Means 0 (slot_of x) rows (find_slot (slot_of x) es)
  mean = subst (Means 0 (slot_of x) rows) (sym (found.here (slot_of x))) (means 0 (slot_of x) rows)

  last_at : (e : Ends) (h : Means 0 (slot_of x) rows (Some e)) → slice_get rows e.last ≡ Some h.1
  last_at e h = (let l : e.last ≡ 0 + h.0 = h.2 in let s : e.last ≡ h.0 = omega arith in ap (slice_get rows) s ∙ h.3)

  -- a row in the slot is a declaration there
  in_slot : (y : Row) → is_in (slot_of x) y ≡ true → (same_name x.decl.name y.decl.name ≡ true) × (same_path d.path (entry_of ps y).path ≡ true) × (same_space x.decl.space y.decl.space ≡ true)
  in_slot y is =
      let p = in_parts x.path x.decl.space x.decl.name y is in (
        eq-eqb x.decl.name.0 y.decl.name.0 (ap (λ (n : Name). n.0) (sym p.2)),
        subst (λ q. same_path (path_at ps x.path) q ≡ true) (ap (path_at ps) p.0) (same_path_itself (path_at ps x.path)),
        subst (λ s. same_space x.decl.space s ≡ true) (sym p.1) (space_itself x.decl.space),
      )

  -- ---- from the tables to a declaration

  from_last : by_last ≡ true → list_any (clashes d) ents ≡ true
  from_last = by (find_slot (slot_of x) es) mean
    where
      by : (r : Option Ends) → Means 0 (slot_of x) rows r → repeats_wrong x.decl (last_row rows r) ≡ true → list_any (clashes d) ents ≡ true
      by None h w = absurd (true≢false (sym w))
      by (Some e) h w =
          let y : Row = h.1 in
          let q = in_slot y h.4 in
          let wrong : not (may_repeat x.decl y.decl) ≡ true = subst (λ o. repeats_wrong x.decl o ≡ true) (last_at e h) w in
          at_any (clashes d) ents h.0 (entry_of ps y) (at_row ps rows h.0 y h.3) (same_slot_clash (entry_of ps y) q.0 q.1 q.2 wrong)

  abbrev links : Entry → Bool
  links e = is_linked e && same_name e.decl.name x.decl.name

  from_linked : by_linked ≡ true → list_any (clashes d) ents ≡ true
  from_linked = by (find_linked x.decl.name ls) (found.linked x.decl.name)
    where
      by : (o : Option ℕ) → o ≡ linked x.decl.name ents → links_wrong x.decl (row_at rows o) ≡ true → list_any (clashes d) ents ≡ true
      by None e w = absurd (true≢false (sym w))
      by (Some i) e w =
          let m : (g : Entry) × IsFirst links ents i g = position_means links ents i (sym e) in
          let r = looked.row_at ps rows i m.0 m.1.0 in
          let wrong : are_opposite x.decl.linkage r.0.decl.linkage ≡ true = subst (λ o. links_wrong x.decl o ≡ true) r.1 w in
          let n = and_both (is_linked m.0) (same_name m.0.decl.name x.decl.name) m.1.1 in
          let same : same_name x.decl.name r.0.decl.name ≡ true = turned x.decl.name.0 r.0.decl.name.0 ∙ subst (λ (z : Entry). same_name z.decl.name x.decl.name ≡ true) r.2 n.1 in
          at_any (clashes d) ents i (entry_of ps r.0) (at_row ps rows i r.0 r.1) (opposite_clash (entry_of ps r.0) same wrong)

  -- ---- and back

  to_last : (j : ℕ) (y : Row) → slice_get rows j ≡ Some y → same_name x.decl.name y.decl.name ≡ true → same_path d.path (entry_of ps y).path ≡ true → same_space x.decl.space y.decl.space ≡ true → may_repeat x.decl y.decl ≡ false → by_last ≡ true
  to_last j y at name path space other = by (find_slot (slot_of x) es) mean
    where
      same : x.path ≡ y.path
      same = distinct x.path y.path there (found.within j y at) (same_path_true (path_at ps x.path) (path_at ps y.path) path)

      is : is_in (slot_of x) y ≡ true
      is =
          ap (λ b. b && (same_space x.decl.space y.decl.space && same_name x.decl.name y.decl.name)) (eq-eqb x.path y.path same)
          ∙ ap (λ b. b && same_name x.decl.name y.decl.name) space
          ∙ name

      by : (r : Option Ends) → Means 0 (slot_of x) rows r → repeats_wrong x.decl (last_row rows r) ≡ true
      by None h = absurd (h j y at is)
      by (Some e) h =
          let z : Row = h.1 in
          let q = in_slot z h.4 in
          let n : same_name z.decl.name y.decl.name ≡ true = subst (λ (k : Name). same_name k y.decl.name ≡ true) (sym (in_parts x.path x.decl.space x.decl.name z h.4).2) name in
          let p : same_path (path_at ps z.path) (path_at ps y.path) ≡ true = subst (λ k. same_path (path_at ps k) (path_at ps y.path) ≡ true) (in_parts x.path x.decl.space x.decl.name z h.4).0 path in
          let s : same_space z.decl.space y.decl.space ≡ true = subst (λ k. same_space k y.decl.space ≡ true) (sym (in_parts x.path x.decl.space x.decl.name z h.4).1) space in
          let no : may_repeat x.decl z.decl ≡ false =
          clashes_last ents found.apart x.decl j h.0 (entry_of ps y) (entry_of ps z) (at_row ps rows j y at) (at_row ps rows h.0 z h.3) (h.5 j y at is) n p s other in
          ap (repeats_wrong x.decl) (last_at e h) ∙ ap not no

  to_linked : (j : ℕ) (y : Row) → slice_get rows j ≡ Some y → same_name x.decl.name y.decl.name ≡ true → are_opposite x.decl.linkage y.decl.linkage ≡ true → by_linked ≡ true
  to_linked j y at name opposite = by (find_linked x.decl.name ls) (found.linked x.decl.name)
    where
      passes : links (entry_of ps y) ≡ true
      passes = ap (λ b. b && same_name y.decl.name x.decl.name) (opposite_linked x.decl.linkage y.decl.linkage opposite) ∙ turned y.decl.name.0 x.decl.name.0 ∙ name

      first : (k : ℕ) × (g : Entry) × (linked x.decl.name ents ≡ Some k) × IsFirst links ents k g × (k ≤ j)
      first = first_position links ents j (entry_of ps y) (at_row ps rows j y at) passes

      by : (o : Option ℕ) → o ≡ linked x.decl.name ents → links_wrong x.decl (row_at rows o) ≡ true
      by None e = (let no : None ≡ Some first.0 = e ∙ first.2 in cc)
      by (Some i) e =
          let k : Some i ≡ Some first.0 = e ∙ first.2 in
          let same : i ≡ first.0 = cc in
          let r = looked.row_at ps rows first.0 first.1 first.3.0 in
          let n = and_both (is_linked first.1) (same_name first.1.decl.name x.decl.name) first.3.1 in
          let has : has_linkage first.1.decl.linkage ≡ true = n.0 in
          let names : same_name y.decl.name first.1.decl.name ≡ true =
          eq-eqb y.decl.name.0 first.1.decl.name.0 (sym (eqb-true x.decl.name.0 y.decl.name.0 name) ∙ sym (eqb-true first.1.decl.name.0 x.decl.name.0 n.1)) in
          let wrong : are_opposite x.decl.linkage first.1.decl.linkage ≡ true =
          clashes_linked ents found.apart x.decl first.0 j (entry_of ps y) first.1 first.3.0 (at_row ps rows j y at) first.4 names has opposite in
          ap (λ o. links_wrong x.decl (slice_get rows o)) same ∙ ap (links_wrong x.decl) r.1 ∙ subst (λ (z : Entry). are_opposite x.decl.linkage z.decl.linkage ≡ true) r.2 wrong

  -- a declaration clashes with an earlier one just where the tables say so
  pub clash_is : list_any (clashes d) ents ≡ (by_last || by_linked)
  clash_is = both_ways (list_any (clashes d) ents) (by_last || by_linked) to from
    where
      to : list_any (clashes d) ents ≡ true → (by_last || by_linked) ≡ true
      to h =
          let a : (j : ℕ) × (e : Entry) × (slice_get ents j ≡ Some e) × (clashes d e ≡ true) = any_at (clashes d) ents h in
          let r = looked.row_at ps rows a.0 a.1 a.2 in
          let c : clashes d (entry_of ps r.0) ≡ true = ap (clashes d) (sym r.2) ∙ a.3 in
          let p = clash_parts (entry_of ps r.0) c in
          elim p.1 [
            | inl q ↦ or_left by_last by_linked (to_last a.0 r.0 r.1 p.0 q.0 q.1 q.2)
            | inr q ↦ or_right by_last by_linked (to_linked a.0 r.0 r.1 p.0 q)
          ]

      from : (by_last || by_linked) ≡ true → list_any (clashes d) ents ≡ true
      from h = elim (or_cases by_last by_linked h) [ inl q ↦ from_last q | inr q ↦ from_linked q ]
