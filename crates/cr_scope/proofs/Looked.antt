-- The function lookup gives what IsLookup says.
use Rattle.std.proofs.Common.{◌≡◌, ℕ, zero, suc, ◌+◌, ◌<◌, ◌≤◌, ◌⊎◌, inl, inr, Bool, true, false, cond, ◌&&◌, eqb, ltb, Option, Some, None, List, [], ◌∷◌, map, length, refl, sym, ◌∙◌, ap, subst, arith}
use Rattle.std.specs.Prelude.{slice_get, option_map, MatchOption}
use Rattle.std.proofs.lemmas.Bool.{ltb-true, ltb-false, eqb-true, eq-eqb, cases_lt}
use Rattle.cr_scope.specs.declared.Space.{Space}
use Rattle.cr_scope.specs.declared.Space.TheVariants as space
use Rattle.cr_scope.specs.Declarations.{Entry, depth, is_prefix, same_space, is_seen, deeper, last_deepest, depth_seen, lookup, visible, same_name}
use Rattle.cr_scope.specs.Meaning.{Sees, IsLookup, SeesNone}
use Rattle.cr_base.specs.declared.Name.{Name}
use Rattle.cr_scope.proofs.Paths.{and_both}
use Rattle.cr_scope.proofs.First.{first_is}

-- the place k in the list has the depth d, and no later one is as deep and no other deeper
pub record Best (n : ℕ) (cs : List (Option ℕ)) (m d : ℕ) : Type 0 where
  pub place : ℕ
  pub number : m ≡ n + place
  pub there : slice_get cs place ≡ Some (Some d)
  pub best : (j x : ℕ) → slice_get cs j ≡ Some (Some x) → (x < d) ⊎ ((x ≡ d) × (j ≤ place))

abbrev pub Says : ℕ → List (Option ℕ) → Option (ℕ × ℕ) → Type 0
Says n cs None = (j x : ℕ) → slice_get cs j ≡ Some (Some x) → ⊥
Says n cs (Some p) = Best n cs p.0 p.1

pub next_best_at : (n : ℕ) (c : Option ℕ) (cs : List (Option ℕ)) (m d : ℕ) → ((x : ℕ) → c ≡ Some x → (x < d) ⊎ (x ≡ d)) → (b : Best (n + 1) cs m d) → (j x : ℕ) → slice_get (c ∷ cs) j ≡ Some (Some x) → (x < d) ⊎ ((x ≡ d) × (j ≤ suc b.place))
next_best_at n c cs m d h b zero x e =
    let f : c ≡ Some x = cc in
    elim (h x f) [ inl k ↦ inl k | inr k ↦ inr (k, omega arith) ]
next_best_at n c cs m d h b (suc j) x e = elim (b.best j x e) [ inl k ↦ inl k | inr k ↦ inr (k.0, omega (arith, k.1)) ]

pub next_best : (n : ℕ) (c : Option ℕ) (cs : List (Option ℕ)) (m d : ℕ) → ((x : ℕ) → c ≡ Some x → (x < d) ⊎ (x ≡ d)) → Best (n + 1) cs m d → Best n (c ∷ cs) m d
next_best n c cs m d h b =
    let e : m ≡ (n + 1) + b.place = b.number in
    record {
      place = suc b.place;
      number = omega arith;
      there = b.there;
      best = next_best_at n c cs m d h b;
    }

pub none_at : (cs : List (Option ℕ)) → ((j x : ℕ) → slice_get cs j ≡ Some (Some x) → ⊥) → (j x : ℕ) → slice_get (None ∷ cs) j ≡ Some (Some x) → ⊥
none_at cs s zero x e = cc
none_at cs s (suc j) x e = s j x e

pub only_at : (d : ℕ) (cs : List (Option ℕ)) → ((j x : ℕ) → slice_get cs j ≡ Some (Some x) → ⊥) → (j x : ℕ) → slice_get (Some d ∷ cs) j ≡ Some (Some x) → (x < d) ⊎ ((x ≡ d) × (j ≤ 0))
only_at d cs s zero x e = (let f : x ≡ d = cc in inr (f, omega arith))
only_at d cs s (suc j) x e = absurd (s j x e)

pub first_at : (n d : ℕ) (cs : List (Option ℕ)) (m g : ℕ) → g < d → Best (n + 1) cs m g → (j x : ℕ) → slice_get (Some d ∷ cs) j ≡ Some (Some x) → (x < d) ⊎ ((x ≡ d) × (j ≤ 0))
first_at n d cs m g lt b zero x e = (let f : x ≡ d = cc in inr (f, omega arith))
first_at n d cs m g lt b (suc j) x e = elim (b.best j x e) [ inl k ↦ inl (omega arith) | inr k ↦ inl (let q : x ≡ g = k.0 in omega arith) ]

pub says_both : (n d : ℕ) (cs : List (Option ℕ)) (p : ℕ × ℕ) → Best (n + 1) cs p.0 p.1 → (t : Bool) → ltb p.1 d ≡ t → Says n (Some d ∷ cs) (cond t (Some (n, d)) (Some p))
says_both n d cs p s true h =
    record { place = 0; number = omega arith; there = refl; best = first_at n d cs p.0 p.1 (ltb-true p.1 d h) s }
says_both n d cs p s false h =
    let le : d ≤ p.1 = ltb-false p.1 d h in
    next_best n (Some d) cs p.0 p.1 (λ x e. let f : x ≡ d = cc in elim (cases_lt x p.1) [ inl k ↦ inl k | inr k ↦ inr (omega arith) ]) s

pub says_by : (n : ℕ) (c : Option ℕ) (cs : List (Option ℕ)) (r : Option (ℕ × ℕ)) → Says (n + 1) cs r → Says n (c ∷ cs) (deeper (option_map (λ d. (n, d)) c) r)
says_by n None cs None s = none_at cs s
says_by n None cs (Some p) s = next_best n None cs p.0 p.1 (λ x h. cc) s
says_by n (Some d) cs None s = record { place = 0; number = omega arith; there = refl; best = only_at d cs s }
says_by n (Some d) cs (Some p) s = says_both n d cs p s (ltb p.1 d) refl

pub says : (n : ℕ) (cs : List (Option ℕ)) → Says n cs (last_deepest n cs)
says n [] = λ j x h. cc
says n (c ∷ cs) = says_by n c cs (last_deepest (n + 1) cs) (says (n + 1) cs)

-- a depth_seen is an entry that is seen
pub one_space : (a b : Space) → same_space a b ≡ true → a ≡ b
one_space space.Label space.Label h = refl
one_space space.Tag space.Tag h = refl
one_space space.Ordinary space.Ordinary h = refl
one_space _ _ h = cc

pub space_itself : (a : Space) → same_space a a ≡ true
space_itself space.Label = refl
space_itself space.Tag = refl
space_itself space.Ordinary = refl

pub one_name : (a b : Name) → same_name a b ≡ true → a ≡ b
one_name a b h = ap (λ n. record { 0 = n }) (eqb-true a.0 b.0 h)

pub same_name_itself : (a b : Name) → a ≡ b → same_name a b ≡ true
same_name_itself a b e = eq-eqb a.0 b.0 (ap (λ (n : Name). n.0) e)

pub chosen_parts : {X : Type 0} (b : Bool) (x y : X) → cond b (Some x) None ≡ Some y → (b ≡ true) × (x ≡ y)
chosen_parts true x y h = (refl, cc)
chosen_parts false x y h = cc

pub seen_parts : (present : List ℕ) (s : Space) (name : Name) (e : Entry) (x : ℕ) → depth_seen present s name e ≡ Some x → (is_prefix e.path present ≡ true) × (e.decl.space ≡ s) × (e.decl.name ≡ name) × (depth e ≡ x)
seen_parts present s name e x h =
    let a : (is_seen present s name e ≡ true) × (depth e ≡ x) = chosen_parts (is_seen present s name e) (depth e) x h in
    let b : (is_prefix e.path present ≡ true) × ((same_space e.decl.space s && same_name e.decl.name name) ≡ true) = and_both (is_prefix e.path present) (same_space e.decl.space s && same_name e.decl.name name) a.0 in
    let d : (same_space e.decl.space s ≡ true) × (same_name e.decl.name name ≡ true) = and_both (same_space e.decl.space s) (same_name e.decl.name name) b.1 in
    (b.0, one_space e.decl.space s d.0, one_name e.decl.name name d.1, a.1)

pub parts_seen : (present : List ℕ) (s : Space) (name : Name) (e : Entry) → is_prefix e.path present ≡ true → e.decl.space ≡ s → e.decl.name ≡ name → depth_seen present s name e ≡ Some (depth e)
parts_seen present s name e p q r =
    let a : same_space e.decl.space s ≡ true = ap (λ z. same_space e.decl.space z) (sym q) ∙ space_itself e.decl.space in
    let b : is_seen present s name e ≡ true =
    ap (λ z. z && (same_space e.decl.space s && same_name e.decl.name name)) p ∙ ap (λ z. z && same_name e.decl.name name) a ∙ same_name_itself e.decl.name name r in
    ap (λ z. cond z (Some (depth e)) None) b

pub entry_at : (f : Entry → Option ℕ) (es : List Entry) (j x : ℕ) → slice_get (map f es) j ≡ Some (Some x) → (e : Entry) × (slice_get es j ≡ Some e) × (f e ≡ Some x)
entry_at f [] j x h = cc
entry_at f (e ∷ es) zero x h = (e, refl, cc)
entry_at f (e ∷ es) (suc j) x h = entry_at f es j x h

pub at_entry : (f : Entry → Option ℕ) (es : List Entry) (j x : ℕ) (e : Entry) → slice_get es j ≡ Some e → f e ≡ Some x → slice_get (map f es) j ≡ Some (Some x)
at_entry f [] j x e h g = cc
at_entry f (a ∷ es) zero x e h g = let k : a ≡ e = cc in ap (λ z. Some (f z)) k ∙ ap Some g
at_entry f (a ∷ es) (suc j) x e h g = at_entry f es j x e h g

module _ (present : List ℕ) (s : Space) (name : Name) (es : List Entry) where
  abbrev pub cs : List (Option ℕ)
  cs = map (depth_seen present s name) es

  pub sees_at : (j : ℕ) (e : Entry) → Sees present s name es j e → slice_get cs j ≡ Some (Some (depth e))
  sees_at j e h = at_entry (depth_seen present s name) es j (depth e) e h.there (parts_seen present s name e h.visible h.in_space h.named)

  pub at_sees : (j x : ℕ) → slice_get cs j ≡ Some (Some x) → (e : Entry) × Sees present s name es j e × (depth e ≡ x)
  at_sees j x h =
      let f : (e : Entry) × (slice_get es j ≡ Some e) × (depth_seen present s name e ≡ Some x) = entry_at (depth_seen present s name) es j x h in
      let g : (is_prefix f.0.path present ≡ true) × (f.0.decl.space ≡ s) × (f.0.decl.name ≡ name) × (depth f.0 ≡ x) = seen_parts present s name f.0 x f.2 in
      (f.0, record { there = f.1; visible = g.0; in_space = g.1; named = g.2 }, g.3)

  pub best_is : (m d : ℕ) → Best 0 cs m d → (e : Entry) × IsLookup present s name es m e
  best_is m d b =
      let n : m ≡ 0 + b.place = b.number in
      let z : b.place ≡ m = omega arith in
      let g : (e : Entry) × Sees present s name es b.place e × (depth e ≡ d) = at_sees b.place d b.there in (
        g.0,
        record {
          seen = (let P : ℕ → Type 0 = λ k. Sees present s name es k g.0 in subst P z g.1);
          best = λ j f h. (let q : depth g.0 ≡ d = g.2 in elim (b.best j (depth f) (sees_at j f h)) [ inl k ↦ inl (omega arith) | inr k ↦ inr (k.0 ∙ sym g.2, omega (arith, k.1)) ]);
        },
      )

  abbrev pub Means : Option (ℕ × ℕ) → Type 0
  Means None = SeesNone present s name es
  Means (Some p) = (e : Entry) × IsLookup present s name es p.0 e

  pub means_by : (r : Option (ℕ × ℕ)) → Says 0 cs r → Means r
  means_by None h = λ j e g. h j (depth e) (sees_at j e g)
  means_by (Some p) h = best_is p.0 p.1 h

  abbrev pub MeansOne : Option ℕ → Type 0
  MeansOne r = MatchOption r (SeesNone present s name es) (λ i. (e : Entry) × IsLookup present s name es i e)

  pub means_one : (r : Option (ℕ × ℕ)) → Means r → MeansOne (option_map (λ x. x.0) r)
  means_one None h = h
  means_one (Some p) h = h

  -- what lookup answers
  pub lookup_means : MeansOne (lookup present s name es)
  lookup_means = means_one (last_deepest 0 cs) (means_by (last_deepest 0 cs) (says 0 cs))

  pub prefix_length : (p q : List ℕ) → is_prefix p q ≡ true → length p ≤ length q
  prefix_length [] q h = omega arith
  prefix_length (a ∷ p) [] h = cc
  prefix_length (a ∷ p) (b ∷ q) h =
      let x : (eqb a b ≡ true) × (is_prefix p q ≡ true) = and_both (eqb a b) (is_prefix p q) h in
      let l : length p ≤ length q = prefix_length p q x.1 in
      omega arith

  -- no visible declaration is deeper than the present scope
  pub none_deeper : (j x : ℕ) → slice_get cs j ≡ Some (Some x) → x ≤ length present
  none_deeper j x h =
      let g : (e : Entry) × Sees present s name es j e × (depth e ≡ x) = at_sees j x h in
      let l : depth g.0 ≤ length present = prefix_length g.0.path present g.1.visible in
      let e : depth g.0 ≡ x = g.2 in
      omega arith

  pub lookup_first : lookup present s name es ≡ slice_get (visible present s name es) 0
  lookup_first = first_is (length present) cs none_deeper
