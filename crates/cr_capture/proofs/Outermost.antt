-- The outermost typedef of a name, as it is looked for.
use Rattle.std.proofs.Common.{◌≡◌, ℕ, ◌<◌, ◌≤◌, ◌⊎◌, inl, inr, Bool, true, false, min, Option, Some, None, List, [], ◌∷◌, refl, sym, ◌∙◌, ap, subst, arith}
use Rattle.std.specs.Prelude.{All, Contains, MatchOption}
use Rattle.std.proofs.lemmas.Bool.{cases_lt}
use Rattle.cr_base.specs.declared.Name.{Name}
use Rattle.cr_scope.specs.declared.Space.TheVariants as space
use Rattle.cr_scope.specs.declared.DeclNo.{DeclNo}
use Rattle.cr_scope.specs.Declarations.{Entry, Flat, depth, visible, number, decl_at, depth_at}
use Rattle.cr_scope.specs.declared.Decl.{Decl}
use Rattle.cr_scope.specs.Meaning.{VisibleMeans}
use Rattle.cr_capture.specs.Conflicts.{IsEntry, Shows}
use Rattle.cr_capture.specs.Finding.{is_typedef, least, IsOutermost, HasNoTypedef}
use Rattle.cr_capture.proofs.Found.{none_in, rest_given, first_or, is_first, is_later}
use Rattle.cr_capture.proofs.Sought.{one_entry, entry_of, depth_of}

-- o is the least depth of a typedef among those of all that aren't left
pub record IsLeast (count : ℕ) (f : Flat) (all rest : List ℕ) (o : Option ℕ) : Type 0 where
  pub given : All (λ n. n < count) rest
  pub within : (n : ℕ) → Contains rest n → Contains all n
  pub found : (n : ℕ) → o ≡ Some n → (d : DeclNo) × (e : Entry) × Contains all (number d) × IsEntry f d e × (is_typedef e.decl.kind ≡ true) × (depth e ≡ n)
  pub below : (d : DeclNo) (e : Entry) → Contains all (number d) → IsEntry f d e → is_typedef e.decl.kind ≡ true → Contains rest (number d) ⊎ ((n : ℕ) × (o ≡ Some n) × (n ≤ depth e))

pub least_begins : (count : ℕ) (f : Flat) (all rest : List ℕ) (o : Option ℕ) → All (λ n. n < count) rest → rest ≡ all → o ≡ None → IsLeast count f all rest o
least_begins count f all rest o given e none =
    record {
      given = given;
      within = λ n h. subst (λ z. Contains z n) e h;
      found = λ n h. let k : None ≡ Some n = sym none ∙ h in cc;
      below = λ d g h i t. inl (subst (λ z. Contains z (number d)) (sym e) h);
    }

pub least_below : (n : ℕ) (o : Option ℕ) → (m : ℕ) × (o ≡ Some m) × (m ≤ n) → (x : ℕ) → (z : ℕ) × (Some (least x o) ≡ Some z) × (z ≤ n)
least_below n o h x =
    let e : least x o ≡ min h.0 x = ap (λ z. least x z) h.1 in
    let k : h.0 ≤ n = h.2 in
    (least x o, refl, omega (arith, e))

pub least_itself : (x : ℕ) (o : Option ℕ) → least x o ≤ x
least_itself x None = omega arith
least_itself x (Some m) = omega arith

pub least_is : (x : ℕ) (o : Option ℕ) → (least x o ≡ x) ⊎ (o ≡ Some (least x o))
least_is x None = inl refl
least_is x (Some m) = by (cases_lt m x)
  where
    by : (m < x) ⊎ (x ≤ m) → (least x (Some m) ≡ x) ⊎ (Some m ≡ Some (least x (Some m)))
    by (inl lt) = (let e : min m x ≡ m = omega arith in inr (ap Some (sym e)))
    by (inr le) = (let e : min m x ≡ x = omega arith in inl e)

module _ (count : ℕ) (f : Flat) (all ns rest : List ℕ) (o : Option ℕ) (d : DeclNo) (e : Entry) (next : ns ≡ number d ∷ rest) (is : IsLeast count f all ns o) (there : IsEntry f d e) where
  pub least_takes : is_typedef e.decl.kind ≡ true → Contains all (number d) → IsLeast count f all rest (Some (least (depth e) o))
  least_takes t member =
      record {
        given = rest_given (λ n. n < count) (number d) ns rest next is.given;
        within = λ n h. is.within n (is_later ns rest d next n h);
        found = λ n h.
            let k : least (depth e) o ≡ n = cc in
            elim (least_is (depth e) o) [
              | inl m ↦ (d, e, member, there, t, sym m ∙ k)
              | inr m ↦ is.found n (m ∙ ap Some k)
            ];
        below = λ c g h i s.
            elim (is.below c g h i s) [
              | inl k ↦
                  elim (first_or ns rest d next c k) [
                    | inl m ↦
                        (let q : g ≡ e = one_entry f d g e (subst (λ z. IsEntry f z g) m i) there in
                        let v : least (depth e) o ≤ depth e = least_itself (depth e) o in
                        inr (least (depth e) o, refl, subst (λ (z : Entry). least (depth e) o ≤ depth z) (sym q) v))
                    | inr m ↦ inl m
                  ]
              | inr k ↦ inr (least_below (depth g) o k (depth e))
            ];
      }

  pub least_leaves : is_typedef e.decl.kind ≡ false → IsLeast count f all rest o
  least_leaves t =
      record {
        given = rest_given (λ n. n < count) (number d) ns rest next is.given;
        within = λ n h. is.within n (is_later ns rest d next n h);
        found = is.found;
        below = λ c g h i s.
            elim (is.below c g h i s) [
              | inl k ↦
                  elim (first_or ns rest d next c k) [
                    | inl m ↦
                        (let q : g ≡ e = one_entry f d g e (subst (λ z. IsEntry f z g) m i) there in
                        let v : true ≡ false = sym s ∙ ap (λ (z : Entry). is_typedef z.decl.kind) q ∙ t in
                        absurd cc)
                    | inr m ↦ inl m
                  ]
              | inr k ↦ inr k
            ];
      }

-- One more step, by what is read of a declaration.
module _ (count : ℕ) (f : Flat) (name : Name) (ns rest : List ℕ) (o : Option ℕ) (d : DeclNo) (x : Decl) (b : Bool) (means : VisibleMeans) (next : ns ≡ number d ∷ rest) (is : IsLeast count f (visible f.present space.Ordinary name f.entries) ns o) (read : decl_at f d ≡ Some x) (tested : b ≡ is_typedef x.kind) where
  abbrev pub itself : (e : Entry) × IsEntry f d e × (e.decl ≡ x)
  itself = entry_of f d x read

  pub its_kind : is_typedef itself.0.decl.kind ≡ b
  its_kind = ap (λ (z : Decl). is_typedef z.kind) itself.2 ∙ sym tested

  pub step_takes : b ≡ true → (n m : ℕ) → depth_at f d ≡ Some n → m ≡ least n o → IsLeast count f (visible f.present space.Ordinary name f.entries) rest (Some m)
  step_takes t n m deep is_least =
      let k : depth itself.0 ≡ n = depth_of f d n itself.0 deep itself.1 in
      let q : least (depth itself.0) o ≡ m = ap (λ z. least z o) k ∙ sym is_least in
      subst (λ z. IsLeast count f (visible f.present space.Ordinary name f.entries) rest (Some z)) q
      (least_takes count f (visible f.present space.Ordinary name f.entries) ns rest o d itself.0 next is itself.1 (its_kind ∙ t) (is.within (number d) (is_first ns rest d next)))

  pub step_leaves : b ≡ false → IsLeast count f (visible f.present space.Ordinary name f.entries) rest o
  step_leaves t =
      least_leaves count f (visible f.present space.Ordinary name f.entries) ns rest o d itself.0 next is itself.1 (its_kind ∙ t)

module _ (count : ℕ) (f : Flat) (name : Name) (rest : List ℕ) (means : VisibleMeans) (none : rest ≡ []) where
  abbrev pub seen_all : List ℕ
  seen_all = visible f.present space.Ordinary name f.entries

  pub sees : (d : DeclNo) → Contains seen_all (number d) → (e : Entry) × Shows f space.Ordinary name d e
  sees d h = (means f.present space.Ordinary name f.entries (number d)).0 h

  pub is_seen : (d : DeclNo) (e : Entry) → Shows f space.Ordinary name d e → Contains seen_all (number d)
  is_seen d e h = (means f.present space.Ordinary name f.entries (number d)).1 (e, h)

  pub least_ends : (o : Option ℕ) → IsLeast count f seen_all rest o → MatchOption o (HasNoTypedef f name) (IsOutermost f name)
  least_ends None is = λ d e h t.
      elim (is.below d e (is_seen d e h) h.there t) [
        | inl k ↦ absurd (none_in (number d) (subst (λ z. Contains z (number d)) none k))
        | inr k ↦ (let q : None ≡ Some k.0 = k.1 in absurd cc)
      ]
  least_ends (Some n) is =
      let g : (d : DeclNo) × (e : Entry) × Contains seen_all (number d) × IsEntry f d e × (is_typedef e.decl.kind ≡ true) × (depth e ≡ n) = is.found n refl in
      let s : (e : Entry) × Shows f space.Ordinary name g.0 e = sees g.0 g.2 in
      let q : s.0 ≡ g.1 = one_entry f g.0 s.0 g.1 s.1.there g.3 in
      record {
        itself = g.0;
        outer = g.1;
        seen = subst (λ z. Shows f space.Ordinary name g.0 z) q s.1;
        sort = g.4;
        at = g.5;
        least = λ d e h t.
            elim (is.below d e (is_seen d e h) h.there t) [
              | inl k ↦ absurd (none_in (number d) (subst (λ z. Contains z (number d)) none k))
              | inr k ↦ (let q : n ≡ k.0 = cc in omega (arith, k.2))
            ];
      }
