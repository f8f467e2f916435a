-- Which numbers stand among the visible ones.
use Rattle.std.proofs.Common.{◌≡◌, ◌≢◌, ℕ, zero, suc, ◌+◌, ◌<◌, ◌≤◌, ◌⊎◌, inl, inr, Bool, true, false, cond, eqb, Option, Some, None, List, [], ◌∷◌, length, map, refl, sym, ◌∙◌, ap, subst, arith}
use Rattle.std.specs.Prelude.{slice_get, slice_index_or, Contains, All, ◌↔◌}
use Rattle.std.proofs.lemmas.Bool.{eqb-true, eqb-false, eq-eqb}
use Rattle.std.proofs.lemmas.Option.{slice_get_within}
use Rattle.std.proofs.lemmas.List.Elements.{Contains-append_left, Contains-append_right, Contains-append_cases, All-contains_itself, All-weaker}
use Rattle.cr_base.specs.declared.Name.{Name}
use Rattle.cr_scope.specs.declared.Space.{Space}
use Rattle.cr_scope.specs.Declarations.{Entry, depth, is_at, numbers_at, numbers_from, visible, depth_seen}
use Rattle.cr_scope.specs.Meaning.{Sees}
use Rattle.cr_scope.proofs.Looked.{at_sees, sees_at, none_deeper}

pub none_in : {A : Type 0} (x : A) → Contains [] x → ⊥
none_in x h = let k : h.0 < 0 = h.1 in omega arith

pub one_in : (n i : ℕ) → Contains (n ∷ []) i → i ≡ n
one_in n i h = by h.0 h.1 h.2
  where
    by : (k : ℕ) → k < length (n ∷ []) → slice_index_or (n ∷ []) k i ≡ i → i ≡ n
    by zero lt e = sym e
    by (suc k) lt e = absurd (omega arith)

-- the number i is n more than that of a declaration at the depth d
abbrev pub IsAt : ℕ → ℕ → List (Option ℕ) → ℕ → Type 0
IsAt d n cs i = (j : ℕ) × (i ≡ n + j) × (slice_get cs j ≡ Some (Some d))

pub at_one : (d n : ℕ) (c : Option ℕ) (cs : List (Option ℕ)) (i : ℕ) → Contains (cond (is_at d c) (n ∷ []) []) i → IsAt d n (c ∷ cs) i
at_one d n None cs i h = absurd (none_in i h)
at_one d n (Some e) cs i h = by (eqb e d) refl h
  where
    by : (b : Bool) → eqb e d ≡ b → Contains (cond b (n ∷ []) []) i → IsAt d n (Some e ∷ cs) i
    by true q g = (0, (let k : i ≡ n = one_in n i g in omega arith), ap (λ z. Some (Some z)) (eqb-true e d q))
    by false q g = absurd (none_in i g)

pub at_number : (d n : ℕ) (cs : List (Option ℕ)) (i : ℕ) → Contains (numbers_at d n cs) i → IsAt d n cs i
at_number d n [] i h = absurd (none_in i h)
at_number d n (c ∷ cs) i h = by (Contains-append_cases (numbers_at d (n + 1) cs) (cond (is_at d c) (n ∷ []) []) i h) (λ g. at_number d (n + 1) cs i g)
  where
    by : Contains (numbers_at d (n + 1) cs) i ⊎ Contains (cond (is_at d c) (n ∷ []) []) i → (Contains (numbers_at d (n + 1) cs) i → IsAt d (n + 1) cs i) → IsAt d n (c ∷ cs) i
    by (inl g) rest = let r : IsAt d (n + 1) cs i = rest g in (suc r.0, omega (arith, r.1), r.2)
    by (inr g) rest = at_one d n c cs i g

pub number_at : (d n : ℕ) (cs : List (Option ℕ)) (j : ℕ) → slice_get cs j ≡ Some (Some d) → Contains (numbers_at d n cs) (n + j)
number_at d n [] j h = cc
number_at d n (c ∷ cs) zero h =
    let e : c ≡ Some d = cc in
    let here : cond (is_at d c) (n ∷ []) [] ≡ n ∷ [] = ap (λ z. cond (is_at d z) (n ∷ []) []) e ∙ ap (λ b. cond b (n ∷ []) []) (eq-eqb d d refl) in
    let z : n + 0 ≡ n = omega arith in
    Contains-append_right (numbers_at d (n + 1) cs) (cond (is_at d c) (n ∷ []) []) (n + 0) (subst (λ xs. Contains xs (n + 0)) (sym here) (0, omega arith, sym z))
number_at d n (c ∷ cs) (suc j) h =
    let e : (n + 1) + j ≡ n + suc j = omega arith in
    Contains-append_left (numbers_at d (n + 1) cs) (cond (is_at d c) (n ∷ []) []) (n + suc j)
    (subst (Contains (numbers_at d (n + 1) cs)) e (number_at d (n + 1) cs j h))

-- of the numbers of a depth and those further out
pub from_number : (d : ℕ) (cs : List (Option ℕ)) (i : ℕ) → Contains (numbers_from d cs) i → (x : ℕ) × (slice_get cs i ≡ Some (Some x))
from_number zero cs i h =
    let r : IsAt 0 0 cs i = at_number 0 0 cs i h in
    let e : r.0 ≡ i = omega (arith, r.1) in
    (0, subst (λ k. slice_get cs k ≡ Some (Some 0)) e r.2)
from_number (suc d) cs i h = by (Contains-append_cases (numbers_at (suc d) 0 cs) (numbers_from d cs) i h) (λ g. from_number d cs i g)
  where
    by : Contains (numbers_at (suc d) 0 cs) i ⊎ Contains (numbers_from d cs) i → (Contains (numbers_from d cs) i → (x : ℕ) × (slice_get cs i ≡ Some (Some x))) → (x : ℕ) × (slice_get cs i ≡ Some (Some x))
    by (inl g) rest =
        let r : IsAt (suc d) 0 cs i = at_number (suc d) 0 cs i g in
        let e : r.0 ≡ i = omega (arith, r.1) in
        (suc d, subst (λ k. slice_get cs k ≡ Some (Some (suc d))) e r.2)
    by (inr g) rest = rest g

pub number_from : (d x : ℕ) (cs : List (Option ℕ)) (i : ℕ) → x ≤ d → slice_get cs i ≡ Some (Some x) → Contains (numbers_from d cs) i
number_from zero x cs i le h =
    let z : x ≡ 0 = omega arith in
    let e : 0 + i ≡ i = omega arith in
    subst (Contains (numbers_at 0 0 cs)) e (number_at 0 0 cs i (h ∙ ap (λ k. Some (Some k)) z))
number_from (suc d) x cs i le h = by (eqb x (suc d)) refl (λ g. number_from d x cs i g h)
  where
    by : (b : Bool) → eqb x (suc d) ≡ b → (x ≤ d → Contains (numbers_from d cs) i) → Contains (numbers_from (suc d) cs) i
    by true q rest =
        let e : 0 + i ≡ i = omega arith in
        Contains-append_left (numbers_at (suc d) 0 cs) (numbers_from d cs) i
        (subst (Contains (numbers_at (suc d) 0 cs)) e (number_at (suc d) 0 cs i (h ∙ ap (λ k. Some (Some k)) (eqb-true x (suc d) q))))
    by false q rest =
        let other : x ≢ suc d = eqb-false x (suc d) q in
        Contains-append_right (numbers_at (suc d) 0 cs) (numbers_from d cs) i (rest (omega arith))

module _ (present : List ℕ) (s : Space) (name : Name) (es : List Entry) where
  pub all_seen : (i : ℕ) → Contains (visible present s name es) i ↔ ((e : Entry) × Sees present s name es i e)
  all_seen i = (
    λ h.
        (let x : (x : ℕ) × (slice_get (map (depth_seen present s name) es) i ≡ Some (Some x)) = from_number (length present) (map (depth_seen present s name) es) i h in
        let g : (e : Entry) × Sees present s name es i e × (depth e ≡ x.0) = at_sees present s name es i x.0 x.1 in
        (g.0, g.1)),
    λ h.
        (let at : slice_get (map (depth_seen present s name) es) i ≡ Some (Some (depth h.0)) = sees_at present s name es i h.0 h.1 in
        number_from (length present) (depth h.0) (map (depth_seen present s name) es) i (none_deeper present s name es i (depth h.0) at) at),
  )

  -- the numbers are those of declarations
  pub all_given : All (λ n. n < length es) (visible present s name es)
  all_given =
      All-weaker (Contains (visible present s name es)) (λ n. n < length es)
      (λ i h. slice_get_within es i ((all_seen i).0 h).0 ((all_seen i).0 h).1.there)
      (visible present s name es) (All-contains_itself (visible present s name es))
