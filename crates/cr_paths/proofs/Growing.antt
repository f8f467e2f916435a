-- The paths of scopes, and that equal ones have one number.
use Rattle.std.proofs.Common.{◌≡◌, ◌⊎◌, inl, inr, ℕ, zero, suc, ◌+◌, ◌-◌, ◌<◌, Some, List, [], ◌∷◌, ◌++◌, length, get_or, slice_get, Contains, refl, sym, ap, subst, ◌∙◌, arith, length-append, add-zero}
use Rattle.std.proofs.Math.Seq.{get_or-append_seam}
use Rattle.std.proofs.lemmas.List.{get_or_append_left}
use Rattle.std.proofs.lemmas.Option.{slice_get_within, slice_get-get_or, get_or_from_slice_get}
use Rattle.cr_paths.specs.declared.paths.Inner.{Inner}
use Rattle.cr_paths.specs.Paths.{path_at, file_scope_alone, AreDistinct, Grows}
use Rattle.cr_paths.specs.Kept.{grow, paths_of, AreInner, Puts}

pub length-grow : (ps : List (List ℕ)) (xs : List Inner) → length (grow ps xs) ≡ length ps + length xs
length-grow ps [] = sym (add-zero (length ps))
length-grow ps (x ∷ xs) =
    let q : List (List ℕ) = (path_at ps x.outer ++ x.scope ∷ []) ∷ [] in
    let h : length (grow (ps ++ q) xs) ≡ length (ps ++ q) + length xs = length-grow (ps ++ q) xs in
    let k : length (ps ++ q) ≡ length ps + 1 = length-append ps q in
    omega arith

pub grow-end : (ps : List (List ℕ)) (xs : List Inner) (x : Inner) → grow ps (xs ++ x ∷ []) ≡ grow ps xs ++ (path_at (grow ps xs) x.outer ++ x.scope ∷ []) ∷ []
grow-end ps [] x = refl
grow-end ps (y ∷ xs) x = grow-end (ps ++ (path_at ps y.outer ++ y.scope ∷ []) ∷ []) xs x

pub grow_keeps : (ps : List (List ℕ)) (xs : List Inner) (i : ℕ) → i < length ps → path_at (grow ps xs) i ≡ path_at ps i
grow_keeps ps [] i h = refl
grow_keeps ps (x ∷ xs) i h =
    let q : List (List ℕ) = (path_at ps x.outer ++ x.scope ∷ []) ∷ [] in
    let k : length (ps ++ q) ≡ length ps + 1 = length-append ps q in
    let g : i < length (ps ++ q) = omega arith in
    grow_keeps (ps ++ q) xs i g ∙ get_or_append_left ps q [] i h

-- the path of a scope that stands in an earlier one
pub grow_at : (ps : List (List ℕ)) (xs : List Inner) (i : ℕ) (x : Inner) → slice_get xs i ≡ Some x → x.outer < length ps + i → path_at (grow ps xs) (length ps + i) ≡ path_at (grow ps xs) x.outer ++ x.scope ∷ []
grow_at ps [] i x at lt = cc
grow_at ps (y ∷ xs) zero x at lt =
    let same : y ≡ x = cc in
    let q : List (List ℕ) = (path_at ps y.outer ++ y.scope ∷ []) ∷ [] in
    let k : length (ps ++ q) ≡ length ps + 1 = length-append ps q in
    let g : length ps < length (ps ++ q) = omega arith in
    let o : y.outer ≡ x.outer = ap (λ z. z.outer) same in
    let u : y.outer < length ps = omega arith in
    let v : y.outer < length (ps ++ q) = omega arith in
    rw (add-zero (length ps)) (
    grow_keeps (ps ++ q) xs (length ps) g ∙ get_or-append_seam ps (path_at ps y.outer ++ y.scope ∷ []) [] []
    ∙ ap (λ z. z ++ y.scope ∷ []) (sym (grow_keeps (ps ++ q) xs y.outer v ∙ get_or_append_left ps q [] y.outer u))
    ∙ ap (λ z. path_at (grow (ps ++ q) xs) z.outer ++ z.scope ∷ []) same)
grow_at ps (y ∷ xs) (suc i) x at lt =
    let q : List (List ℕ) = (path_at ps y.outer ++ y.scope ∷ []) ∷ [] in
    let k : length (ps ++ q) ≡ length ps + 1 = length-append ps q in
    let e : length (ps ++ q) + i ≡ length ps + suc i = omega arith in
    let u : x.outer < length (ps ++ q) + i = omega arith in
    let P : ℕ → Type 0 = λ z. path_at (grow (ps ++ q) xs) z ≡ path_at (grow (ps ++ q) xs) x.outer ++ x.scope ∷ [] in
    subst P e (grow_at (ps ++ q) xs i x at u)

-- the end of a list, and what stands before it
pub not_empty : (p : List ℕ) (k : ℕ) → [] ≡ p ++ k ∷ [] → ⊥
not_empty [] k h = cc
not_empty (a ∷ p) k h = cc

pub ends : (p q : List ℕ) (j k : ℕ) → p ++ j ∷ [] ≡ q ++ k ∷ [] → (p ≡ q) × (j ≡ k)
ends [] [] j k h = (refl, cc)
ends [] (b ∷ q) j k h = (let t : [] ≡ q ++ k ∷ [] = cc in absurd (not_empty q k t))
ends (a ∷ p) [] j k h = (let t : [] ≡ p ++ j ∷ [] = cc in absurd (not_empty p j t))
ends (a ∷ p) (b ∷ q) j k h =
    let x : a ≡ b = cc in
    let t : p ++ j ∷ [] ≡ q ++ k ∷ [] = cc in
    let r : (p ≡ q) × (j ≡ k) = ends p q j k t in
    let s : p ≡ q = r.0 in
    (cc, r.1)

module _ (xs : List Inner) (kept : AreInner xs) where
  abbrev pub ps : List (List ℕ)
  ps = paths_of xs

  pub count : length ps ≡ 1 + length xs
  count = length-grow file_scope_alone xs

  pub first : path_at ps 0 ≡ []
  first = grow_keeps file_scope_alone xs 0 (omega arith)

  pub there : (i : ℕ) → i < length xs → (x : Inner) × (slice_get xs i ≡ Some x)
  there i h = (get_or xs i (record { outer = 0; scope = 0 }), slice_get-get_or xs i (record { outer = 0; scope = 0 }) h)

  pub step : (i : ℕ) (x : Inner) → slice_get xs i ≡ Some x → path_at ps (1 + i) ≡ path_at ps x.outer ++ x.scope ∷ []
  step i x at = grow_at file_scope_alone xs i x at (kept.earlier i x at)

  pub distinct_below : (n i j : ℕ) → i < n → i < 1 + length xs → j < 1 + length xs → path_at ps i ≡ path_at ps j → i ≡ j
  distinct_below zero i j lt a b h = absurd (omega arith)
  distinct_below (suc n) zero zero lt a b h = refl
  distinct_below (suc n) zero (suc j) lt a b h =
      let y = there j (omega arith) in
      let one : 1 + j ≡ suc j = omega arith in
      let e : path_at ps (suc j) ≡ path_at ps y.0.outer ++ y.0.scope ∷ [] = subst (λ z. path_at ps z ≡ path_at ps y.0.outer ++ y.0.scope ∷ []) one (step j y.0 y.1) in
      absurd (not_empty (path_at ps y.0.outer) y.0.scope (sym first ∙ h ∙ e))
  distinct_below (suc n) (suc i) zero lt a b h =
      let x = there i (omega arith) in
      let one : 1 + i ≡ suc i = omega arith in
      let e : path_at ps (suc i) ≡ path_at ps x.0.outer ++ x.0.scope ∷ [] = subst (λ z. path_at ps z ≡ path_at ps x.0.outer ++ x.0.scope ∷ []) one (step i x.0 x.1) in
      absurd (not_empty (path_at ps x.0.outer) x.0.scope (sym first ∙ sym h ∙ e))
  distinct_below (suc n) (suc i) (suc j) lt a b h =
      let x = there i (omega arith) in
      let y = there j (omega arith) in
      let one : 1 + i ≡ suc i = omega arith in
      let two : 1 + j ≡ suc j = omega arith in
      let e : path_at ps (suc i) ≡ path_at ps x.0.outer ++ x.0.scope ∷ [] = subst (λ z. path_at ps z ≡ path_at ps x.0.outer ++ x.0.scope ∷ []) one (step i x.0 x.1) in
      let f : path_at ps (suc j) ≡ path_at ps y.0.outer ++ y.0.scope ∷ [] = subst (λ z. path_at ps z ≡ path_at ps y.0.outer ++ y.0.scope ∷ []) two (step j y.0 y.1) in
      let both = ends (path_at ps x.0.outer) (path_at ps y.0.outer) x.0.scope y.0.scope (sym e ∙ h ∙ f) in
      let lx : x.0.outer < 1 + i = kept.earlier i x.0 x.1 in
      let ly : y.0.outer < 1 + j = kept.earlier j y.0 y.1 in
      let o : x.0.outer ≡ y.0.outer = distinct_below n x.0.outer y.0.outer (omega arith) (omega arith) (omega arith) both.0 in
      let s : x.0.scope ≡ y.0.scope = both.1 in
      let same : x.0 ≡ y.0 = (λ k. record { outer = o k; scope = s k }) in
      let at : slice_get xs j ≡ Some x.0 = y.1 ∙ ap Some (sym same) in
      ap suc (kept.distinct i j x.0 x.1 at)

  pub distinct : AreDistinct ps
  distinct i j a b h = (let c : length ps ≡ 1 + length xs = count in distinct_below (suc i) i j (omega arith) (omega arith) (omega arith) h)

-- ---- one more path

pub grows : (xs new : List Inner) (x : Inner) → Puts xs x new → Grows (paths_of xs) (paths_of new)
grows xs new x (inl h) i lt = subst (λ z. (i < length (paths_of z)) × (path_at (paths_of z) i ≡ path_at (paths_of xs) i)) (sym h.1) (lt, refl)
grows xs new x (inr h) i lt =
    let p : List (List ℕ) = (path_at (paths_of xs) x.outer ++ x.scope ∷ []) ∷ [] in
    let e : paths_of (xs ++ x ∷ []) ≡ paths_of xs ++ p = grow-end file_scope_alone xs x in
    let c : length (paths_of xs ++ p) ≡ length (paths_of xs) + 1 = length-append (paths_of xs) p in
    let k : i < length (paths_of xs ++ p) = omega arith in
    subst (λ z. (i < length (paths_of z)) × (path_at (paths_of z) i ≡ path_at (paths_of xs) i)) (sym h.1)
    (subst (λ z. (i < length z) × (path_at z i ≡ path_at (paths_of xs) i)) (sym e) (k, get_or_append_left (paths_of xs) p [] i lt))

end_at : {A : Type 0} (xs : List A) (x y : A) (i : ℕ) → slice_get (xs ++ x ∷ []) i ≡ Some y → (slice_get xs i ≡ Some y) ⊎ ((y ≡ x) × (i ≡ length xs))
end_at [] x y zero at = let e : x ≡ y = cc in inr (sym e, refl)
end_at [] x y (suc i) at = cc
end_at (z ∷ xs) x y zero at = inl at
end_at (z ∷ xs) x y (suc i) at = elim (end_at xs x y i at) [ inl h ↦ inl h | inr h ↦ inr (h.0, omega (arith, h.1)) ]

pub there_is : {A : Type 0} (xs : List A) (x : A) (i : ℕ) → slice_get xs i ≡ Some x → Contains xs x
there_is xs x i at = (i, slice_get_within xs i x at, get_or_from_slice_get xs i x x at)

pub kept_put : (xs new : List Inner) (x : Inner) → AreInner xs → x.outer < length (paths_of xs) → Puts xs x new → AreInner new
kept_put xs new x kept lt (inl h) = subst AreInner (sym h.1) kept
kept_put xs new x kept lt (inr h) = subst AreInner (sym h.1) (record { earlier = early; distinct = once })
  where
    early : (i : ℕ) (y : Inner) → slice_get (xs ++ x ∷ []) i ≡ Some y → y.outer < 1 + i
    early i y at = elim (end_at xs x y i at) [
      | inl old ↦ kept.earlier i y old
      | inr new ↦ (let c : length (paths_of xs) ≡ 1 + length xs = count xs kept in let o : y.outer ≡ x.outer = ap (λ z. z.outer) new.0 in omega (arith, new.1))
    ]

    once : (i j : ℕ) (y : Inner) → slice_get (xs ++ x ∷ []) i ≡ Some y → slice_get (xs ++ x ∷ []) j ≡ Some y → i ≡ j
    once i j y at bt = by (end_at xs x y i at) (end_at xs x y j bt)
      where
        by : (slice_get xs i ≡ Some y) ⊎ ((y ≡ x) × (i ≡ length xs)) → (slice_get xs j ≡ Some y) ⊎ ((y ≡ x) × (j ≡ length xs)) → i ≡ j
        by (inl a) (inl b) = kept.distinct i j y a b
        by (inl a) (inr b) = absurd (h.0 (subst (Contains xs) b.0 (there_is xs y i a)))
        by (inr a) (inl b) = absurd (h.0 (subst (Contains xs) a.0 (there_is xs y j b)))
        by (inr a) (inr b) = a.1 ∙ sym b.1

pub path_put : (xs new : List Inner) (x : Inner) (n : ℕ) → AreInner new → x.outer < length (paths_of xs) → Puts xs x new → slice_get new n ≡ Some x
    → (n + 1 < length (paths_of new)) × (path_at (paths_of new) (n + 1) ≡ path_at (paths_of xs) x.outer ++ x.scope ∷ [])
path_put xs new x n kept lt put at =
    let c : length (paths_of new) ≡ 1 + length new = count new kept in
    let w = there_is new x n at in
    let g = grows xs new x put x.outer lt in
    let s : path_at (paths_of new) (1 + n) ≡ path_at (paths_of new) x.outer ++ x.scope ∷ [] = step new kept n x at in
    let o : 1 + n ≡ n + 1 = omega arith in
    let l : n < length new = slice_get_within new n x at in
    (omega arith, ap (path_at (paths_of new)) (sym o) ∙ s ∙ ap (λ z. z ++ x.scope ∷ []) g.1)

-- ---- the path around one

abbrev pub IsAround : List Inner → ℕ → ℕ → Type 0
IsAround xs n r = 0 < n → (x : Inner) × (slice_get xs (n - 1) ≡ Some x) × (r ≡ x.outer)

pub outer_before : (xs : List Inner) → AreInner xs → (n r : ℕ) → IsAround xs n r → 0 < n → r < n
outer_before xs kept n r f lt =
    let h = f lt in
    let l : h.0.outer < 1 + (n - 1) = kept.earlier (n - 1) h.0 h.1 in
    let e : r ≡ h.0.outer = h.2 in
    omega arith

pub outer_inner : (xs : List Inner) → AreInner xs → (n r : ℕ) → IsAround xs n r → 0 < n → (k : ℕ) × (path_at (paths_of xs) n ≡ path_at (paths_of xs) r ++ k ∷ [])
outer_inner xs kept n r f lt =
    let h = f lt in
    let o : 1 + (n - 1) ≡ n = omega arith in
    (h.0.scope, ap (path_at (paths_of xs)) (sym o) ∙ step xs kept (n - 1) h.0 h.1 ∙ ap (λ z. path_at (paths_of xs) z ++ h.0.scope ∷ []) (sym h.2))

pub outer_first : (xs : List Inner) → AreInner xs → (n r : ℕ) → (n ≡ 0 → r ≡ 0) → n ≡ 0 → path_at (paths_of xs) r ≡ []
outer_first xs kept n r f e = ap (path_at (paths_of xs)) (f e) ∙ first xs kept

pub within_paths : (xs : List Inner) → AreInner xs → (n : ℕ) → n < length (paths_of xs) → n < 1 + length xs
within_paths xs kept n lt = (let c : length (paths_of xs) ≡ 1 + length xs = count xs kept in omega arith)

pub outer_within : (xs : List Inner) → AreInner xs → (n r : ℕ) → n < length (paths_of xs) → (n ≡ 0 → r ≡ 0) → IsAround xs n r → r < length (paths_of xs)
outer_within xs kept zero r lt f g = (let e : r ≡ 0 = f refl in omega arith)
outer_within xs kept (suc n) r lt f g = (let b : r < suc n = outer_before xs kept (suc n) r g (omega arith) in omega arith)
