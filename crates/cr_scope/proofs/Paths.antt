-- The paths of scopes.
use Rattle.std.proofs.Common.{◌≡◌, ℕ, zero, suc, ◌+◌, ◌-◌, ◌<◌, ◌≤◌, ◌⊎◌, inl, inr, Bool, true, false, ◌&&◌, ◌||◌, eqb, leb, List, [], ◌∷◌, ◌++◌, length, get_or, take, map, refl, sym, ◌∙◌, ap, subst, arith, length-append, add-zero, add-one}
use Rattle.std.proofs.Math.Seq.{get_or-append_seam}
use Rattle.std.proofs.lemmas.List.{get_or_append_left}
use Rattle.std.proofs.lemmas.Bool.{cases_order, ne_eqb, eqb-true, eq-eqb, leb-true, le-leb}
use Rattle.std.specs.List.{AllByRecursion}
use Rattle.cr_scope.specs.declared.Kept.{Kept}
use Rattle.cr_scope.specs.Declarations.{is_prefix}
use Rattle.cr_scope.specs.Redeclaration.{same_path}
use Rattle.cr_scope.specs.Kept.{path_at, grow, paths_of, entry_of, stands}

pub and_both : (a b : Bool) → (a && b) ≡ true → (a ≡ true) × (b ≡ true)
and_both true true h = (refl, refl)
and_both true false h = cc
and_both false b h = cc

pub length-grow : (ps : List (List ℕ)) (xs : List ℕ) → length (grow ps xs) ≡ length ps + length xs
length-grow ps [] = sym (add-zero (length ps))
length-grow ps (p ∷ xs) =
    let h : length (grow (ps ++ (path_at ps p ++ length ps ∷ []) ∷ []) xs) ≡ length (ps ++ (path_at ps p ++ length ps ∷ []) ∷ []) + length xs = length-grow (ps ++ (path_at ps p ++ length ps ∷ []) ∷ []) xs in
    let k : length (ps ++ (path_at ps p ++ length ps ∷ []) ∷ []) ≡ length ps + 1 = length-append ps ((path_at ps p ++ length ps ∷ []) ∷ []) in
    omega arith

pub grow-end : (ps : List (List ℕ)) (xs : List ℕ) (p : ℕ) → grow ps (xs ++ p ∷ []) ≡ grow ps xs ++ (path_at (grow ps xs) p ++ length (grow ps xs) ∷ []) ∷ []
grow-end ps [] p = refl
grow-end ps (x ∷ xs) p = grow-end (ps ++ (path_at ps x ++ length ps ∷ []) ∷ []) xs p

pub grow_keeps : (ps : List (List ℕ)) (xs : List ℕ) (i : ℕ) → i < length ps → path_at (grow ps xs) i ≡ path_at ps i
grow_keeps ps [] i h = refl
grow_keeps ps (p ∷ xs) i h =
    let q : List (List ℕ) = (path_at ps p ++ length ps ∷ []) ∷ [] in
    let k : length (ps ++ q) ≡ length ps + 1 = length-append ps q in
    let g : i < length (ps ++ q) = omega arith in
    grow_keeps (ps ++ q) xs i g ∙ get_or_append_left ps q [] i h

pub grow_at : (ps : List (List ℕ)) (xs : List ℕ) (s : ℕ) → s < length xs → get_or xs s 0 < length ps + s → path_at (grow ps xs) (length ps + s) ≡ path_at (grow ps xs) (get_or xs s 0) ++ (length ps + s) ∷ []
grow_at ps [] s h lt = absurd (omega arith)
grow_at ps (p ∷ xs) zero h lt =
    let q : List (List ℕ) = (path_at ps p ++ length ps ∷ []) ∷ [] in
    let k : length (ps ++ q) ≡ length ps + 1 = length-append ps q in
    let g : length ps < length (ps ++ q) = omega arith in
    let u : p < length ps = omega arith in
    let v : p < length (ps ++ q) = omega arith in
    rw (add-zero (length ps)) (
    grow_keeps (ps ++ q) xs (length ps) g ∙ get_or-append_seam ps (path_at ps p ++ length ps ∷ []) [] []
    ∙ ap (λ z. z ++ length ps ∷ []) (sym (grow_keeps (ps ++ q) xs p v ∙ get_or_append_left ps q [] p u)))
grow_at ps (p ∷ xs) (suc s) h lt =
    let q : List (List ℕ) = (path_at ps p ++ length ps ∷ []) ∷ [] in
    let k : length (ps ++ q) ≡ length ps + 1 = length-append ps q in
    let e : length (ps ++ q) + s ≡ length ps + suc s = omega arith in
    let g : s < length xs = omega arith in
    let u : get_or xs s 0 < length (ps ++ q) + s = omega arith in
    let P : ℕ → Type 0 = λ z. path_at (grow (ps ++ q) xs) z ≡ path_at (grow (ps ++ q) xs) (get_or xs s 0) ++ z ∷ [] in
    subst P e (grow_at (ps ++ q) xs s g u)

-- prefixes
pub prefix_refl : (p : List ℕ) → is_prefix p p ≡ true
prefix_refl [] = refl
prefix_refl (a ∷ p) = ap (λ z. z && is_prefix p p) (eq-eqb a a refl) ∙ prefix_refl p

pub prefix_more : (p q r : List ℕ) → is_prefix p q ≡ true → is_prefix p (q ++ r) ≡ true
prefix_more [] q r h = refl
prefix_more (a ∷ p) [] r h = cc
prefix_more (a ∷ p) (b ∷ q) r h =
    let x : (eqb a b ≡ true) × (is_prefix p q ≡ true) = and_both (eqb a b) (is_prefix p q) h in
    ap (λ z. z && is_prefix p (q ++ r)) x.0 ∙ prefix_more p q r x.1

pub prefix_at : (p q : List ℕ) (s : ℕ) → is_prefix (p ++ s ∷ []) q ≡ true → (length p < length q) × (get_or q (length p) 0 ≡ s)
prefix_at [] [] s h = cc
prefix_at [] (b ∷ q) s h =
    let x : (eqb s b ≡ true) × (true ≡ true) = and_both (eqb s b) true h in
    (omega arith, sym (eqb-true s b x.0))
prefix_at (a ∷ p) [] s h = cc
prefix_at (a ∷ p) (b ∷ q) s h =
    let x : (eqb a b ≡ true) × (is_prefix (p ++ s ∷ []) q ≡ true) = and_both (eqb a b) (is_prefix (p ++ s ∷ []) q) h in
    let y : (length p < length q) × (get_or q (length p) 0 ≡ s) = prefix_at p q s x.1 in
    (omega arith, y.1)

pub not_zero : (n : ℕ) → eqb (suc n) 0 ≡ false
not_zero n = ne_eqb (suc n) 0 (λ h. absurd (omega arith))

pub both_ways : (a b : Bool) → (a ≡ true → b ≡ true) → (b ≡ true → a ≡ true) → a ≡ b
both_ways true b f g = sym (f refl)
both_ways false true f g = g refl
both_ways false false f g = refl

-- the last of a list
abbrev pub end_of : ℕ → List ℕ → ℕ
end_of d [] = d
end_of d (x ∷ xs) = end_of x xs

pub end_of-append : (d : ℕ) (xs : List ℕ) (y : ℕ) → end_of d (xs ++ y ∷ []) ≡ y
end_of-append d [] y = refl
end_of-append d (x ∷ xs) y = end_of-append x xs y

pub same_path_itself : (p : List ℕ) → same_path p p ≡ true
same_path_itself [] = refl
same_path_itself (a ∷ p) = ap (λ z. z && same_path p p) (eq-eqb a a refl) ∙ same_path_itself p

pub same_path_true : (p q : List ℕ) → same_path p q ≡ true → p ≡ q
same_path_true [] [] h = refl
same_path_true [] (b ∷ q) h = cc
same_path_true (a ∷ p) [] h = cc
same_path_true (a ∷ p) (b ∷ q) h =
    let x : (eqb a b ≡ true) × (same_path p q ≡ true) = and_both (eqb a b) (same_path p q) h in
    let e : a ≡ b = eqb-true a b x.0 in
    let t : p ≡ q = same_path_true p q x.1 in
    cc

module _ (parents : List ℕ) (earlier : (s : ℕ) → s < length parents → get_or parents s 0 < 1 + s) where
  abbrev pub ps : List (List ℕ)
  ps = paths_of parents

  pub count : length ps ≡ 1 + length parents
  count = length-grow ([] ∷ []) parents

  pub first : path_at ps 0 ≡ []
  first = grow_keeps ([] ∷ []) parents 0 (omega arith)

  -- the path of a scope that isn't the first
  pub path_step : (s : ℕ) → s < length parents → path_at ps (1 + s) ≡ path_at ps (get_or parents s 0) ++ (1 + s) ∷ []
  path_step s h = grow_at ([] ∷ []) parents s h (earlier s h)

  -- the outermost scope of a path has the path that has it alone
  pub path_first_by : (q c : ℕ) (Q : List ℕ) → path_at ps q ≡ Q → (path_at ps (get_or Q 0 0) ≡ take 1 Q) × (get_or Q 0 0 ≤ q) → path_at ps (suc c) ≡ path_at ps q ++ (suc c) ∷ [] → q < suc c → (path_at ps (get_or (Q ++ (suc c) ∷ []) 0 0) ≡ take 1 (Q ++ (suc c) ∷ [])) × (get_or (Q ++ (suc c) ∷ []) 0 0 ≤ suc c)
  path_first_by q c [] e ih step lt = (step ∙ ap (λ z. z ++ (suc c) ∷ []) e, omega arith)
  path_first_by q c (y ∷ ys) e ih step lt = (ih.0, omega (arith, ih.1))

  pub path_first : (n c : ℕ) → c < n → c < 1 + length parents → (path_at ps (get_or (path_at ps c) 0 0) ≡ take 1 (path_at ps c)) × (get_or (path_at ps c) 0 0 ≤ c)
  path_first zero c lt h = absurd (omega arith)
  path_first (suc n) zero lt h =
      let P : List ℕ → Type 0 = λ z. (path_at ps (get_or z 0 0) ≡ take 1 z) × (get_or z 0 0 ≤ 0) in
      subst P (sym first) (first, omega arith)
  path_first (suc n) (suc c) lt h =
      let k : c < length parents = omega arith in
      let q : ℕ = get_or parents c 0 in
      let ql : q < 1 + c = earlier c k in
      let one : 1 + c ≡ suc c = omega arith in
      let step : path_at ps (suc c) ≡ path_at ps q ++ (suc c) ∷ [] =
      (let P : ℕ → Type 0 = λ z. path_at ps z ≡ path_at ps q ++ z ∷ [] in subst P one (path_step c k)) in
      let P : List ℕ → Type 0 = λ z. (path_at ps (get_or z 0 0) ≡ take 1 z) × (get_or z 0 0 ≤ suc c) in
      subst P (sym step) (path_first_by q c (path_at ps q) refl (path_first n q (omega arith) (omega arith)) step (omega arith))

  -- a path ends with its scope's number
  pub path_end : (s : ℕ) → s < 1 + length parents → end_of 0 (path_at ps s) ≡ s
  path_end zero h = ap (end_of 0) first
  path_end (suc s) h =
      let k : s < length parents = omega arith in
      let one : 1 + s ≡ suc s = omega arith in
      let Q : List ℕ = path_at ps (get_or parents s 0) in
      let step : path_at ps (suc s) ≡ Q ++ (suc s) ∷ [] =
      (let P : ℕ → Type 0 = λ z. path_at ps z ≡ Q ++ z ∷ [] in subst P one (path_step s k)) in
      ap (end_of 0) step ∙ end_of-append 0 Q (suc s)

  -- so two scopes of one path are one
  pub same_scope : (a b : ℕ) → a < 1 + length parents → b < 1 + length parents → same_path (path_at ps a) (path_at ps b) ≡ eqb a b
  same_scope a b ha hb =
      both_ways (same_path (path_at ps a) (path_at ps b)) (eqb a b)
      (λ h. eq-eqb a b (sym (path_end a ha) ∙ ap (end_of 0) (same_path_true (path_at ps a) (path_at ps b) h) ∙ path_end b hb))
      (λ h. ap (λ z. same_path (path_at ps a) (path_at ps z)) (sym (eqb-true a b h)) ∙ same_path_itself (path_at ps a))

  pub on_path_by : (q c i : ℕ) → (i ≡ length (path_at ps q)) ⊎ ((i < length (path_at ps q)) ⊎ (length (path_at ps q) < i)) → (i < length (path_at ps q) → is_prefix (path_at ps (get_or (path_at ps q) i 0)) (path_at ps q) ≡ true) → path_at ps (suc c) ≡ path_at ps q ++ (suc c) ∷ [] → i < length (path_at ps q) + 1 → is_prefix (path_at ps (get_or (path_at ps q ++ (suc c) ∷ []) i 0)) (path_at ps q ++ (suc c) ∷ []) ≡ true
  on_path_by q c i (inl e) ih step lt =
      let Q : List ℕ = path_at ps q in
      let R : List ℕ = Q ++ (suc c) ∷ [] in
      let same : get_or R i 0 ≡ suc c = ap (λ n. get_or R n 0) e ∙ get_or-append_seam Q (suc c) [] 0 in
      ap (λ n. is_prefix (path_at ps n) R) same ∙ ap (λ p. is_prefix p R) step ∙ prefix_refl R
  on_path_by q c i (inr (inl h)) ih step lt =
      let Q : List ℕ = path_at ps q in
      let R : List ℕ = Q ++ (suc c) ∷ [] in
      ap (λ n. is_prefix (path_at ps n) R) (get_or_append_left Q ((suc c) ∷ []) 0 i h) ∙ prefix_more (path_at ps (get_or Q i 0)) Q ((suc c) ∷ []) (ih h)
  on_path_by q c i (inr (inr h)) ih step lt = absurd (omega arith)

  -- each scope on a path has a path that the path begins with
  pub on_path : (n c : ℕ) → c < n → c < 1 + length parents → (i : ℕ) → i < length (path_at ps c) → is_prefix (path_at ps (get_or (path_at ps c) i 0)) (path_at ps c) ≡ true
  on_path zero c lt h i g = absurd (omega arith)
  on_path (suc n) zero lt h i g = (let e : length (path_at ps 0) ≡ 0 = ap length first in absurd (omega arith))
  on_path (suc n) (suc c) lt h i g =
      let k : c < length parents = omega arith in
      let q : ℕ = get_or parents c 0 in
      let ql : q < 1 + c = earlier c k in
      let one : 1 + c ≡ suc c = omega arith in
      let step : path_at ps (suc c) ≡ path_at ps q ++ (suc c) ∷ [] =
      (let P : ℕ → Type 0 = λ z. path_at ps z ≡ path_at ps q ++ z ∷ [] in subst P one (path_step c k)) in
      let len : length (path_at ps (suc c)) ≡ length (path_at ps q) + 1 = ap length step ∙ length-append (path_at ps q) ((suc c) ∷ []) in
      let G : List ℕ → Type 0 = λ z. is_prefix (path_at ps (get_or z i 0)) z ≡ true in
      subst G (sym step) (on_path_by q c i (cases_order i (length (path_at ps q))) (λ w. on_path n q (omega arith) (omega arith) i w) step (omega arith))

  pub stands_is : (depths : List ℕ) (c s : ℕ) → c < 1 + length parents → s < 1 + length parents → get_or depths s 0 ≡ length (path_at ps s) → stands depths (path_at ps c) s ≡ is_prefix (path_at ps s) (path_at ps c)
  stands_is depths c zero hc hs d =
      let z : get_or depths 0 0 ≡ 0 = d ∙ ap length first in
      ap (λ n. eqb n 0 || (leb n (length (path_at ps c)) && eqb (get_or (path_at ps c) (n - 1) 0) 0)) z ∙ ap (λ p. is_prefix p (path_at ps c)) (sym first)
  stands_is depths c (suc s) hc hs d =
      let k : s < length parents = omega arith in
      let one : 1 + s ≡ suc s = omega arith in
      let P : List ℕ = path_at ps (get_or parents s 0) in
      let back : suc (length P) - 1 ≡ length P = omega arith in
      let Q : List ℕ = path_at ps c in
      let step : path_at ps (suc s) ≡ P ++ (suc s) ∷ [] =
      (let F : ℕ → Type 0 = λ z. path_at ps z ≡ P ++ z ∷ [] in subst F one (path_step s k)) in
      let len : get_or depths (suc s) 0 ≡ suc (length P) = d ∙ ap length step ∙ length-append P ((suc s) ∷ []) ∙ add-one (length P) in
      ap (λ n. eqb n 0 || (leb n (length Q) && eqb (get_or Q (n - 1) 0) (suc s))) len
      ∙ ap (λ b. b || (leb (suc (length P)) (length Q) && eqb (get_or Q (suc (length P) - 1) 0) (suc s))) (not_zero (length P))
      ∙ ap (λ m. leb (suc (length P)) (length Q) && eqb (get_or Q m 0) (suc s)) back
      ∙ both_ways (leb (suc (length P)) (length Q) && eqb (get_or Q (length P) 0) (suc s)) (is_prefix (path_at ps (suc s)) Q)
      (λ h.
      let x : (leb (suc (length P)) (length Q) ≡ true) × (eqb (get_or Q (length P) 0) (suc s) ≡ true) = and_both (leb (suc (length P)) (length Q)) (eqb (get_or Q (length P) 0) (suc s)) h in
      let lt : length P < length Q = leb-true (suc (length P)) (length Q) x.0 in
      let at : get_or Q (length P) 0 ≡ suc s = eqb-true (get_or Q (length P) 0) (suc s) x.1 in
      ap (λ n. is_prefix (path_at ps n) Q) (sym at) ∙ on_path (suc c) c (omega arith) hc (length P) lt)
      (λ h.
      let y : (length P < length Q) × (get_or Q (length P) 0 ≡ suc s) = prefix_at P Q (suc s) (ap (λ p. is_prefix p Q) (sym step) ∙ h) in
      let a : leb (suc (length P)) (length Q) ≡ true = le-leb (suc (length P)) (length Q) y.0 in
      let b : eqb (get_or Q (length P) 0) (suc s) ≡ true = eq-eqb (get_or Q (length P) 0) (suc s) y.1 in
      ap (λ z. z && eqb (get_or Q (length P) 0) (suc s)) a ∙ b)

-- entries that see their scopes' paths as before
pub same_entries : (ps' qs : List (List ℕ)) (n : ℕ) (es : List Kept) → ((s : ℕ) → s < n → path_at qs s ≡ path_at ps' s) → AllByRecursion (λ k. k.scope < n) es → map (entry_of qs) es ≡ map (entry_of ps') es
same_entries ps' qs n [] h w = refl
same_entries ps' qs n (k ∷ es) h w =
    let e : path_at qs k.scope ≡ path_at ps' k.scope = h k.scope w.0 in
    let t : map (entry_of qs) es ≡ map (entry_of ps') es = same_entries ps' qs n es h w.1 in
    ap (λ p. record { path = p; decl = k.decl } ∷ map (entry_of qs) es) e ∙ ap (λ l. entry_of ps' k ∷ l) t
