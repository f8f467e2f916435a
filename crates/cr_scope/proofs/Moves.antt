-- How the calls keep what is kept.
use Rattle.std.proofs.Common.{◌≡◌, ℕ, zero, suc, ◌+◌, ◌-◌, ◌<◌, ◌≤◌, inl, inr, List, [], ◌∷◌, ◌++◌, length, get_or, take, map, refl, sym, ◌∙◌, ap, subst, arith, length-append, ◌≢◌}
use Rattle.std.specs.List.{AllByRecursion}
use Rattle.std.proofs.Math.Seq.{get_or-append_seam, take-append_seam}
use Rattle.std.proofs.lemmas.List.{get_or_append_left}
use Rattle.std.proofs.lemmas.List.Elements.{recursion_from_All, All-from_recursion}
use Rattle.std.proofs.lemmas.Bool.{cases_lt}
use Rattle.cr_scope.specs.declared.Kept.{Kept}
use Rattle.cr_scope.specs.Declarations.{entered}
use Rattle.cr_scope.specs.Kept.{path_at, paths_of, entry_of, flat_of, IsKept}
use Rattle.cr_scope.proofs.Paths.{grow-end, count, first, path_step, same_entries}

-- one more at the end
pub at_end : (xs : List ℕ) (x : ℕ) (F : ℕ → ℕ → Type 0) → ((s : ℕ) → s < length xs → F s (get_or xs s 0)) → F (length xs) x → (s : ℕ) → s < length (xs ++ x ∷ []) → F s (get_or (xs ++ x ∷ []) s 0)
at_end xs x F h f s lt =
    elim (cases_lt s (length xs)) [
      | inl k ↦ subst (λ z. F s z) (sym (get_or_append_left xs (x ∷ []) 0 s k)) (h s k)
      | inr k ↦
          let n : length (xs ++ x ∷ []) ≡ length xs + 1 = length-append xs (x ∷ []) in
          let e : length xs ≡ s = omega arith in
          let G : ℕ → Type 0 = λ z. F z (get_or (xs ++ x ∷ []) z 0) in
          subst G e (subst (λ z. F (length xs) z) (sym (get_or-append_seam xs x [] 0)) f)
    ]

pub more_within : (n m : ℕ) (es : List Kept) → n ≤ m → AllByRecursion (λ k. k.scope < n) es → AllByRecursion (λ k. k.scope < m) es
more_within n m [] h w = w
more_within n m (k ∷ es) h w = let a : k.scope < n = w.0 in (omega arith, more_within n m es h w.1)

module _ (P D Q : List ℕ) (cur : ℕ) (E : List Kept) (ok : IsKept P D Q cur E) where
  abbrev pub ps : List (List ℕ)
  ps = paths_of P

  abbrev pub grown : List (List ℕ)
  grown = ps ++ (Q ++ length D ∷ []) ∷ []

  pub counted : length ps ≡ length D
  counted = count P ok.earlier ∙ sym ok.count

  pub grown_is : paths_of (P ++ cur ∷ []) ≡ grown
  grown_is =
      grow-end ([] ∷ []) P cur ∙ ap (λ z. ps ++ (z ++ length ps ∷ []) ∷ []) ok.path ∙ ap (λ n. ps ++ (Q ++ n ∷ []) ∷ []) counted

  pub old_path : (s : ℕ) → s < length D → path_at (paths_of (P ++ cur ∷ [])) s ≡ path_at ps s
  old_path s h =
      let n : length ps ≡ length D = counted in
      ap (λ z. path_at z s) grown_is ∙ get_or_append_left ps ((Q ++ length D ∷ []) ∷ []) [] s (omega arith)

  pub new_path : path_at (paths_of (P ++ cur ∷ [])) (length D) ≡ Q ++ length D ∷ []
  new_path =
      ap (λ z. path_at z (length D)) grown_is ∙ ap (λ n. path_at grown n) (sym counted) ∙ get_or-append_seam ps (Q ++ length D ∷ []) [] []

  pub entry_kept : map (entry_of (paths_of (P ++ cur ∷ []))) E ≡ map (entry_of ps) E
  entry_kept = same_entries ps (paths_of (P ++ cur ∷ [])) (length D) E old_path (recursion_from_All (λ k. k.scope < length D) E ok.within)

  pub enter_flat : flat_of (P ++ cur ∷ []) (Q ++ length D ∷ []) E ≡ entered (flat_of P Q E)
  enter_flat =
      ap (λ z. record { scopes = z; present = Q ++ length D ∷ []; entries = map (entry_of (paths_of (P ++ cur ∷ []))) E }) grown_is
      ∙ ap (λ z. record { scopes = grown; present = Q ++ length D ∷ []; entries = z }) entry_kept
      ∙ ap (λ n. record { scopes = ps ++ (Q ++ n ∷ []) ∷ []; present = Q ++ n ∷ []; entries = map (entry_of ps) E }) (sym counted)

  pub enter_kept : IsKept (P ++ cur ∷ []) (D ++ (length Q + 1) ∷ []) (Q ++ length D ∷ []) (length D) E
  enter_kept =
      let lp : length (P ++ cur ∷ []) ≡ length P + 1 = length-append P (cur ∷ []) in
      let ld : length (D ++ (length Q + 1) ∷ []) ≡ length D + 1 = length-append D ((length Q + 1) ∷ []) in
      let lq : length (Q ++ length D ∷ []) ≡ length Q + 1 = length-append Q (length D ∷ []) in
      let n : length D ≡ 1 + length P = ok.count in
      let c : cur < length D = ok.entered in
      let g : cur < 1 + length P = omega arith in
      let new : length Q + 1 ≡ length (path_at (paths_of (P ++ cur ∷ [])) (length D)) = sym lq ∙ ap length (sym new_path) in
      record {
        earlier = at_end P cur (λ s z. z < 1 + s) ok.earlier g;
        count = omega arith;
        depth = at_end D (length Q + 1) (λ s z. z ≡ length (path_at (paths_of (P ++ cur ∷ [])) s)) (λ s h. ok.depth s h ∙ ap length (sym (old_path s h))) new;
        entered = omega arith;
        path = new_path;
        within = All-from_recursion (λ k. k.scope < length (D ++ (length Q + 1) ∷ [])) E (more_within (length D) (length (D ++ (length Q + 1) ∷ [])) E (omega arith) (recursion_from_All (λ k. k.scope < length D) E ok.within));
      }

  pub again_kept : (s : ℕ) → s < length ps → path_at ps s ≡ Q ++ s ∷ [] → IsKept P D (Q ++ s ∷ []) s E
  again_kept s h e =
      let n : length ps ≡ length D = counted in
      record { earlier = ok.earlier; count = ok.count; depth = ok.depth; entered = omega arith; path = e; within = ok.within }

  -- the present scope isn't the first
  pub not_first : Q ≢ [] → 0 < cur
  not_first h =
      elim (cases_lt 0 cur) [
        | inl k ↦ k
        | inr k ↦ (let e : cur ≡ 0 = omega arith in absurd (h (sym ok.path ∙ ap (λ z. path_at ps z) e ∙ first P ok.earlier)))
      ]

  pub leave_path : 0 < cur → Q ≡ path_at ps (get_or P (cur - 1) 0) ++ cur ∷ []
  leave_path h =
      let c : cur < length D = ok.entered in
      let n : length D ≡ 1 + length P = ok.count in
      let one : 1 + (cur - 1) ≡ cur = omega arith in
      let G : ℕ → Type 0 = λ z. path_at ps z ≡ path_at ps (get_or P (cur - 1) 0) ++ z ∷ [] in
      sym ok.path ∙ subst G one (path_step P ok.earlier (cur - 1) (omega arith))

  pub leave_index : Q ≢ [] → cur - 1 < length P
  leave_index h =
      let k : 0 < cur = not_first h in
      let c : cur < length D = ok.entered in
      let n : length D ≡ 1 + length P = ok.count in
      omega arith

  pub leave_kept : Q ≢ [] → IsKept P D (take (length Q - 1) Q) (get_or P (cur - 1) 0) E
  leave_kept h =
      let k : 0 < cur = not_first h in
      let i : cur - 1 < length P = leave_index h in
      let x : get_or P (cur - 1) 0 < 1 + (cur - 1) = ok.earlier (cur - 1) i in
      let c : cur < length D = ok.entered in
      let R : List ℕ = path_at ps (get_or P (cur - 1) 0) in
      let e : Q ≡ R ++ cur ∷ [] = leave_path k in
      let l : length Q - 1 ≡ length R = (let m : length Q ≡ length R + 1 = ap length e ∙ length-append R (cur ∷ []) in omega arith) in
      let t : take (length Q - 1) Q ≡ R = ap (λ z. take z Q) l ∙ ap (λ z. take (length R) z) e ∙ take-append_seam R (cur ∷ []) in
      record { earlier = ok.earlier; count = ok.count; depth = ok.depth; entered = omega arith; path = sym t; within = ok.within }

-- the same at equal lists
pub entered_kept : (P D Q : List ℕ) (cur : ℕ) (E : List Kept) (P' D' Q' : List ℕ) (n : ℕ) → IsKept P D Q cur E → n ≡ length D → P' ≡ P ++ cur ∷ [] → D' ≡ D ++ (length Q + 1) ∷ [] → Q' ≡ Q ++ n ∷ [] → IsKept P' D' Q' n E
entered_kept P D Q cur E P' D' Q' n ok e p d q =
    let A : ℕ → Type 0 = λ z. IsKept (P ++ cur ∷ []) (D ++ (length Q + 1) ∷ []) (Q ++ z ∷ []) z E in
    let a : IsKept (P ++ cur ∷ []) (D ++ (length Q + 1) ∷ []) (Q ++ n ∷ []) n E = subst A (sym e) (enter_kept P D Q cur E ok) in
    subst (λ x. IsKept x D' Q' n E) (sym p) (subst (λ x. IsKept (P ++ cur ∷ []) x Q' n E) (sym d) (subst (λ x. IsKept (P ++ cur ∷ []) (D ++ (length Q + 1) ∷ []) x n E) (sym q) a))

pub entered_flat : (P D Q : List ℕ) (cur : ℕ) (E : List Kept) (P' Q' : List ℕ) (n : ℕ) → IsKept P D Q cur E → n ≡ length D → P' ≡ P ++ cur ∷ [] → Q' ≡ Q ++ n ∷ [] → flat_of P' Q' E ≡ entered (flat_of P Q E)
entered_flat P D Q cur E P' Q' n ok e p q =
    ap (λ x. flat_of x Q' E) p ∙ ap (λ x. flat_of (P ++ cur ∷ []) x E) (q ∙ ap (λ z. Q ++ z ∷ []) e) ∙ enter_flat P D Q cur E ok

pub any_default : (xs : List ℕ) (i d e : ℕ) → i < length xs → get_or xs i d ≡ get_or xs i e
any_default [] i d e h = absurd (omega arith)
any_default (x ∷ xs) zero d e h = refl
any_default (x ∷ xs) (suc i) d e h = any_default xs i d e (omega arith)

pub left_kept : (P D Q : List ℕ) (cur : ℕ) (E : List Kept) (Q' : List ℕ) (up v : ℕ) → IsKept P D Q cur E → Q ≢ [] → v ≡ length Q → Q' ≡ take (v - 1) Q → up ≡ get_or P (cur - 1) up → IsKept P D Q' up E
left_kept P D Q cur E Q' up v ok h n q u =
    let a : IsKept P D (take (length Q - 1) Q) (get_or P (cur - 1) 0) E = leave_kept P D Q cur E ok h in
    subst (λ x. IsKept P D x up E) (sym (q ∙ ap (λ z. take (z - 1) Q) n))
    (subst (λ x. IsKept P D (take (length Q - 1) Q) x E) (sym (u ∙ any_default P (cur - 1) up 0 (leave_index P D Q cur E ok h))) a)
