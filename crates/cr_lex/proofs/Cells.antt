-- The cells from an offset on: at a join, at a byte, and behind some of them.
use Rattle.std.proofs.Common.{◌≡◌, ◌≢◌, ℕ, zero, suc, ◌+◌, ◌-◌, ◌<◌, ◌≤◌, Bool, true, false, cond, List, [], ◌∷◌, length, get_or, drop, refl, ap, sym, ◌∙◌, arith, ◌⊎◌, inl, inr, ◌&&◌, length-drop, drop_of_length-le}
use Rattle.std.specs.Prelude.{◌==◌}
use Rattle.std.proofs.lemmas.Bool.{cases_Bool}
use Rattle.std.proofs.lemmas.List.{drop_more}
use Rattle.std.proofs.lemmas.List.Sums.{count_by_more_no, count_by_more_yes}
use Rattle.cr_lex.specs.Joins.{Cell, cells, join_len, begins, joined_from, unless_joined, line_after, is_trigraph}
use Rattle.cr_lex.specs.Scanning.{cell_of}
use Rattle.cr_lex.specs.Joins.{rest, line_at}

line_more : (bytes : List ℕ) (at : ℕ) → at < length bytes → line_at bytes (at + 1) ≡ line_after (line_at bytes at) (get_or bytes at 0)
line_more bytes at h = by (cases_Bool (get_or bytes at 0 == 10))
  where
    by : ((get_or bytes at 0 == 10) ≡ true) ⊎ ((get_or bytes at 0 == 10) ≡ false) → line_at bytes (at + 1) ≡ line_after (line_at bytes at) (get_or bytes at 0)
    by (inl e) = rw e (omega (arith, count_by_more_yes (λ b. b == 10) bytes at 0 h e))
    by (inr e) = rw e (omega (arith, count_by_more_no (λ b. b == 10) bytes at 0 h e))

-- the cells from an offset on, of which the first bytes belong to a join
abbrev rest_in : List ℕ → ℕ → ℕ → List Cell
rest_in bytes skip at = cells skip at (line_at bytes at) (drop at bytes)

cells_next : (bytes : List ℕ) (skip at : ℕ) → at < length bytes
    → rest_in bytes skip at ≡ unless_joined (cell_of bytes at) (rest_in bytes (joined_from (drop at bytes) skip - 1) (at + 1)) (joined_from (drop at bytes) skip)
unfolding cells
cells_next bytes skip at h = go (drop at bytes) (drop_more bytes at 0 h)
  where
    go : (left : List ℕ) → left ≡ get_or bytes at 0 ∷ drop (at + 1) bytes
        → cells skip at (line_at bytes at) left ≡ unless_joined (record { byte = get_or bytes at 0; at = at; line = line_at bytes at; trigraph = is_trigraph left }) (rest_in bytes (joined_from left skip - 1) (at + 1)) (joined_from left skip)
    go [] e = cc
    go (b ∷ bs) e =
        let same : b ≡ get_or bytes at 0 = cc in
        let more : bs ≡ drop (at + 1) bytes = cc in
        rw (line_more bytes at h, ← same, ← more) refl

rest_skip : (bytes : List ℕ) (n at : ℕ) → at + n ≤ length bytes → rest_in bytes n at ≡ rest bytes (at + n)
unfolding rest
rest_skip bytes zero at h = ap (λ k. rest_in bytes zero k) (omega arith)
rest_skip bytes (suc n) at h =
    cells_next bytes (suc n) at (omega arith)
    ∙ ap (λ k. rest_in bytes k (at + 1)) (let e : suc n - 1 ≡ n = omega arith in e)
    ∙ rest_skip bytes n (at + 1) (omega arith)
    ∙ ap (rest bytes) (let e : at + 1 + n ≡ at + suc n = omega arith in e)

pub rest_byte : (bytes : List ℕ) (at : ℕ) → at < length bytes → join_len (drop at bytes) ≡ zero → rest bytes at ≡ cell_of bytes at ∷ rest bytes (at + 1)
unfolding rest
rest_byte bytes at h e =
    cells_next bytes zero at h ∙ ap (λ n. unless_joined (cell_of bytes at) (rest_in bytes (n - 1) (at + 1)) n) e

pub rest_join : (bytes : List ℕ) (at n : ℕ) → at < length bytes → n ≡ join_len (drop at bytes) → n ≢ 0 → at + n ≤ length bytes → rest bytes (at + n) ≡ rest bytes at
unfolding rest
rest_join bytes at zero h e ne fits = absurd (ne refl)
rest_join bytes at (suc n) h e ne fits =
    sym (cells_next bytes zero at h
    ∙ ap (λ n. unless_joined (cell_of bytes at) (rest_in bytes (n - 1) (at + 1)) n) (sym e)
    ∙ ap (λ k. rest_in bytes k (at + 1)) (let e : suc n - 1 ≡ n = omega arith in e)
    ∙ rest_skip bytes n (at + 1) (omega arith)
    ∙ ap (rest bytes) (let e : at + 1 + n ≡ at + suc n = omega arith in e))

pub rest_end : (bytes : List ℕ) (at : ℕ) → length bytes ≤ at → rest bytes at ≡ []
unfolding rest cells
rest_end bytes at h = ap (cells zero at (line_at bytes at)) (drop_of_length-le bytes h)

begins_fits : (front bytes : List ℕ) → begins front bytes ≡ true → length front ≤ length bytes
begins_fits [] bytes h = omega arith
begins_fits (f ∷ fs) [] h = cc
begins_fits (f ∷ fs) (b ∷ bs) h = let k = begins_fits fs bs in by (f == b) h k
  where
    by : (t : Bool) → (t && begins fs bs) ≡ true → (begins fs bs ≡ true → length fs ≤ length bs) → length (f ∷ fs) ≤ length (b ∷ bs)
    by true h k = omega (arith, k h)
    by false h k = cc

join_fits : (bytes : List ℕ) → join_len bytes ≤ length bytes
join_fits bytes = by (begins (92 ∷ 10 ∷ []) bytes) (begins (92 ∷ 13 ∷ 10 ∷ []) bytes) (begins_fits (92 ∷ 10 ∷ []) bytes) (begins_fits (92 ∷ 13 ∷ 10 ∷ []) bytes)
  where
    by : (p q : Bool) → (p ≡ true → 2 ≤ length bytes) → (q ≡ true → 3 ≤ length bytes) → cond p 2 (cond q 3 0) ≤ length bytes
    by true q f g = f refl
    by false true f g = g refl
    by false false f g = omega arith

pub join_within : (bytes : List ℕ) (at n : ℕ) → at < length bytes → n ≡ join_len (drop at bytes) → at + n ≤ length bytes
join_within bytes at n h e = omega (arith, join_fits (drop at bytes), length-drop at bytes)
