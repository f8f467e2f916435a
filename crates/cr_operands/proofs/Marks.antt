-- Marks, and the operands of them.
use Rattle.std.proofs.Common.{◌≡◌, inl, inr, ◌⊎◌, ℕ, suc, ◌+◌, ◌-◌, ◌<◌, ◌≤◌, if◌then◌else◌, List, [], ◌∷◌, length, reverse, get_or, refl, sym, ap, ◌∙◌, arith}
use Rattle.std.proofs.lemmas.Bool.{eq-eqb, ne_eqb, cases_lt}
use Rattle.std.proofs.lemmas.List.{length-reverse, get_or-reverse}
use Rattle.cr_operands.specs.declared.values.Row.{Row}
use Rattle.cr_operands.specs.Kept.{chain, AreBelow}

-- a mark keeps its operands as rows are added
pub grown : (r : Row) (rs : List Row) (n : ℕ) → n ≤ length rs → chain n (r ∷ rs) ≡ chain n rs
grown r rs n h =
    ap (λ b. if b then r.ty ∷ chain r.rest rs else chain n rs) (ne_eqb n (length rs + 1) (λ e. absurd (omega (arith, e, h))))

pub top_row : (r : Row) (rs : List Row) → chain (length rs + 1) (r ∷ rs) ≡ r.ty ∷ chain r.rest rs
top_row r rs =
    ap (λ b. if b then r.ty ∷ chain r.rest rs else chain (length rs + 1) rs) (eq-eqb (length rs + 1) (length rs + 1) refl)

pub none_below : (rs : List Row) → chain 0 rs ≡ []
none_below [] = refl
none_below (r ∷ rs) = grown r rs 0 (omega arith) ∙ none_below rs

-- the row of a mark, which stands so far from the end
pub read : (rs : List Row) (k : ℕ) (r : Row) → AreBelow rs → k < length rs → r ≡ get_or rs (length rs - 1 - k) r
    → (chain (k + 1) rs ≡ r.ty ∷ chain r.rest rs) × (r.rest ≤ k)
read [] k r h lt e = absurd (omega (arith, lt))
read (x ∷ rs) k r h lt e = by (cases_lt k (length rs)) (λ less at. read rs k r h.1 less at)
  where
    by : (k < length rs) ⊎ (length rs ≤ k) → (k < length rs → r ≡ get_or rs (length rs - 1 - k) r → (chain (k + 1) rs ≡ r.ty ∷ chain r.rest rs) × (r.rest ≤ k))
        → (chain (k + 1) (x ∷ rs) ≡ r.ty ∷ chain r.rest (x ∷ rs)) × (r.rest ≤ k)
    by (inl less) below =
        let at : length (x ∷ rs) - 1 - k ≡ suc (length rs - 1 - k) = omega (arith, less) in
        let lower = below less (e ∙ ap (λ n. get_or (x ∷ rs) n r) at) in
        let low : r.rest ≤ k = lower.1 in (
          grown x rs (k + 1) (omega (arith, less)) ∙ lower.0 ∙ ap (λ l. r.ty ∷ l) (sym (grown x rs r.rest (omega (arith, less, low)))),
          low,
        )
    by (inr more) below =
        let last : k ≡ length rs = omega (arith, lt, more) in
        let at : length (x ∷ rs) - 1 - k ≡ 0 = omega (arith, last) in
        let same : r ≡ x = e ∙ ap (λ n. get_or (x ∷ rs) n r) at in
        let low : x.rest ≤ length rs = h.0 in
        let rests : r.rest ≡ x.rest = ap (λ (z : Row). z.rest) same in (
          ap (λ n. chain (n + 1) (x ∷ rs)) last
              ∙ top_row x rs
              ∙ ap (λ l. x.ty ∷ l) (sym (grown x rs x.rest low))
              ∙ ap (λ (z : Row). z.ty ∷ chain z.rest (x ∷ rs)) (sym same),
          omega (arith, last, low, rests),
        )

-- ---- rows as they are kept, from the first one

pub row_at : (rows : List Row) (mark k : ℕ) (r : Row) → AreBelow (reverse rows) → mark ≡ k + 1 → k < length rows → r ≡ get_or rows k r
    → (chain mark (reverse rows) ≡ r.ty ∷ chain r.rest (reverse rows)) × (r.rest ≤ length (reverse rows))
row_at rows mark k r below is lt at =
    let count : length (reverse rows) ≡ length rows = length-reverse rows in
    let turned : get_or (reverse rows) (length rows - 1 - k) r ≡ get_or rows (length rows - 1 - (length rows - 1 - k)) r = get_or-reverse rows (length rows - 1 - k) r (omega arith) in
    let index : length rows - 1 - (length rows - 1 - k) ≡ k = omega arith in
    let far : length (reverse rows) - 1 - k ≡ length rows - 1 - k = ap (λ n. n - 1 - k) count in
    let there = read (reverse rows) k r below (omega arith) (at ∙ sym (turned ∙ ap (λ n. get_or rows n r) index) ∙ ap (λ n. get_or (reverse rows) n r) (sym far)) in
    let low : r.rest ≤ k = there.1 in
    (ap (λ n. chain n (reverse rows)) is ∙ there.0, omega arith)
