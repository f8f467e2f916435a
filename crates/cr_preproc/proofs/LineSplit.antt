-- The first of some tokens, and those behind it.
use Rattle.std.proofs.Common.{◌≡◌, ◌≤◌, ◌-◌, ℕ, suc, List, [], ◌∷◌, length, get_or, take, drop, refl, ap, sym, ◌∙◌, arith}
use Rattle.cr_base.specs.declared.token.PpTok.{PpTok}

take_all : (ts : List PpTok) → take (length ts) ts ≡ ts
take_all [] = refl
take_all (t ∷ ts) = ap (λ l. t ∷ l) (take_all ts)

one_less : (n : ℕ) → suc n - 1 ≡ n
one_less n = omega arith

behind_first : (t : PpTok) (ts : List PpTok) → t ∷ ts ≡ t ∷ take (length (t ∷ ts) - 1) ts
behind_first t ts = ap (λ l. t ∷ l) (sym (ap (λ n. take n ts) (one_less (length ts)) ∙ take_all ts))

pub split : (ts : List PpTok) (d : PpTok) → 1 ≤ length ts → ts ≡ get_or ts 0 d ∷ take (length ts - 1) (drop 1 ts)
split [] d h = absurd (let no : ⊥ = omega (arith, h) in no)
split (t ∷ ts) d h = behind_first t ts

pub first_of : (ts : List PpTok) → 1 ≤ length ts → (first : PpTok) × (ts ≡ first ∷ take (length ts - 1) (drop 1 ts))
first_of [] h = absurd (let no : ⊥ = omega (arith, h) in no)
first_of (t ∷ ts) h = (t, behind_first t ts)
