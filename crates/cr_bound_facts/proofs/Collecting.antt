-- Rows that are collected one by one.
use Rattle.std.proofs.Common.{◌≡◌, ◌+◌, ℕ, suc, Some, List, [], ◌∷◌, ◌++◌, take, slice_get, sym, ap, ◌∙◌, arith}
use Rattle.std.proofs.Math.Seq.{take-suc}
use Rattle.std.proofs.lemmas.Option.{get_or_from_slice_get, slice_get_within}

-- one more element of a list is taken
pub one_more : {A : Type 0} (xs ys : List A) (i : ℕ) (x : A) → ys ≡ take i xs → slice_get xs i ≡ Some x → ys ++ x ∷ [] ≡ take (i + 1) xs
one_more xs ys i x h is =
    ap (λ zs. zs ++ x ∷ []) h
    ∙ ap (λ z. take i xs ++ z ∷ []) (sym (get_or_from_slice_get xs i x x is))
    ∙ sym (take-suc xs i x (slice_get_within xs i x is))
    ∙ ap (λ k. take k xs) (let e : suc i ≡ i + 1 = grind arith in e)
