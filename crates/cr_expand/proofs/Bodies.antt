-- The items of a body, one after another.
use Rattle.std.proofs.Common.{◌≡◌, ℕ, zero, suc, ◌+◌, ◌-◌, ◌<◌, Bool, false, List, [], ◌∷◌, length, drop, get_or, refl, sym, ap, ◌∙◌, arith, add-one, drop-cons}
use Rattle.cr_base.specs.declared.token.PpTok.{PpTok}
use Rattle.cr_macros.specs.Tokens.{Text, Token, MacroText, tokens_of}
use Rattle.cr_macros.specs.Substitution as spec

pub cut_at : {A : Type 0} (xs : List A) (i : ℕ) (d : A) → i < length xs → drop i xs ≡ get_or xs i d ∷ drop (i + 1) xs
cut_at xs i d h = drop-cons xs i d h ∙ ap (λ n. get_or xs i d ∷ drop n xs) (sym (add-one i))

skip_one : (m : MacroText) (beside : Bool) (n : ℕ) (t : Token) (ts : List Token) → spec.items m beside (suc n) (t ∷ ts) ≡ spec.items m false n ts
skip_one m beside n t ts = refl

pub items_skip : (names : List Text) (m : MacroText) (beside : Bool) (skip : ℕ) (body : List PpTok) (i : ℕ) → 0 < skip → i < length body
    → spec.items m beside skip (tokens_of names (drop i body)) ≡ spec.items m false (skip - 1) (tokens_of names (drop (i + 1) body))
items_skip names m beside zero body i h k = absurd (omega arith)
items_skip names m beside (suc n) [] i h k = absurd (omega arith)
items_skip names m beside (suc n) (t ∷ ts) i h k =
    let e : suc n - 1 ≡ n = omega arith in
    ap (λ l. spec.items m beside (suc n) (tokens_of names l)) (cut_at (t ∷ ts) i t k)
    ∙ ap (λ x. spec.items m false x (tokens_of names (drop (i + 1) (t ∷ ts)))) (sym e)
