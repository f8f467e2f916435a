-- How a list of types grows.
use Rattle.std.proofs.Common.{◌≡◌, inl, inr, ℕ, zero, suc, ◌<◌, Bool, true, false, ◌||◌, if◌then◌else◌, List, [], ◌∷◌, ◌++◌, length, get_or, refl, sym, ap, ◌∙◌, true≢false, arith}
use Rattle.std.specs.List.{list_any}
use Rattle.indexmap.specs.IndexSet.{insert_key}
use Rattle.indexmap.proofs.CallerLemmas.{Contains-list_any}
use Rattle.cr_types.specs.declared.Ty.{Ty}
use Rattle.cr_types.specs.Kept.{IsEquality, Puts}

pub or_true : (a : Bool) → (a || true) ≡ true
or_true true = refl
or_true false = refl

-- a type of the list passes the test for it
pub found : (eq : Ty → Ty → Bool) → ((x : Ty) → eq x x ≡ true) → (x : Ty) (xs : List Ty) (k : ℕ) → k < length xs → get_or xs k x ≡ x → list_any (eq x) xs ≡ true
found eq itself x [] k lt e = absurd (omega arith)
found eq itself x (y ∷ ys) zero lt e = ap (λ z. eq x z || list_any (eq x) ys) e ∙ ap (λ b. b || list_any (eq x) ys) (itself x)
found eq itself x (y ∷ ys) (suc k) lt e =
    let more : list_any (eq x) ys ≡ true = found eq itself x ys k (omega arith) e in
    ap (λ b. eq x y || b) more ∙ or_true (eq x y)

-- what the set's insertion makes, where its test is that of equality
pub puts : {eq : Ty → Ty → Bool} → IsEquality eq → (xs new : List Ty) (x : Ty) → new ≡ insert_key eq xs x → Puts xs x new
puts {eq} is xs new x made = by (list_any (eq x) xs) refl
  where
    by : (b : Bool) → list_any (eq x) xs ≡ b → Puts xs x new
    by true e = inl (Contains-list_any eq is.same xs x e, made ∙ ap (λ b. if b then xs else xs ++ x ∷ []) e)
    by false e = inr (λ h. true≢false (sym (found eq is.itself x xs h.0 h.1 h.2) ∙ e), made ∙ ap (λ b. if b then xs else xs ++ x ∷ []) e)
