-- How the digits of a number are gone over.
use Rattle.std.proofs.Common.{◌≡◌, ℕ, ◌+◌, ◌*◌, ◌^◌, ◌<◌, ◌≤◌, Bool, true, false, cond, List, [], ◌∷◌, length, get_or, drop, refl, ap, sym, ◌∙◌, arith, Some, None, drop-cons, add-one}
use Rattle.std.proofs.lemmas.Nat.{mul-le}
use Rattle.std.proofs.lemmas.List.{drop_all}
use Rattle.std.specs.Prelude.{nat_lt}
use Rattle.std.proofs.lemmas.Bool.Decides.{nat_tests}
use Rattle.cr_cond.specs.Constants.{digit, is_digit_of, number, word}

cut_at : (xs : List ℕ) (i : ℕ) → i < length xs → drop i xs ≡ get_or xs i 0 ∷ drop (i + 1) xs
cut_at xs i h = drop-cons xs i 0 h ∙ ap (λ n. get_or xs i 0 ∷ drop n xs) (sym (add-one i))

number_at : (base n : ℕ) (xs : List ℕ) (i : ℕ) (b : Bool) → i < length xs → is_digit_of base (get_or xs i 0) ≡ b → number base n (drop i xs) ≡ cond b (number base (n * base + digit (get_or xs i 0)) (drop (i + 1) xs)) n
number_at base n xs i b h e =
    ap (number base n) (cut_at xs i h) ∙ ap (λ z. cond z (number base (n * base + digit (get_or xs i 0)) (drop (i + 1) xs)) n) e

-- the digits that follow make a number no smaller
grows : (n base : ℕ) → 0 < base → n ≤ n * base
grows n base h = let k : n * 1 ≤ n * base = mul-le n 1 n base (omega arith) (omega arith) in omega arith

number_least : (base : ℕ) (xs : List ℕ) (n : ℕ) → 0 < base → n ≤ number base n xs
number_least base [] n h = omega arith
number_least base (b ∷ bs) n h = go (is_digit_of base b) (number_least base bs (n * base + digit b) h) where
  go : (c : Bool) → n * base + digit b ≤ number base (n * base + digit b) bs → n ≤ cond c (number base (n * base + digit b) bs) n
  go true k = omega (arith, grows n base h)
  go false k = omega arith

word_small : (n : ℕ) → n < 2 ^ 64 → word n ≡ Some n
word_small n h = let e : nat_lt n (2 ^ 64) ≡ true = grind (arith, nat_tests) in ap (λ b. cond b (Some n) None) e

word_large : (n : ℕ) → 2 ^ 64 ≤ n → word n ≡ None
word_large n h = let e : nat_lt n (2 ^ 64) ≡ false = grind (arith, nat_tests) in ap (λ b. cond b (Some n) None) e

is_large : (n : ℕ) → word n ≡ None → 2 ^ 64 ≤ n
is_large n e = go (nat_lt n (2 ^ 64)) refl where
  go : (b : Bool) → nat_lt n (2 ^ 64) ≡ b → 2 ^ 64 ≤ n
  go true k = let no : cond true (Some n) None ≡ None = sym (ap (λ b. cond b (Some n) None) k) ∙ e in absurd (let f : ⊥ = cc in f)
  go false k = grind (arith, nat_tests)

-- where a digit more passes 64 bits, the whole number does
pub stays_large : (base n : ℕ) (xs : List ℕ) (i : ℕ) → 0 < base → i < length xs → is_digit_of base (get_or xs i 0) ≡ true → word (n * base + digit (get_or xs i 0)) ≡ None → word (number base n (drop i xs)) ≡ None
stays_large base n xs i p h d e =
    word_large (number base n (drop i xs))
    (let least : n * base + digit (get_or xs i 0) ≤ number base (n * base + digit (get_or xs i 0)) (drop (i + 1) xs) = number_least base (drop (i + 1) xs) (n * base + digit (get_or xs i 0)) p in
    let large : 2 ^ 64 ≤ n * base + digit (get_or xs i 0) = is_large (n * base + digit (get_or xs i 0)) e in
    omega (arith, number_at base n xs i true h d, least, large))

-- behind the last digit
pub stops_at : (base n : ℕ) (xs : List ℕ) (i : ℕ) → i < length xs → n < 2 ^ 64 → is_digit_of base (get_or xs i 0) ≡ false → Some n ≡ word (number base n (drop i xs))
stops_at base n xs i h b d = sym (word_small n b) ∙ ap word (sym (number_at base n xs i false h d))

pub at_end : (base n : ℕ) (xs : List ℕ) (i : ℕ) → length xs ≤ i → n < 2 ^ 64 → Some n ≡ word (number base n (drop i xs))
at_end base n xs i h b = sym (word_small n b) ∙ ap (λ z. word (number base n z)) (sym (drop_all i xs h))
