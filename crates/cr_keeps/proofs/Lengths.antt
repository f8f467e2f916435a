-- The length of edited bytes is where their end is shifted to.
use Rattle.std.proofs.Common.{◌≡◌, ℕ, zero, suc, ◌+◌, ◌-◌, ◌<◌, ◌≤◌, Bool, true, false, List, [], ◌∷◌, ◌++◌, length, take, drop, refl, ap, sym, arith, length-append}
use Rattle.std.specs.Prelude.{nat_lt, if◌then◌else◌}
use Rattle.std.proofs.lemmas.Bool.{lt-ltb}
use Rattle.cr_base.specs.Substitution.{Rise, substituted_from, shifted}
use Rattle.cr_keeps.proofs.JoinedStated.{LengthsShift}

rise_end : (from : ℕ) (offsets : List ℕ) (old_len end : ℕ) → Rise from offsets old_len end → from ≤ end
rise_end from [] old_len end h = h
rise_end from (o ∷ offsets) old_len end h = let w : o + old_len ≤ end = rise_end (o + old_len) offsets old_len end h.1 in omega (arith, h.0, w)

taken : (n : ℕ) (xs : List ℕ) → n ≤ length xs → length (take n xs) ≡ n
taken zero xs h = refl
taken (suc n) [] h = absurd (omega (arith, h))
taken (suc n) (x ∷ xs) h = ap suc (taken n xs (omega (arith, h)))

dropped : (n : ℕ) (xs : List ℕ) → length (drop n xs) ≡ length xs - n
dropped zero xs = omega arith
dropped (suc n) [] = omega arith
dropped (suc n) (x ∷ xs) = let w : length (drop n xs) ≡ length xs - n = dropped n xs in omega (arith, w)

parts : (a b c : List ℕ) → length (a ++ b ++ c) ≡ length a + length b + length c
parts a b c = grind (arith, length-append)

lengths : (from : ℕ) (offsets : List ℕ) (old_len : ℕ) (new bytes : List ℕ) (end : ℕ) → 0 < old_len → Rise from offsets old_len end → end ≡ from + length bytes
    → from + length (substituted_from from offsets old_len new bytes) ≡ shifted offsets old_len (length new) end
lengths from [] old_len new bytes end some h e = sym e
lengths from (o ∷ offsets) old_len new bytes end some h e =
    by (nat_lt o end) inside
    (lengths (o + old_len) offsets old_len new (drop (o + old_len - from) bytes) end some h.1 (omega (arith, e, h.0, rise_end (o + old_len) offsets old_len end h.1, dropped (o + old_len - from) bytes)))
  where
    inside : nat_lt o end ≡ true
    inside = let w : o < end = omega (arith, some, rise_end (o + old_len) offsets old_len end h.1) in lt-ltb o end w

    by : (b : Bool) → b ≡ true → (o + old_len) + length (substituted_from (o + old_len) offsets old_len new (drop (o + old_len - from) bytes)) ≡ shifted offsets old_len (length new) end
        → from + length (take (o - from) bytes ++ new ++ substituted_from (o + old_len) offsets old_len new (drop (o + old_len - from) bytes)) ≡ (if b then shifted offsets old_len (length new) end + length new - old_len else shifted offsets old_len (length new) end)
    by false q k = cc
    by true q k =
        let a : length (take (o - from) bytes ++ new ++ substituted_from (o + old_len) offsets old_len new (drop (o + old_len - from) bytes)) ≡ length (take (o - from) bytes) + length new + length (substituted_from (o + old_len) offsets old_len new (drop (o + old_len - from) bytes)) = parts (take (o - from) bytes) new (substituted_from (o + old_len) offsets old_len new (drop (o + old_len - from) bytes)) in
        let c : length (take (o - from) bytes) ≡ o - from = taken (o - from) bytes (omega (arith, e, h.0, rise_end (o + old_len) offsets old_len end h.1)) in
        omega (arith, a, c, k, h.0)

pub lengths_shift : LengthsShift
lengths_shift offsets old_len new bytes some rise = let w : 0 + length (substituted_from 0 offsets old_len new bytes) ≡ shifted offsets old_len (length new) (length bytes) = lengths 0 offsets old_len new bytes (length bytes) some rise (omega arith) in omega (arith, w)
