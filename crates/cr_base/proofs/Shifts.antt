-- Where the bytes of a file stand after a substitution.
use Rattle.std.proofs.Common.{◌≡◌, ℕ, ◌+◌, ◌-◌, ◌<◌, ◌≤◌, ◌⊎◌, inl, inr, false, List, [], ◌∷◌, ◌++◌, length, take, drop, get_or, refl, ap, ◌∙◌, arith, zero, suc, length-append, length-drop, append_assoc}
use Rattle.std.specs.Prelude.{if◌then◌else◌, nat_lt}
use Rattle.std.specs.List.{Contains}
use Rattle.std.proofs.lemmas.Bool.{lt-ltb, le-ltb}
use Rattle.std.proofs.lemmas.List.{get_or-append-add, get_or_append_left, get_or-take, get_or-drop, length-take-le}
use Rattle.std.proofs.Math.Seq.{take-append_seam, drop-append_seam, drop-append-add}
use Rattle.cr_base.specs.Substitution.{Rise, substituted_from, shifted, IsKept, ShiftsToBytes}

module _ (old new_len : ℕ) where
  -- a byte before all places stays
  pub shifted-before : (offsets : List ℕ) (from end at : ℕ) → Rise from offsets old end → at ≤ from → shifted offsets old new_len at ≡ at
  shifted-before [] from end at rise h = refl
  shifted-before (o ∷ os) from end at rise h =
      let no : nat_lt o at ≡ false = le-ltb o at (omega (arith, rise.0)) in
      ap (λ b. if b then shifted os old new_len at + new_len - old else shifted os old new_len at) no
      ∙ shifted-before os (o + old) end at rise.1 (omega (arith, rise.0))

  pub shifted-behind : (o at : ℕ) (os : List ℕ) → o < at → shifted (o ∷ os) old new_len at ≡ shifted os old new_len at + new_len - old
  shifted-behind o at os h = ap (λ b. if b then shifted os old new_len at + new_len - old else shifted os old new_len at) (lt-ltb o at h)

  pub shifted-upto : (o at : ℕ) (os : List ℕ) → at ≤ o → shifted (o ∷ os) old new_len at ≡ shifted os old new_len at
  shifted-upto o at os h = ap (λ b. if b then shifted os old new_len at + new_len - old else shifted os old new_len at) (le-ltb o at h)

  -- a kept byte behind an offset stays behind it, whatever is replaced from there on
  pub shifted-from : (offsets : List ℕ) (from end at : ℕ) → 0 < old → Rise from offsets old end → from ≤ at → IsKept offsets old at → from ≤ shifted offsets old new_len at
  shifted-from [] from end at some rise h kept = h
  shifted-from (o ∷ os) from end at some rise h kept = by kept.0 (λ g. shifted-from os (o + old) end at some rise.1 g kept.1)
    where
      by : ((at < o) ⊎ (o + old ≤ at)) → (o + old ≤ at → o + old ≤ shifted os old new_len at) → from ≤ shifted (o ∷ os) old new_len at
      by (inl before) rest =
          let e : shifted (o ∷ os) old new_len at ≡ at = shifted-upto o at os (omega arith) ∙ shifted-before os (o + old) end at rise.1 (omega arith) in
          omega arith
      by (inr behind) rest =
          let e : shifted (o ∷ os) old new_len at ≡ shifted os old new_len at + new_len - old = shifted-behind o at os (omega arith) in
          let k = rest behind in
          omega (arith, rise.0)

-- one of a list is its head or one of its tail
pub head_or_tail : (o p : ℕ) (os : List ℕ) → Contains (o ∷ os) p → (o ≡ p) ⊎ Contains os p
head_or_tail o p os (zero, h, e) = inl e
head_or_tail o p os (suc k, h, e) = inr (k, omega arith, e)

-- a place that rises from an offset stands behind it
pub place-from : (offsets : List ℕ) (old from end p : ℕ) → Rise from offsets old end → Contains offsets p → from ≤ p
place-from [] old from end p rise (k, h, e) = absurd (omega arith)
place-from (o ∷ os) old from end p rise here =
    by (head_or_tail o p os here) (λ g. place-from os old (o + old) end p rise.1 g)
  where
    by : ((o ≡ p) ⊎ Contains os p) → (Contains os p → o + old ≤ p) → from ≤ p
    by (inl e) rest = omega (arith, rise.0)
    by (inr g) rest = let k = rest g in omega (arith, rise.0)

module _ (old : ℕ) (new : List ℕ) (some : 0 < old) where
  -- a place stays behind the offset from which it rises
  pub place-shifted-from : (offsets : List ℕ) (from end p : ℕ) → Rise from offsets old end → Contains offsets p → from ≤ shifted offsets old (length new) p
  place-shifted-from [] from end p rise (k, h, e) = absurd (omega arith)
  place-shifted-from (o ∷ os) from end p rise here = by (head_or_tail o p os here) (λ g. place-shifted-from os (o + old) end p rise.1 g)
    where
      by : ((o ≡ p) ⊎ Contains os p) → (Contains os p → o + old ≤ shifted os old (length new) p) → from ≤ shifted (o ∷ os) old (length new) p
      by (inl e) rest =
          let k : shifted (o ∷ os) old (length new) p ≡ p = shifted-upto old (length new) o p os (omega arith) ∙ shifted-before old (length new) os (o + old) end p rise.1 (omega arith) in
          omega (arith, rise.0)
      by (inr g) rest =
          let far = place-from os old (o + old) end p rise.1 g in
          let k : shifted (o ∷ os) old (length new) p ≡ shifted os old (length new) p + length new - old = shifted-behind old (length new) o p os (omega arith) in
          let m = rest g in
          omega (arith, rise.0)

  pub front-length : (from o : ℕ) (bytes : List ℕ) → o ≤ from + length bytes → length (take (o - from) bytes ++ new) ≡ o - from + length new
  front-length from o bytes h =
      let e : length (take (o - from) bytes) ≡ o - from = length-take-le (o - from) bytes (omega arith) in
      length-append (take (o - from) bytes) new ∙ ap (λ n. n + length new) e

  pub Rise-end : (offsets : List ℕ) (from end : ℕ) → Rise from offsets old end → from ≤ end
  Rise-end [] from end rise = rise
  Rise-end (o ∷ os) from end rise = let k = Rise-end os (o + old) end rise.1 in omega (arith, rise.0)

  pub kept-bytes : (offsets : List ℕ) (from : ℕ) (bytes : List ℕ) (end at i j : ℕ) → end ≡ from + length bytes → Rise from offsets old end → at < end → IsKept offsets old at
      → at ≡ from + i → shifted offsets old (length new) at ≡ from + j
      → get_or (substituted_from from offsets old new bytes) j 0 ≡ get_or bytes i 0
  kept-bytes [] from bytes end at i j size rise high kept e f = ap (λ n. get_or bytes n 0) (omega arith)
  kept-bytes (o ∷ os) from bytes end at i j size rise high kept e f =
      by kept.0 (λ k l g h. kept-bytes os (o + old) (drop (o + old - from) bytes) end at k l (omega (arith, length-drop (o + old - from) bytes, Rise-end os (o + old) end rise.1, rise.0)) rise.1 high kept.1 g h)
    where
      front : length (take (o - from) bytes ++ new) ≡ o - from + length new
      front = front-length from o bytes (omega (arith, Rise-end os (o + old) end rise.1))

      by : ((at < o) ⊎ (o + old ≤ at))
          → ((k l : ℕ) → at ≡ o + old + k → shifted os old (length new) at ≡ o + old + l → get_or (substituted_from (o + old) os old new (drop (o + old - from) bytes)) l 0 ≡ get_or (drop (o + old - from) bytes) k 0)
          → get_or (substituted_from from (o ∷ os) old new bytes) j 0 ≡ get_or bytes i 0
      by (inl before) rest =
          let stays : shifted (o ∷ os) old (length new) at ≡ at = shifted-upto old (length new) o at os (omega arith) ∙ shifted-before old (length new) os (o + old) end at rise.1 (omega arith) in
          let same : j ≡ i = omega arith in
          let fits : length (take (o - from) bytes) ≡ o - from = length-take-le (o - from) bytes (omega (arith, Rise-end os (o + old) end rise.1)) in
          ap (λ n. get_or (substituted_from from (o ∷ os) old new bytes) n 0) same
          ∙ get_or_append_left (take (o - from) bytes ++ new) (substituted_from (o + old) os old new (drop (o + old - from) bytes)) 0 i (omega (arith, front, rise.0))
          ∙ get_or_append_left (take (o - from) bytes) new 0 i (omega (arith, rise.0))
          ∙ get_or-take (o - from) bytes i 0 (omega (arith, rise.0))
      by (inr behind) rest =
          let moves : shifted (o ∷ os) old (length new) at ≡ shifted os old (length new) at + length new - old = shifted-behind old (length new) o at os (omega arith) in
          let far = shifted-from old (length new) os (o + old) end at some rise.1 behind kept.1 in
          let k : ℕ = at - (o + old) in
          let l : ℕ = shifted os old (length new) at - (o + old) in
          let place : j ≡ length (take (o - from) bytes ++ new) + l = omega (arith, front, rise.0) in
          ap (λ n. get_or (substituted_from from (o ∷ os) old new bytes) n 0) place
          ∙ get_or-append-add (take (o - from) bytes ++ new) (substituted_from (o + old) os old new (drop (o + old - from) bytes)) l 0
          ∙ rest k l (omega arith) (omega arith)
          ∙ get_or-drop (o + old - from) bytes k 0
          ∙ ap (λ n. get_or bytes n 0) (omega (arith, rise.0))

  pub place-bytes : (offsets : List ℕ) (from : ℕ) (bytes : List ℕ) (end p j : ℕ) → end ≡ from + length bytes → Rise from offsets old end → Contains offsets p
      → shifted offsets old (length new) p ≡ from + j
      → take (length new) (drop j (substituted_from from offsets old new bytes)) ≡ new
  place-bytes [] from bytes end p j size rise (k, h, e) f = absurd (omega arith)
  place-bytes (o ∷ os) from bytes end p j size rise here f =
      by (head_or_tail o p os here) (λ l h g. place-bytes os (o + old) (drop (o + old - from) bytes) end p l (omega (arith, length-drop (o + old - from) bytes, Rise-end os (o + old) end rise.1, rise.0)) rise.1 h g)
    where
      front : length (take (o - from) bytes ++ new) ≡ o - from + length new
      front = front-length from o bytes (omega (arith, Rise-end os (o + old) end rise.1))

      by : ((o ≡ p) ⊎ Contains os p)
          → ((l : ℕ) → Contains os p → shifted os old (length new) p ≡ o + old + l → take (length new) (drop l (substituted_from (o + old) os old new (drop (o + old - from) bytes))) ≡ new)
          → take (length new) (drop j (substituted_from from (o ∷ os) old new bytes)) ≡ new
      by (inl same) rest =
          let stays : shifted (o ∷ os) old (length new) p ≡ p = shifted-upto old (length new) o p os (omega arith) ∙ shifted-before old (length new) os (o + old) end p rise.1 (omega arith) in
          let fits : length (take (o - from) bytes) ≡ o - from = length-take-le (o - from) bytes (omega (arith, Rise-end os (o + old) end rise.1)) in
          let place : j ≡ length (take (o - from) bytes) = omega (arith, rise.0) in
          let tail = substituted_from (o + old) os old new (drop (o + old - from) bytes) in
          ap (λ n. take (length new) (drop n (take (o - from) bytes ++ new ++ tail))) place
          ∙ ap (λ l. take (length new) (drop (length (take (o - from) bytes)) l)) (append_assoc (take (o - from) bytes) new tail)
          ∙ ap (λ l. take (length new) l) (drop-append_seam (take (o - from) bytes) (new ++ tail))
          ∙ take-append_seam new tail
      by (inr later) rest =
          let moves : shifted (o ∷ os) old (length new) p ≡ shifted os old (length new) p + length new - old = shifted-behind old (length new) o p os (omega (arith, place-from os old (o + old) end p rise.1 later)) in
          let far = place-shifted-from os (o + old) end p rise.1 later in
          let l : ℕ = shifted os old (length new) p - (o + old) in
          let place : j ≡ length (take (o - from) bytes ++ new) + l = omega (arith, front, rise.0) in
          ap (λ n. take (length new) (drop n (substituted_from from (o ∷ os) old new bytes))) place
          ∙ ap (λ s. take (length new) s) (drop-append-add (take (o - from) bytes ++ new) (substituted_from (o + old) os old new (drop (o + old - from) bytes)) l)
          ∙ rest l later (omega arith)

pub shifts : ShiftsToBytes
shifts offsets old new bytes some rise =
    ((λ at h kept. kept-bytes old new some offsets 0 bytes (length bytes) at at (shifted offsets old (length new) at) (omega arith) rise h kept (omega arith) (omega arith)), λ p here. place-bytes old new some offsets 0 bytes (length bytes) p (shifted offsets old (length new) p) (omega arith) rise here (omega arith))
