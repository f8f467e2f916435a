-- Two rising lists with the same members are one.
use Rattle.std.proofs.Common.{◌≡◌, ℕ, ◌+◌, ◌<◌, ◌≤◌, Bool, true, false, ◌||◌, List, [], ◌∷◌, refl, sym, ap, ◌∙◌, arith, eq-eqb, eqb-true}
use Rattle.std.specs.Prelude.{◌==◌}
use Rattle.std.specs.List.{list_any}
use Rattle.cr_base.specs.Substitution.{Rise}
use Rattle.cr_small_facts.specs.Places.{Rising}

-- the number is among those of a list
abbrev pub among : ℕ → List ℕ → Bool
among n ns = list_any (λ o. n == o) ns

pub first_among : (n : ℕ) (ns : List ℕ) → among n (n ∷ ns) ≡ true
first_among n ns = ap (λ b. b || among n ns) (eq-eqb n n refl)

rising_weaker : (from below : ℕ) (ns : List ℕ) → below ≤ from → Rising from ns → Rising below ns
rising_weaker from below [] h r = tt
rising_weaker from below (n ∷ ns) h r = (omega (arith, h, r.0), r.1)

within : (from : ℕ) (ns : List ℕ) (n : ℕ) → Rising from ns → among n ns ≡ true → from ≤ n
within from [] n r h = let bad : ⊥ = cc in absurd bad
within from (m ∷ ns) n r h = by (n == m) refl h (within (m + 1) ns n r.1)
  where
    by : (b : Bool) → (n == m) ≡ b → (b || among n ns) ≡ true → (among n ns ≡ true → m + 1 ≤ n) → from ≤ n
    by true e g more = let same : n ≡ m = eqb-true n m e in omega (arith, same, r.0)
    by false e g more = let behind = more g in omega (arith, behind, r.0)

-- the first of a rising list is the least
least : (from m : ℕ) (ns : List ℕ) (n : ℕ) → Rising from (m ∷ ns) → among n (m ∷ ns) ≡ true → m ≤ n
least from m ns n r h = by (n == m) refl h
  where
    by : (b : Bool) → (n == m) ≡ b → (b || among n ns) ≡ true → m ≤ n
    by true e g = let same : n ≡ m = eqb-true n m e in omega (arith, same)
    by false e g = let more = within (m + 1) ns n r.1 g in omega (arith, more)

-- it isn't among those behind it
once : (m : ℕ) (ns : List ℕ) → Rising (m + 1) ns → among m ns ≡ false
once m ns r = by (among m ns) refl
  where
    by : (b : Bool) → among m ns ≡ b → b ≡ false
    by true e = absurd (let more = within (m + 1) ns m r e in omega (arith, more))
    by false e = refl

pub same_rising : (f g : ℕ) (ms ns : List ℕ) → Rising f ms → Rising g ns → ((n : ℕ) → among n ms ≡ among n ns) → ms ≡ ns
same_rising f g [] [] r s h = refl
same_rising f g [] (n ∷ ns) r s h = let no : false ≡ true = h n ∙ first_among n ns in let bad : ⊥ = cc in absurd bad
same_rising f g (m ∷ ms) [] r s h = let no : false ≡ true = sym (h m) ∙ first_among m ms in let bad : ⊥ = cc in absurd bad
same_rising f g (m ∷ ms) (n ∷ ns) r s h =
    let under : m ≤ n = least f m ms n r (h n ∙ first_among n ns) in
    let over : n ≤ m = least g n ns m s (sym (h m) ∙ first_among m ms) in
    let same : m ≡ n = omega (arith, under, over) in
    ap (λ k. k ∷ ms) same ∙ ap (λ ks. n ∷ ks) (same_rising (m + 1) (n + 1) ms ns r.1 s.1 (λ k. rest same k (k == m) refl))
  where
    rest : m ≡ n → (k : ℕ) (b : Bool) → (k == m) ≡ b → among k ms ≡ among k ns
    rest same k true e =
        let first : k ≡ m = eqb-true k m e in
        ap (λ x. among x ms) first ∙ once m ms r.1 ∙ sym (once n ns s.1) ∙ ap (λ x. among x ns) (sym same ∙ sym first)
    rest same k false e =
        ap (λ b. b || among k ms) (sym e) ∙ h k ∙ ap (λ x. (k == x) || among k ns) (sym same) ∙ ap (λ b. b || among k ns) e

-- offsets that rise by a length at least rise
pub rising_by : (from len end : ℕ) (ns : List ℕ) → 0 < len → Rise from ns len end → Rising from ns
rising_by from len end [] some r = tt
rising_by from len end (n ∷ ns) some r = (r.0, rising_weaker (n + len) (n + 1) ns (omega (arith, some)) (rising_by (n + len) len end ns some r.1))
