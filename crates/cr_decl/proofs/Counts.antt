-- A list that is part of another is no longer, so no list that can be continued has more than four words.
use Rattle.std.proofs.Common.{◌≡◌, ◌⊎◌, inl, inr, ℕ, ◌+◌, ◌<◌, ◌≤◌, Bool, true, false, cond, ◌&&◌, ◌||◌, eqb, leb, List, [], ◌∷◌, length, take, refl, sym, ◌∙◌, ap, subst, arith}
use Rattle.std.specs.List.{list_any, list_all}
use Rattle.std.proofs.lemmas.List.Recursion.{is_count_by}
use Rattle.std.proofs.lemmas.Bool.{eqb-true, eq-eqb, leb-true}
use Rattle.std.proofs.lemmas.List.{length-take-le}
use Rattle.cr_decl.specs.declared.SpecWord.{SpecWord}
use Rattle.cr_decl.specs.Specifiers.{number, same_word, count, is_part, permitted, continues}

-- how many words have a number
abbrev pub counted : ℕ → List SpecWord → ℕ
counted n [] = 0
counted n (y ∷ ys) = cond (eqb n (number y)) 1 0 + counted n ys

pub one_more : (b : Bool) (n : ℕ) → cond b 1 0 + n ≡ cond b (1 + n) n
one_more true n = refl
one_more false n = omega arith

pub counted_is : (x : SpecWord) (ws : List SpecWord) → counted (number x) ws ≡ count x ws
counted_is x ws =
    is_count_by (counted (number x)) (same_word x) refl (λ y ys. one_more (eqb (number x) (number y)) (counted (number x) ys)) ws

pub and_both : (a b : Bool) → (a && b) ≡ true → (a ≡ true) × (b ≡ true)
and_both true true h = (refl, refl)
and_both true false h = cc
and_both false b h = cc

-- of the words of zs, what holds of each word's count
pub covered : (xs ys zs : List SpecWord) → list_all (λ x. leb (count x xs) (count x ys)) zs ≡ true → (n : ℕ) → (counted n zs ≡ 0) ⊎ (counted n xs ≤ counted n ys)
covered xs ys [] h n = inl refl
covered xs ys (z ∷ zs) h n = by (eqb n (number z)) refl (and_both (leb (count z xs) (count z ys)) (list_all (λ x. leb (count x xs) (count x ys)) zs) h) (λ g. covered xs ys zs g n)
  where
    by : (b : Bool) → eqb n (number z) ≡ b → (leb (count z xs) (count z ys) ≡ true) × (list_all (λ x. leb (count x xs) (count x ys)) zs ≡ true) → (list_all (λ x. leb (count x xs) (count x ys)) zs ≡ true → (counted n zs ≡ 0) ⊎ (counted n xs ≤ counted n ys)) → (cond b 1 0 + counted n zs ≡ 0) ⊎ (counted n xs ≤ counted n ys)
    by true e g rest =
        let same : n ≡ number z = eqb-true n (number z) e in
        let le : count z xs ≤ count z ys = leb-true (count z xs) (count z ys) g.0 in
        let own : counted (number z) xs ≤ counted (number z) ys = omega (arith, counted_is z xs, counted_is z ys) in
        inr (subst (λ m. counted m xs ≤ counted m ys) (sym same) own)
    by false e g rest = elim (rest g.1) [ inl k ↦ inl (omega (arith, k)) | inr k ↦ inr k ]

-- without the first word that has a number
abbrev pub without : ℕ → List SpecWord → List SpecWord
without n [] = []
without n (y ∷ ys) = cond (eqb n (number y)) ys (y ∷ without n ys)

-- one word with the number is there, and is taken out
pub record Taken (n : ℕ) (ys : List SpecWord) : Type 0 where
  pub shorter : length ys ≡ 1 + length (without n ys)
  pub others : (m : ℕ) → counted m ys ≡ cond (eqb m n) 1 0 + counted m (without n ys)

pub taken : (n : ℕ) (ys : List SpecWord) → 0 < counted n ys → Taken n ys
taken n [] h = absurd (omega arith)
taken n (y ∷ ys) h = by (eqb n (number y)) refl h (λ g. taken n ys g)
  where
    at_it : (b : Bool) → eqb n (number y) ≡ b → b ≡ true → Taken n (y ∷ ys)
    at_it b e q =
        let same : n ≡ number y = eqb-true n (number y) (e ∙ q) in
        let is : without n (y ∷ ys) ≡ ys = ap (λ c. cond c ys (y ∷ without n ys)) (e ∙ q) in
        record {
          shorter = (let l : length (without n (y ∷ ys)) ≡ length ys = ap length is in omega arith);
          others = λ m.
              ap (λ z. cond (eqb m z) 1 0 + counted m ys) (sym same) ∙ ap (λ z. cond (eqb m n) 1 0 + counted m z) (sym is);
        }

    past_it : eqb n (number y) ≡ false → Taken n ys → Taken n (y ∷ ys)
    past_it e t =
        let is : without n (y ∷ ys) ≡ y ∷ without n ys = ap (λ c. cond c ys (y ∷ without n ys)) e in
        record {
          shorter = (let l : length (without n (y ∷ ys)) ≡ length (y ∷ without n ys) = ap length is in let k : length ys ≡ 1 + length (without n ys) = t.shorter in omega arith);
          others = λ m.
              (let o : counted m ys ≡ cond (eqb m n) 1 0 + counted m (without n ys) = t.others m in
              let w : counted m (without n (y ∷ ys)) ≡ cond (eqb m (number y)) 1 0 + counted m (without n ys) = ap (counted m) is in
              omega arith);
        }

    by : (b : Bool) → eqb n (number y) ≡ b → 0 < cond b 1 0 + counted n ys → (0 < counted n ys → Taken n ys) → Taken n (y ∷ ys)
    by true e h rest = at_it true e refl
    by false e h rest = past_it e (rest (omega arith))

pub part_length : (xs ys : List SpecWord) → ((n : ℕ) → counted n xs ≤ counted n ys) → length xs ≤ length ys
part_length [] ys h = omega arith
part_length (x ∷ xs) ys h =
    let n : ℕ = number x in
    let own : eqb n n ≡ true = eq-eqb n n refl in
    let one : counted n (x ∷ xs) ≡ 1 + counted n xs = ap (λ b. cond b 1 0 + counted n xs) own in
    let first : counted n (x ∷ xs) ≤ counted n ys = h n in
    let t : Taken n ys = taken n ys (omega arith) in
    let rest : length xs ≤ length (without n ys) =
    part_length xs (without n ys) (λ m. (let a : cond (eqb m n) 1 0 + counted m xs ≤ counted m ys = h m in let o : counted m ys ≡ cond (eqb m n) 1 0 + counted m (without n ys) = t.others m in omega arith)) in
    let l : length ys ≡ 1 + length (without n ys) = t.shorter in
    omega arith

pub part_is_short : (xs ys : List SpecWord) → is_part xs ys ≡ true → length xs ≤ length ys
part_is_short xs ys h =
    part_length xs ys (λ n. elim (covered xs ys xs h n) [ inl k ↦ omega (arith, k) | inr k ↦ k ])

pub one_is_short : (ws : List SpecWord) (lists : List (List SpecWord)) → list_any (is_part ws) lists ≡ true → list_all (λ p. leb (length p) 4) lists ≡ true → length ws ≤ 4
one_is_short ws [] h g = cc
one_is_short ws (p ∷ lists) h g = by (is_part ws p) refl h (and_both (leb (length p) 4) (list_all (λ p. leb (length p) 4) lists) g) (λ a b. one_is_short ws lists a b)
  where
    by : (b : Bool) → is_part ws p ≡ b → (b || list_any (is_part ws) lists) ≡ true → (leb (length p) 4 ≡ true) × (list_all (λ p. leb (length p) 4) lists ≡ true) → (list_any (is_part ws) lists ≡ true → list_all (λ p. leb (length p) 4) lists ≡ true → length ws ≤ 4) → length ws ≤ 4
    by true e h g rest =
        let a : length ws ≤ length p = part_is_short ws p e in
        let b : length p ≤ 4 = leb-true (length p) 4 g.0 in
        omega arith
    by false e h g rest = rest h g.1

pub permitted_are_short : list_all (λ p. leb (length p) 4) permitted ≡ true
unfolding permitted
permitted_are_short = refl

pub continued_is_short : (ws : List SpecWord) → continues ws ≡ true → length ws ≤ 4
continued_is_short ws h = one_is_short ws permitted h permitted_are_short

pub taken_is_short : (ws : List SpecWord) (n : ℕ) (b : Bool) → n < length ws → b ≡ continues (take (n + 1) ws) → b ≡ true → n + 1 ≤ 4
taken_is_short ws n b h e t =
    let l : length (take (n + 1) ws) ≡ n + 1 = length-take-le (n + 1) ws (omega arith) in
    let k : length (take (n + 1) ws) ≤ 4 = continued_is_short (take (n + 1) ws) (sym e ∙ t) in
    omega arith
