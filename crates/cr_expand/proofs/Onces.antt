-- Laws of sets that have no name twice.
use Rattle.std.proofs.Common.{◌≡◌, ℕ, zero, suc, ◌<◌, Bool, true, false, List, [], ◌∷◌, ◌++◌, length, get_or, drop, drop-cons, refl, sym, ap, ◌∙◌, subst}
use Rattle.std.specs.Prelude.{◌==◌, ◌||◌, not, if◌then◌else◌}
use Rattle.std.specs.List.{All}
use Rattle.std.proofs.lemmas.Bool.{eq-eqb, or_left, or_right, or_from, or_parts, not-true}
use Rattle.std.proofs.lemmas.List.Elements.{All-head, All-tail}
use Rattle.std.proofs.lemmas.List.Folds.{list_any-append}
use Rattle.cr_base.specs.declared.token.Name.{Name}
use Rattle.cr_macros.specs.Definition.{has_name}
use Rattle.cr_expand.specs.HideSets.{Sets, set_at, with_number, with_numbers, in_both, AreOnce}

pub or_none : (b : Bool) → (b || false) ≡ b
or_none true = refl
or_none false = refl

-- each name of the first is in the second
abbrev AreIn : List Name → List Name → Type 0
AreIn as1 bs = (n : Name) → has_name as1 n ≡ true → has_name bs n ≡ true

pub has_append : (as1 bs : List Name) (n : Name) → has_name (as1 ++ bs) n ≡ (has_name as1 n || has_name bs n)
has_append as1 bs n = list_any-append (λ p. n.0 == p.0) as1 bs

has_first : (n : Name) (ns : List Name) → has_name (n ∷ ns) n ≡ true
has_first n ns = or_left (n.0 == n.0) (has_name ns n) (eq-eqb n.0 n.0 refl)

later_in : (a : Name) (as1 bs : List Name) → AreIn (a ∷ as1) bs → AreIn as1 bs
later_in a as1 bs h n k = h n (or_right (n.0 == a.0) (has_name as1 n) k)

with_old : (n : Name) (set : List Name) → has_name set n ≡ true → with_number n set ≡ set
with_old n set h = ap (λ b. if b then set else n ∷ set) h

pub with_fresh : (n : Name) (set : List Name) → has_name set n ≡ false → with_number n set ≡ n ∷ set
with_fresh n set h = ap (λ b. if b then set else n ∷ set) h

-- all of them are there already
pub numbers_in : (set bs : List Name) → AreIn bs set → with_numbers set bs ≡ set
numbers_in set [] h = refl
numbers_in set (b ∷ bs) h = ap (with_number b) (numbers_in set bs (later_in b bs set h)) ∙ with_old b set (h b (has_first b bs))

pub both_in : (as1 bs : List Name) → AreOnce as1 → AreIn as1 bs → in_both as1 bs ≡ as1
both_in [] bs o h = refl
both_in (a ∷ as1) bs o h =
    ap (λ b. if b then with_number a (in_both as1 bs) else in_both as1 bs) (h a (has_first a as1))
    ∙ ap (with_number a) (both_in as1 bs o.1 (later_in a as1 bs h))
    ∙ with_fresh a as1 o.0

pub once_after : (more set : List Name) → AreOnce (more ++ set) → AreOnce set
once_after [] set h = h
once_after (m ∷ more) set h = once_after more set h.1

pub both_none : (as1 : List Name) → in_both as1 [] ≡ []
both_none [] = refl
both_none (a ∷ as1) = both_none as1

pub set_once : (sets : Sets) (i : ℕ) → All AreOnce sets → AreOnce (set_at sets i)
set_once [] i h = tt
set_once (s ∷ ss) zero h = All-head AreOnce s ss h
set_once (s ∷ ss) (suc i) h = set_once ss i (All-tail AreOnce s ss h)

absent_one : (set : List Name) (a n : Name) → (n.0 == a.0) ≡ false → has_name set n ≡ false → has_name (with_number a set) n ≡ false
absent_one set a n e h = go (has_name set a) where
  go : (b : Bool) → has_name (if b then set else a ∷ set) n ≡ false
  go true = h
  go false = or_from (n.0 == a.0) (has_name set n) e h

absent_all : (set bs : List Name) (n : Name) → has_name set n ≡ false → has_name bs n ≡ false → has_name (with_numbers set bs) n ≡ false
absent_all set [] n h k = h
absent_all set (b ∷ bs) n h k =
    let parts = or_parts (n.0 == b.0) (has_name bs n) k in
    absent_one (with_numbers set bs) b n parts.0 (absent_all set bs n h parts.1)

absent_both : (as1 bs : List Name) (n : Name) → has_name as1 n ≡ false → has_name (in_both as1 bs) n ≡ false
absent_both [] bs n h = refl
absent_both (a ∷ as1) bs n h = go (has_name bs a) (or_parts (n.0 == a.0) (has_name as1 n) h).0 (absent_both as1 bs n (or_parts (n.0 == a.0) (has_name as1 n) h).1) where
  go : (b : Bool) → (n.0 == a.0) ≡ false → has_name (in_both as1 bs) n ≡ false → has_name (if b then with_number a (in_both as1 bs) else in_both as1 bs) n ≡ false
  go true e k = absent_one (in_both as1 bs) a n e k
  go false e k = k

present_one : (set : List Name) (a n : Name) → has_name set n ≡ true → has_name (with_number a set) n ≡ true
present_one set a n h = go (has_name set a) where
  go : (b : Bool) → has_name (if b then set else a ∷ set) n ≡ true
  go true = h
  go false = or_right (n.0 == a.0) (has_name set n) h

present_all : (set bs : List Name) (n : Name) → has_name set n ≡ true → has_name (with_numbers set bs) n ≡ true
present_all set [] n h = h
present_all set (b ∷ bs) n h = present_one (with_numbers set bs) b n (present_all set bs n h)

once_drop : (j : ℕ) (names : List Name) → AreOnce names → AreOnce (drop j names)
once_drop zero names o = o
once_drop (suc j) [] o = o
once_drop (suc j) (n ∷ names) o = once_drop j names o.1

-- a name of such a list isn't behind its place
pub once_at : (names : List Name) (j i : ℕ) (n : Name) → AreOnce names → i ≡ suc j → j < length names → n ≡ get_or names j n → has_name (drop i names) n ≡ false
once_at names j i n o e h k =
    let cut : AreOnce (get_or names j n ∷ drop (suc j) names) = subst AreOnce (drop-cons names j n h) (once_drop j names o) in
    ap (λ x. has_name (drop x names) n) e ∙ ap (has_name (drop (suc j) names)) k ∙ cut.0

-- one more name of those that a set lacks
pub missing_new : (set names : List Name) (j i : ℕ) (n : Name) → AreOnce names → i ≡ suc j → j < length names → n ≡ get_or names j n → not (has_name set n) ≡ true → has_name (with_numbers set (drop i names)) n ≡ false
missing_new set names j i n o e h k w = absent_all set (drop i names) n (not-true (has_name set n) w) (once_at names j i n o e h k)

pub missing_at : (set names : List Name) (j i : ℕ) (n : Name) → AreOnce names → i ≡ suc j → j < length names → n ≡ get_or names j n
    → (if not (has_name set n) then n ∷ with_numbers set (drop i names) else with_numbers set (drop i names)) ≡ with_number n (with_numbers set (drop i names))
missing_at set names j i n o e h k = go (has_name set n) refl where
  go : (b : Bool) → has_name set n ≡ b → (if not b then n ∷ with_numbers set (drop i names) else with_numbers set (drop i names)) ≡ with_number n (with_numbers set (drop i names))
  go true f = sym (with_old n (with_numbers set (drop i names)) (present_all set (drop i names) n f))
  go false f = sym (with_fresh n (with_numbers set (drop i names)) (missing_new set names j i n o e h k (ap not f)))

-- one more name of those that both have
pub common_new : (names bs : List Name) (j i : ℕ) (n : Name) → AreOnce names → i ≡ suc j → j < length names → n ≡ get_or names j n → has_name (in_both (drop i names) bs) n ≡ false
common_new names bs j i n o e h k = absent_both (drop i names) bs n (once_at names j i n o e h k)
