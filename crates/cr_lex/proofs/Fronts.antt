-- Which fronts of a text pass a test of its kind.
use Rattle.std.proofs.Common.{◌≡◌, ℕ, zero, suc, ◌+◌, ◌<◌, ◌≤◌, ◌⊎◌, inl, inr, Bool, true, false, not, ◌&&◌, cond, List, [], ◌∷◌, length, take, Option, Some, None, Ok, Err, refl, ap, sym, ◌∙◌, arith}
use Rattle.std.specs.Prelude.{◌==◌, if◌then◌else◌}
use Rattle.std.specs.List.{list_all}
use Rattle.std.specs.Option.{option_map}
use Rattle.std.proofs.lemmas.Bool.{cases_eq, eq-eqb, ne_eqb, eqb-true}
use Rattle.cr_lex.specs.Spellings.{is_empty, goes_on_behind, goes_on_a_number, is_elements_and, is_up_to_end}
use Rattle.cr_lex.specs.Joins.{Cell, text_of}
use Rattle.cr_lex.specs.Scanning.{behind, run, run_end, number_run, number_end, closing, closed, ok, block, block_end}

-- runs

pub run_in : (test : ℕ → Bool) (bs : List ℕ) (m : ℕ) → m ≤ run test bs → list_all test (take m bs) ≡ true
run_in test bs zero h = refl
run_in test [] (suc m) h = absurd (omega arith)
run_in test (b ∷ bs) (suc m) h = by (test b) refl h (run_in test bs m)
  where
    by : (t : Bool) → test b ≡ t → suc m ≤ cond t (suc (run test bs)) 0 → (m ≤ run test bs → list_all test (take m bs) ≡ true) → list_all test (b ∷ take m bs) ≡ true
    by true e h ih = ap (λ t. t && list_all test (take m bs)) e ∙ ih (omega arith)
    by false e h ih = absurd (omega arith)

pub run_out : (test : ℕ → Bool) (bs : List ℕ) (m : ℕ) → run test bs < m → m ≤ length bs → list_all test (take m bs) ≡ false
run_out test [] m h l = absurd (omega arith)
run_out test (b ∷ bs) zero h l = absurd (omega arith)
run_out test (b ∷ bs) (suc m) h l = by (test b) refl h (run_out test bs m)
  where
    by : (t : Bool) → test b ≡ t → cond t (suc (run test bs)) 0 < suc m → (run test bs < m → m ≤ length bs → list_all test (take m bs) ≡ false) → list_all test (b ∷ take m bs) ≡ false
    by true e h ih = ap (λ t. t && list_all test (take m bs)) e ∙ ih (omega arith) (omega arith)
    by false e h ih = ap (λ t. t && list_all test (take m bs)) e

pub run_fits : (test : ℕ → Bool) (bs : List ℕ) → run test bs ≤ length bs
run_fits test [] = omega arith
run_fits test (b ∷ bs) = by (test b) (run_fits test bs)
  where
    by : (t : Bool) → run test bs ≤ length bs → cond t (suc (run test bs)) 0 ≤ length (b ∷ bs)
    by true h = omega arith
    by false h = omega arith

pub run_cells : (test : ℕ → Bool) (from : ℕ) (cs : List Cell) → run_end test from cs ≡ behind (run test (text_of cs)) from cs
run_cells test from [] = refl
run_cells test from (c ∷ cs) = by (test c.byte) (run_cells test (c.at + 1) cs)
  where
    by : (t : Bool) → run_end test (c.at + 1) cs ≡ behind (run test (text_of cs)) (c.at + 1) cs → cond t (run_end test (c.at + 1) cs) from ≡ behind (cond t (suc (run test (text_of cs))) 0) from (c ∷ cs)
    by true h = h
    by false h = refl

-- numbers

pub number_in : (a : ℕ) (bs : List ℕ) (m : ℕ) → m ≤ number_run a bs → goes_on_a_number a (take m bs) ≡ true
number_in a bs zero h = refl
number_in a [] (suc m) h = absurd (omega arith)
number_in a (b ∷ bs) (suc m) h = by (goes_on_behind a b) refl h (number_in b bs m)
  where
    by : (t : Bool) → goes_on_behind a b ≡ t → suc m ≤ cond t (suc (number_run b bs)) 0 → (m ≤ number_run b bs → goes_on_a_number b (take m bs) ≡ true) → goes_on_a_number a (b ∷ take m bs) ≡ true
    by true e h ih = ap (λ t. t && goes_on_a_number b (take m bs)) e ∙ ih (omega arith)
    by false e h ih = absurd (omega arith)

pub number_out : (a : ℕ) (bs : List ℕ) (m : ℕ) → number_run a bs < m → m ≤ length bs → goes_on_a_number a (take m bs) ≡ false
number_out a [] m h l = absurd (omega arith)
number_out a (b ∷ bs) zero h l = absurd (omega arith)
number_out a (b ∷ bs) (suc m) h l = by (goes_on_behind a b) refl h (number_out b bs m)
  where
    by : (t : Bool) → goes_on_behind a b ≡ t → cond t (suc (number_run b bs)) 0 < suc m → (number_run b bs < m → m ≤ length bs → goes_on_a_number b (take m bs) ≡ false) → goes_on_a_number a (b ∷ take m bs) ≡ false
    by true e h ih = ap (λ t. t && goes_on_a_number b (take m bs)) e ∙ ih (omega arith) (omega arith)
    by false e h ih = ap (λ t. t && goes_on_a_number b (take m bs)) e

pub number_fits : (a : ℕ) (bs : List ℕ) → number_run a bs ≤ length bs
number_fits a [] = omega arith
number_fits a (b ∷ bs) = by (goes_on_behind a b) (number_fits b bs)
  where
    by : (t : Bool) → number_run b bs ≤ length bs → cond t (suc (number_run b bs)) 0 ≤ length (b ∷ bs)
    by true h = omega arith
    by false h = omega arith

pub number_cells : (a from : ℕ) (cs : List Cell) → number_end a from cs ≡ behind (number_run a (text_of cs)) from cs
number_cells a from [] = refl
number_cells a from (c ∷ cs) = by (goes_on_behind a c.byte) (number_cells c.byte (c.at + 1) cs)
  where
    by : (t : Bool) → number_end c.byte (c.at + 1) cs ≡ behind (number_run c.byte (text_of cs)) (c.at + 1) cs → cond t (number_end c.byte (c.at + 1) cs) from ≡ behind (cond t (suc (number_run c.byte (text_of cs))) 0) from (c ∷ cs)
    by true h = h
    by false h = refl

-- texts that end in one place alone

abbrev pub is_at : ℕ → Option ℕ → Bool
is_at m None = false
is_at m (Some n) = n == m

eqb_suc : (m n : ℕ) → (suc n == suc m) ≡ (n == m)
eqb_suc m n = by (cases_eq n m)
  where
    by : (n ≡ m) ⊎ (n ≡ m → ⊥) → (suc n == suc m) ≡ (n == m)
    by (inl e) = eq-eqb (suc n) (suc m) (omega arith) ∙ sym (eq-eqb n m e)
    by (inr d) = ne_eqb (suc n) (suc m) (λ e. d (omega arith)) ∙ sym (ne_eqb n m d)

pub at_suc : (m : ℕ) (o : Option ℕ) → is_at (suc m) (option_map suc o) ≡ is_at m o
at_suc m None = refl
at_suc m (Some n) = eqb_suc m n

pub at_none : (o : Option ℕ) → is_at zero (option_map suc o) ≡ false
at_none None = refl
at_none (Some n) = ne_eqb (suc n) zero (λ e. omega arith)

pub at_one : (m : ℕ) (bs : List ℕ) → m ≤ length bs → is_empty (take m bs) ≡ (1 == suc m)
at_one zero bs h = refl
at_one (suc m) [] h = absurd (omega arith)
at_one (suc m) (b ∷ bs) h = sym (ne_eqb 1 (suc (suc m)) (λ e. omega arith))

behind_suc : (from : ℕ) (c : Cell) (cs : List Cell) (o : Option ℕ) → option_map (λ n. behind n (c.at + 1) cs) o ≡ option_map (λ n. behind n from (c ∷ cs)) (option_map suc o)
behind_suc from c cs None = refl
behind_suc from c cs (Some n) = refl

-- literals, byte by byte: a backslash that escapes is directly before, or not

abbrev pub body : ℕ → Bool → List ℕ → Bool
body q escaped [] = false
body q escaped (b ∷ bs) = if b == 10 then false else if not escaped && b == q then is_empty bs else body q (not escaped && b == 92) bs

pub body_of : (q : ℕ) → (q == 10) ≡ false → (q == 92) ≡ false → (xs : List ℕ) → is_elements_and q xs ≡ body q false xs
body_of q f g [] = refl
body_of q f g (a ∷ []) = by (a == q) (a == 10) (λ e k. let same : q ≡ 10 = sym (eqb-true a q e) ∙ eqb-true a 10 k in sym (eq-eqb q 10 same) ∙ f)
  where
    by : (t u : Bool) → (t ≡ true → u ≡ true → true ≡ false) → t ≡ cond u false (cond t true false)
    by true true h = h refl refl
    by true false h = refl
    by false true h = refl
    by false false h = refl
body_of q f g (a ∷ b ∷ bs) =
    by (a == 92) (a == q) (a == 10)
    (λ e k. let same : q ≡ 92 = sym (eqb-true a q k) ∙ eqb-true a 92 e in sym (eq-eqb q 92 same) ∙ g)
    (λ e k. let same : 92 ≡ 10 = sym (eqb-true a 92 e) ∙ eqb-true a 10 k in absurd (omega arith))
    (body_of q f g bs) (body_of q f g (b ∷ bs))
  where
    pass : (v : Bool) → is_elements_and q bs ≡ body q false bs → (not v && is_elements_and q bs) ≡ cond v false (body q false bs)
    pass true i = refl
    pass false i = i

    by : (s t u : Bool) → (s ≡ true → t ≡ true → true ≡ false) → (s ≡ true → u ≡ true → true ≡ false) → is_elements_and q bs ≡ body q false bs → is_elements_and q (b ∷ bs) ≡ body q false (b ∷ bs)
        → cond s (not (b == 10) && is_elements_and q bs) (not t && not u && is_elements_and q (b ∷ bs)) ≡ cond u false (cond t false (body q s (b ∷ bs)))
    by true true u h k i j = let bad : true ≡ false = h refl refl in cc
    by true false true h k i j = let bad : true ≡ false = k refl refl in cc
    by true false false h k i j = pass (b == 10) i
    by false true true h k i j = refl
    by false true false h k i j = refl
    by false false true h k i j = refl
    by false false false h k i j = j

body_at : (q : ℕ) (escaped : Bool) (bs : List ℕ) (m : ℕ) → m ≤ length bs → body q escaped (take m bs) ≡ is_at m (closing q escaped bs)
body_at q escaped [] zero h = refl
body_at q escaped [] (suc m) h = absurd (omega arith)
body_at q escaped (b ∷ bs) zero h = by (b == 10) (not escaped && b == q)
  where
    by : (t u : Bool) → false ≡ is_at zero (cond t None (cond u (Some 1) (option_map suc (closing q (not escaped && b == 92) bs))))
    by true u = refl
    by false true = refl
    by false false = sym (at_none (closing q (not escaped && b == 92) bs))
body_at q escaped (b ∷ bs) (suc m) h = by (b == 10) (not escaped && b == q) (body_at q (not escaped && b == 92) bs m (omega arith))
  where
    by : (t u : Bool) → body q (not escaped && b == 92) (take m bs) ≡ is_at m (closing q (not escaped && b == 92) bs)
        → cond t false (cond u (is_empty (take m bs)) (body q (not escaped && b == 92) (take m bs))) ≡ is_at (suc m) (cond t None (cond u (Some 1) (option_map suc (closing q (not escaped && b == 92) bs))))
    by true u ih = refl
    by false true ih = at_one m bs (omega arith)
    by false false ih = ih ∙ sym (at_suc m (closing q (not escaped && b == 92) bs))

pub elements_at : (q : ℕ) → (q == 10) ≡ false → (q == 92) ≡ false → (bs : List ℕ) (m : ℕ) → m ≤ length bs → is_elements_and q (take m bs) ≡ is_at m (closing q false bs)
elements_at q f g bs m h = body_of q f g (take m bs) ∙ body_at q false bs m h

pub closing_fits : (q : ℕ) (escaped : Bool) (bs : List ℕ) (n : ℕ) → closing q escaped bs ≡ Some n → n ≤ length bs
closing_fits q escaped [] n e = cc
closing_fits q escaped (b ∷ bs) n e = by (b == 10) (not escaped && b == q) e (closing_fits q (not escaped && b == 92) bs)
  where
    one : (o : Option ℕ) → option_map suc o ≡ Some n → ((k : ℕ) → o ≡ Some k → k ≤ length bs) → n ≤ length (b ∷ bs)
    one None e ih = cc
    one (Some k) e ih = let same : suc k ≡ n = cc in omega (arith, ih k refl)

    by : (t u : Bool) → cond t None (cond u (Some 1) (option_map suc (closing q (not escaped && b == 92) bs))) ≡ Some n → ((k : ℕ) → closing q (not escaped && b == 92) bs ≡ Some k → k ≤ length bs) → n ≤ length (b ∷ bs)
    by true u e ih = cc
    by false true e ih = let same : 1 ≡ n = cc in omega arith
    by false false e ih = one (closing q (not escaped && b == 92) bs) e ih

pub closed_cells : (q : ℕ) (escaped : Bool) (from : ℕ) (cs : List Cell) → ok (closed q escaped from cs) ≡ option_map (λ n. behind n from cs) (closing q escaped (text_of cs))
closed_cells q escaped from [] = refl
closed_cells q escaped from (c ∷ cs) = by (c.byte == 10) (not escaped && c.byte == q) (closed_cells q (not escaped && c.byte == 92) (c.at + 1) cs)
  where
    by : (t u : Bool) → ok (closed q (not escaped && c.byte == 92) (c.at + 1) cs) ≡ option_map (λ n. behind n (c.at + 1) cs) (closing q (not escaped && c.byte == 92) (text_of cs))
        → ok (cond t (Err c.at) (cond u (Ok (c.at + 1)) (closed q (not escaped && c.byte == 92) (c.at + 1) cs)))
        ≡ option_map (λ n. behind n from (c ∷ cs)) (cond t None (cond u (Some 1) (option_map suc (closing q (not escaped && c.byte == 92) (text_of cs)))))
    by true u ih = refl
    by false true ih = refl
    by false false ih = ih ∙ behind_suc from c cs (closing q (not escaped && c.byte == 92) (text_of cs))

-- comments

abbrev pub tail : Bool → List ℕ → Bool
tail star [] = false
tail star (b ∷ bs) = if star && b == 47 then is_empty bs else tail (b == 42) bs

tail_of : (a : ℕ) (xs : List ℕ) → is_up_to_end (a ∷ xs) ≡ tail (a == 42) xs
tail_of a [] = refl
tail_of a (b ∷ bs) = ap (λ t. cond (a == 42 && b == 47) (is_empty bs) t) (tail_of b bs)

pub tail_all : (xs : List ℕ) → is_up_to_end xs ≡ tail false xs
tail_all [] = refl
tail_all (a ∷ xs) = tail_of a xs

tail_at : (star : Bool) (bs : List ℕ) (m : ℕ) → m ≤ length bs → tail star (take m bs) ≡ is_at m (block star bs)
tail_at star [] zero h = refl
tail_at star [] (suc m) h = absurd (omega arith)
tail_at star (b ∷ bs) zero h = by (star && b == 47)
  where
    by : (t : Bool) → false ≡ is_at zero (cond t (Some 1) (option_map suc (block (b == 42) bs)))
    by true = refl
    by false = sym (at_none (block (b == 42) bs))
tail_at star (b ∷ bs) (suc m) h = by (star && b == 47) (tail_at (b == 42) bs m (omega arith))
  where
    by : (t : Bool) → tail (b == 42) (take m bs) ≡ is_at m (block (b == 42) bs)
        → cond t (is_empty (take m bs)) (tail (b == 42) (take m bs)) ≡ is_at (suc m) (cond t (Some 1) (option_map suc (block (b == 42) bs)))
    by true ih = at_one m bs (omega arith)
    by false ih = ih ∙ sym (at_suc m (block (b == 42) bs))

pub up_to_end_at : (bs : List ℕ) (m : ℕ) → m ≤ length bs → is_up_to_end (take m bs) ≡ is_at m (block false bs)
up_to_end_at bs m h = tail_all (take m bs) ∙ tail_at false bs m h

pub block_fits : (star : Bool) (bs : List ℕ) (n : ℕ) → block star bs ≡ Some n → n ≤ length bs
block_fits star [] n e = cc
block_fits star (b ∷ bs) n e = by (star && b == 47) e (block_fits (b == 42) bs)
  where
    one : (o : Option ℕ) → option_map suc o ≡ Some n → ((k : ℕ) → o ≡ Some k → k ≤ length bs) → n ≤ length (b ∷ bs)
    one None e ih = cc
    one (Some k) e ih = let same : suc k ≡ n = cc in omega (arith, ih k refl)

    by : (t : Bool) → cond t (Some 1) (option_map suc (block (b == 42) bs)) ≡ Some n → ((k : ℕ) → block (b == 42) bs ≡ Some k → k ≤ length bs) → n ≤ length (b ∷ bs)
    by true e ih = let same : 1 ≡ n = cc in omega arith
    by false e ih = one (block (b == 42) bs) e ih

pub block_cells : (star : Bool) (from : ℕ) (cs : List Cell) → block_end star cs ≡ option_map (λ n. behind n from cs) (block star (text_of cs))
block_cells star from [] = refl
block_cells star from (c ∷ cs) = by (star && c.byte == 47) (block_cells (c.byte == 42) (c.at + 1) cs)
  where
    by : (t : Bool) → block_end (c.byte == 42) cs ≡ option_map (λ n. behind n (c.at + 1) cs) (block (c.byte == 42) (text_of cs))
        → cond t (Some (c.at + 1)) (block_end (c.byte == 42) cs) ≡ option_map (λ n. behind n from (c ∷ cs)) (cond t (Some 1) (option_map suc (block (c.byte == 42) (text_of cs))))
    by true ih = refl
    by false ih = ih ∙ behind_suc from c cs (block (c.byte == 42) (text_of cs))
