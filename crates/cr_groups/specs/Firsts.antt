-- The first of each key in a list, in a table.
use Rattle.std.specs.Prelude.{◌≡◌, ℕ, ◌<◌, ◌≤◌, eqb, cond, Option, Some, None, List, slice_get, MatchOption}
use Rattle.std.specs.Map.{lookup}

abbrev pub find_number : ℕ → List (ℕ × ℕ) → Option ℕ
find_number k fs = lookup {K = ℕ} (eqb k) fs

-- the number that a key has when one more is noted under it
abbrev pub or_number : Option ℕ → ℕ → ℕ
or_number None n = n
or_number (Some c) n = c

-- what has a key is noted under it, unless something is already
abbrev pub Notes : Option ℕ → ℕ → List (ℕ × ℕ) → List (ℕ × ℕ) → Type 0
Notes None n fs fs' = fs' ≡ fs
Notes (Some k) n fs fs' =
    (a : ℕ) → find_number a fs' ≡ cond (eqb k a) (Some (or_number (find_number k fs) n)) (find_number a fs)

-- number c is the first of a list that has the key k, and it is among the first n
pub record IsFirstOf {A : Type 0} (key : A → Option ℕ) (xs : List A) (n k c : ℕ) : Type 0 where
  pub before : c < n
  pub itself : (x : A) × (slice_get xs c ≡ Some x) × (key x ≡ Some k)
  pub earliest : (j : ℕ) (y : A) → slice_get xs j ≡ Some y → key y ≡ Some k → c ≤ j

-- none of the first n has the key k
abbrev pub NoneOf : {A : Type 0} → (A → Option ℕ) → List A → ℕ → ℕ → Type 0
NoneOf {A} key xs n k = (j : ℕ) (y : A) → j < n → slice_get xs j ≡ Some y → key y ≡ Some k → ⊥

-- the table has the first of each key among the first n
abbrev pub AreFirsts : {A : Type 0} → (A → Option ℕ) → List A → List (ℕ × ℕ) → ℕ → Type 0
AreFirsts key xs fs n = (k : ℕ) → MatchOption (find_number k fs) (NoneOf key xs n k) (IsFirstOf key xs n k)
