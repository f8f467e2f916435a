-- The units as a list.
use Rattle.std.proofs.Common.{◌≡◌, ◌≢◌, ◌<◌, ◌≤◌, ◌⊎◌, inl, inr, ℕ, zero, suc, length, Bool, true, Option, Some, None, List, [], ◌∷◌, refl, ap, ◌∙◌, arith}
use Rattle.std.specs.Prelude.{set, get_or, replicate}
use Rattle.std.specs.List.{list_all}
use Rattle.std.proofs.lemmas.List.Quantifiers.{position-Some}
use Rattle.cr_core.specs.declared.progress.Progress.{Progress}
use Rattle.cr_core.specs.Assignment.{State, untouched, unit_at, or_else, is_open, is_unheld, is_held_by, is_held_once_by_another, may_begin, may_back_up, first_free, first_backup, choice, holding}
use Rattle.cr_core.specs.Sound.{is_sound}
use Rattle.cr_core.proofs.Soundness.{and_true, both_true}

pub length_set : {A : Type 0} (xs : List A) (n : ℕ) (y : A) → length (set xs n y) ≡ length xs
length_set [] n y = refl
length_set (x ∷ xs) zero y = refl
length_set (x ∷ xs) (suc n) y = ap (λ k. suc k) (length_set xs n y)

pub length_replicate : {A : Type 0} (n : ℕ) (x : A) → length (replicate n x) ≡ n
length_replicate zero x = refl
length_replicate (suc n) x = ap (λ k. suc k) (length_replicate n x)

pub get_same : {A : Type 0} (xs : List A) (n : ℕ) (y d : A) → n < length xs → get_or (set xs n y) n d ≡ y
get_same [] n y d below = absurd (omega arith)
get_same (x ∷ xs) zero y d below = refl
get_same (x ∷ xs) (suc n) y d below = get_same xs n y d (omega arith)

pub get_other : {A : Type 0} (xs : List A) (n v : ℕ) (y d : A) → n ≢ v → get_or (set xs n y) v d ≡ get_or xs v d
get_other [] n v y d apart = refl
get_other (x ∷ xs) zero zero y d apart = absurd (apart refl)
get_other (x ∷ xs) zero (suc v) y d apart = refl
get_other (x ∷ xs) (suc n) zero y d apart = refl
get_other (x ∷ xs) (suc n) (suc v) y d apart = get_other xs n v y d (λ e. apart (ap (λ k. suc k) e))

pub get_past : {A : Type 0} (xs : List A) (n : ℕ) (d : A) → length xs ≤ n → get_or xs n d ≡ d
get_past [] n d over = refl
get_past (x ∷ xs) zero d over = absurd (omega arith)
get_past (x ∷ xs) (suc n) d over = get_past xs n d (omega arith)

pub get_default : {A : Type 0} (xs : List A) (n : ℕ) (c d : A) → n < length xs → get_or xs n c ≡ get_or xs n d
get_default [] n c d below = absurd (omega arith)
get_default (x ∷ xs) zero c d below = refl
get_default (x ∷ xs) (suc n) c d below = get_default xs n c d (omega arith)

pub get_replicate : {A : Type 0} (v n : ℕ) (x : A) → get_or (replicate n x) v x ≡ x
get_replicate v zero x = refl
get_replicate zero (suc n) x = refl
get_replicate (suc v) (suc n) x = get_replicate v n x

pub all_get : (p : Progress → Bool) (n : ℕ) (xs : List Progress) (d : Progress) → list_all p xs ≡ true → n < length xs → p (get_or xs n d) ≡ true
all_get p n [] d all below = absurd (omega arith)
all_get p zero (x ∷ xs) d all below = (and_true _ _ all).0
all_get p (suc n) (x ∷ xs) d all below = all_get p n xs d (and_true _ _ all).1 (omega arith)

pub all_set : (p : Progress → Bool) (n : ℕ) (y : Progress) (xs : List Progress) → list_all p xs ≡ true → p y ≡ true → list_all p (set xs n y) ≡ true
all_set p n y [] all one = refl
all_set p zero y (x ∷ xs) all one = both_true (p y) _ one (and_true (p x) _ all).1
all_set p (suc n) y (x ∷ xs) all one =
    let h = and_true (p x) (list_all p xs) all in both_true (p x) _ h.0 (all_set p n y xs h.1 one)

-- the unit that a worker holds
pub held_at : (s : State) (w u : ℕ) → holding s w ≡ Some u → (u < length s.units) × (is_held_by w (unit_at s u).holders ≡ true)
held_at s w u e =
    let f = position-Some (λ (x : Progress). is_held_by w x.holders) s.units u untouched e in (f.0, f.1)

-- the unit that a worker is given
pub record Chosen (s : State) (w u : ℕ) : Type 0 where
  pub within : u < length s.units
  pub is_free_to_take : is_open s.retries (unit_at s u) ≡ true
  pub free : (is_unheld (unit_at s u).holders ≡ true) ⊎ (is_held_once_by_another w (unit_at s u).holders ≡ true)

chosen_by : (s : State) (w u : ℕ) (a b : Option ℕ) → first_free s ≡ a → first_backup s w ≡ b → or_else a b ≡ Some u → Chosen s w u
chosen_by s w u (Some v) b p q e =
    let f = position-Some (may_begin s.retries) s.units u untouched (p ∙ e) in
    let t = and_true (is_open s.retries (unit_at s u)) (is_unheld (unit_at s u).holders) f.1 in
    record { within = f.0; is_free_to_take = t.0; free = inl t.1 }
chosen_by s w u None b p q e =
    let f = position-Some (may_back_up s.retries w) s.units u untouched (q ∙ e) in
    let t = and_true (is_open s.retries (unit_at s u)) (is_held_once_by_another w (unit_at s u).holders) f.1 in
    record { within = f.0; is_free_to_take = t.0; free = inr t.1 }

pub chosen : (s : State) (w u : ℕ) → choice s w ≡ Some u → Chosen s w u
chosen s w u e = chosen_by s w u (first_free s) (first_backup s w) refl refl e

-- what the type keeps

abbrev pub IsKept : ℕ → List Progress → Type 0
IsKept retries units = (length units ≤ 16384) × (retries ≤ 8) × (list_all (is_sound retries) units ≡ true)

pub kept_set : (retries : ℕ) (units : List Progress) (u : ℕ) (y : Progress) → IsKept retries units → is_sound retries y ≡ true → IsKept retries (set units u y)
kept_set retries units u y ok one = (omega (arith, ok.0, length_set units u y), ok.1, all_set (is_sound retries) u y units ok.2 one)
