-- No more tokens are made than there were preprocessing tokens, and their texts are those of these.
use Rattle.std.proofs.Common.{◌≡◌, ◌<◌, ◌≤◌, ◌-◌, ◌&&◌, ℕ, suc, Bool, true, false, Option, Some, None, Result, Ok, Err, List, [], ◌∷◌, length, subst, arith}
use Rattle.std.specs.List.{AllByRecursion}
use Rattle.cr_base.specs.declared.token.Place.{Place}
use Rattle.cr_base.specs.declared.token.PpTok.{PpTok}
use Rattle.cr_base.specs.declared.token.Tok.{Tok}
use Rattle.cr_base.specs.declared.token.TokKind.{TokKind}
use Rattle.cr_phase7.specs.declared.tokens.Standing.{Standing}
use Rattle.cr_phase7.specs.declared.tokens.Standing.TheVariants.{Inside, Plain, Pragma, Broken}
use Rattle.cr_phase7.specs.Tokens.{text_of, is_string, kind_by, stand_at, kept_by, kept, token, put_before, put_kind, converted, bad_pragma, ended, tokens_of}

-- texts with numbers below n
abbrev pub HasText : ℕ → PpTok → Type 0
HasText n x = x.text.0 < n

abbrev pub IsBelow : ℕ → Tok → Type 0
IsBelow n t = t.text.0 < n

-- at most so many, with such texts
pub record Few (n k : ℕ) (xs : List PpTok) : Type 0 where
  pub few : length xs ≤ k
  pub texts : AllByRecursion (HasText n) xs

pub record FewTokens (n k : ℕ) (ts : List Tok) : Type 0 where
  pub few : length ts ≤ k
  pub texts : AllByRecursion (IsBelow n) ts

one_more : (n k : ℕ) (x : PpTok) (xs : List PpTok) → HasText n x → Few n k xs → Few n (suc k) (x ∷ xs)
one_more n k x xs h few = record { few = (let y = few.few in grind arith); texts = (h, few.texts) }

any_more : (n k : ℕ) (xs : List PpTok) → Few n k xs → Few n (suc k) xs
any_more n k xs few = record { few = (let y = few.few in grind arith); texts = few.texts }

kept_by_few : (n k : ℕ) (s : Standing) (m : ℕ) (x : PpTok) (rest : ℕ → List PpTok) → HasText n x → ((j : ℕ) → Few n k (rest j)) → Few n (suc k) (kept_by s m x rest)
kept_by_few n k Inside m x rest h more = any_more n k (rest (m - 1)) (more (m - 1))
kept_by_few n k Plain m x rest h more = one_more n k x (rest m) h (more m)
kept_by_few n k Pragma m x rest h more = any_more n k (rest 3) (more 3)
kept_by_few n k Broken m x rest h more = record { few = grind arith; texts = tt }

kept_few : (names : List (List ℕ)) (n : ℕ) (xs : List PpTok) → AllByRecursion (HasText n) xs → (m : ℕ) → Few n (length xs) (kept names m xs)
kept_few names n [] h m = record { few = grind arith; texts = tt }
kept_few names n (x ∷ xs) h m = kept_by_few n (length xs) (stand_at names m x xs) m x (λ j. kept names j xs) h.0 (kept_few names n xs h.1)

-- what is made of some
abbrev AreFew : ℕ → ℕ → Result (List Tok) Place → Type 0
AreFew n k (Ok ts) = FewTokens n k ts
AreFew n k (Err p) = Unit {0}

before_few : (n k : ℕ) (goes : Bool) (t : Tok) (r : Result (List Tok) Place) → IsBelow n t → AreFew n k r → AreFew n (suc k) (put_before goes t r)
before_few n k true t (Ok ts) h few = record { few = (let y = few.few in grind arith); texts = few.texts }
before_few n k false t (Ok ts) h few = record { few = (let y = few.few in grind arith); texts = (h, few.texts) }
before_few n k goes t (Err p) h few = tt

kind_few : (n k : ℕ) (was : Bool) (x : PpTok) (kind : Option TokKind) (rest : Bool → Result (List Tok) Place) → HasText n x → ((b : Bool) → AreFew n k (rest b)) → AreFew n (suc k) (put_kind was x kind rest)
kind_few n k was x None rest h more = tt
kind_few n k was x (Some kind) rest h more = before_few n k (was && is_string kind) (token x kind) (rest (is_string kind)) h (more (is_string kind))

converted_few : (names : List (List ℕ)) (n : ℕ) (xs : List PpTok) → AllByRecursion (HasText n) xs → (was : Bool) → AreFew n (length xs) (converted names was xs)
converted_few names n [] h was = record { few = grind arith; texts = tt }
converted_few names n (x ∷ xs) h was = kind_few n (length xs) was x (kind_by (text_of names x) x.kind) (λ b. converted names b xs) h.0 (converted_few names n xs h.1)

fewer : (n k l : ℕ) (r : Result (List Tok) Place) → k ≤ l → AreFew n k r → AreFew n l r
fewer n k l (Ok ts) le few = record { few = (let y = few.few in grind arith); texts = few.texts }
fewer n k l (Err p) le few = tt

ended_few : (n k : ℕ) (bad : Option Place) (r : Result (List Tok) Place) → AreFew n k r → AreFew n k (ended bad r)
ended_few n k None (Ok ts) few = few
ended_few n k (Some p) (Ok ts) few = tt
ended_few n k bad (Err p) few = tt

pub tokens_few : (names : List (List ℕ)) (n : ℕ) (xs : List PpTok) (ts : List Tok) → AllByRecursion (HasText n) xs → tokens_of names xs ≡ Ok ts → FewTokens n (length xs) ts
tokens_few names n xs ts h is =
    let k = kept_few names n xs h 0 in
    let few : AreFew n (length xs) (tokens_of names xs) =
    ended_few n (length xs) (bad_pragma names 0 xs) (converted names false (kept names 0 xs))
    (fewer n (length (kept names 0 xs)) (length xs) (converted names false (kept names 0 xs)) k.few (converted_few names n (kept names 0 xs) k.texts false))
    in
    subst (AreFew n (length xs)) is few
