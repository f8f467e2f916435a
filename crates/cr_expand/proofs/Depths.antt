-- How deep tokens stand in parentheses.
use Rattle.std.proofs.Common.{◌≡◌, ℕ, zero, suc, ◌+◌, Bool, true, false, List, [], ◌∷◌, ◌++◌, refl, ap, subst, ◌∙◌, arith, add-zero, Option, Some, None}
use Rattle.std.specs.Prelude.{codes, bytes_eq, ◌&&◌, if◌then◌else◌}
use Rattle.std.specs.Option.{option_and_then}
use Rattle.std.proofs.lemmas.Slice.Eq.{bytes_eq-Decides}
use Rattle.cr_expand.specs.declared.held.Held.{Held}
use Rattle.cr_macros.specs.Tokens.{Text, Token, is_punct, is_mark}
use Rattle.cr_expand.specs.Calls.{one_less, nested, shown, depth_after, IsInside}

twice : (o : Option ℕ) (f g k : ℕ → Option ℕ) → ((e : ℕ) → f e ≡ option_and_then k (g e)) → option_and_then f o ≡ option_and_then k (option_and_then g o)
twice None f g k h = refl
twice (Some e) f g k h = h e

pub depth_append : (names : List Text) (hs ks : List Held) (d : ℕ) → depth_after names (hs ++ ks) d ≡ option_and_then (λ e. depth_after names ks e) (depth_after names hs d)
depth_append names [] ks d = refl
depth_append names (h ∷ hs) ks d =
    twice (nested (shown names h) d) (λ e. depth_after names (hs ++ ks) e) (λ e. depth_after names hs e) (λ e. depth_after names ks e) (λ e. depth_append names hs ks e)

pub depth_joined : (names : List Text) (hs ks : List Held) (d e f : ℕ) → depth_after names hs d ≡ Some e → depth_after names ks e ≡ Some f → depth_after names (hs ++ ks) d ≡ Some f
depth_joined names hs ks d e f a b = depth_append names hs ks d ∙ ap (option_and_then (λ x. depth_after names ks x)) a ∙ b

pub depth_single : (names : List Text) (h : Held) (d e : ℕ) → nested (shown names h) d ≡ Some e → depth_after names (h ∷ []) d ≡ Some e
depth_single names h d e a = ap (option_and_then (λ x. depth_after names [] x)) a

some_first : (o : Option ℕ) (f : ℕ → Option ℕ) (e : ℕ) → option_and_then f o ≡ Some e → (m : ℕ) × (o ≡ Some m) × (f m ≡ Some e)
some_first None f e k = absurd (let q : ⊥ = cc in q)
some_first (Some m) f e k = (m, refl, k)

-- the depth behind the first token
pub depth_first : (names : List Text) (h : Held) (hs : List Held) (d e : ℕ) → depth_after names (h ∷ hs) d ≡ Some e → (m : ℕ) × (nested (shown names h) d ≡ Some m) × (depth_after names hs m ≡ Some e)
depth_first names h hs d e k = some_first (nested (shown names h) d) (λ x. depth_after names hs x) e k

pub same_some : (a b : ℕ) → Some a ≡ Some b → a ≡ b
same_some a b e = cc

less_deeper : (k d e : ℕ) → one_less d ≡ Some e → one_less (k + d) ≡ Some (k + e)
less_deeper k zero e h = absurd (let q : ⊥ = cc in q)
less_deeper k (suc d) e h =
    let s : k + suc d ≡ suc (k + d) = omega arith in ap one_less s ∙ ap (λ x. Some (k + x)) (same_some d e h)

abbrev pub by_marks : Bool → Bool → ℕ → Option ℕ
by_marks closes opens d = if closes then one_less d else Some (if opens then suc d else d)

marks_deeper : (a b : Bool) (k d e : ℕ) → by_marks a b d ≡ Some e → by_marks a b (k + d) ≡ Some (k + e)
marks_deeper true b k d e h = less_deeper k d e h
marks_deeper false true k d e h = let q = same_some (suc d) e h in let r : suc (k + d) ≡ k + e = omega (arith, q) in ap (λ x. Some x) r
marks_deeper false false k d e h = ap (λ x. Some (k + x)) (same_some d e h)

pub nested_deeper : (t : Token) (k d e : ℕ) → nested t d ≡ Some e → nested t (k + d) ≡ Some (k + e)
nested_deeper t k d e h = marks_deeper (is_mark (codes ")") t) (is_mark (codes "(") t) k d e h

pub depth_deeper : (names : List Text) (hs : List Held) (k d e : ℕ) → depth_after names hs d ≡ Some e → depth_after names hs (k + d) ≡ Some (k + e)
depth_deeper names [] k d e h = ap (λ x. Some (k + x)) (same_some d e h)
depth_deeper names (h ∷ hs) k d e p =
    let f = depth_first names h hs d e p in
    ap (option_and_then (λ x. depth_after names hs x)) (nested_deeper (shown names h) k d f.0 f.1) ∙ depth_deeper names hs k f.0 e f.2

-- tokens that are balanced
pub depth_level : (names : List Text) (hs : List Held) (k : ℕ) → depth_after names hs 0 ≡ Some 0 → depth_after names hs k ≡ Some k
depth_level names hs k h = subst (λ x. depth_after names hs x ≡ Some x) (add-zero k) (depth_deeper names hs k 0 0 h)

and_other : (k a b : Bool) → (k && a) ≡ true → (a ≡ true → b ≡ false) → (k && b) ≡ false
and_other true a b e f = f e
and_other false a b e f = refl

other_text : (a b text : Text) → bytes_eq b a ≡ false → bytes_eq a text ≡ true → bytes_eq b text ≡ false
other_text a b text n e = subst (λ x. bytes_eq b x ≡ false) ((bytes_eq-Decides a text).0 e) n

pub no_close : (t : Token) → is_mark (codes "(") t ≡ true → is_mark (codes ")") t ≡ false
no_close t e = and_other (is_punct t.kind) (bytes_eq (codes "(") t.text) (bytes_eq (codes ")") t.text) e (other_text (codes "(") (codes ")") t.text refl)

pub no_open : (t : Token) → is_mark (codes ")") t ≡ true → is_mark (codes "(") t ≡ false
no_open t e = and_other (is_punct t.kind) (bytes_eq (codes ")") t.text) (bytes_eq (codes "(") t.text) e (other_text (codes ")") (codes "(") t.text refl)

pub nested_open : (t : Token) (d : ℕ) → is_mark (codes "(") t ≡ true → nested t d ≡ Some (suc d)
nested_open t d e = ap (λ a. by_marks a (is_mark (codes "(") t) d) (no_close t e) ∙ ap (λ b. by_marks false b d) e

pub nested_close : (t : Token) (d : ℕ) → is_mark (codes ")") t ≡ true → nested t d ≡ one_less d
nested_close t d e = ap (λ a. by_marks a (is_mark (codes "(") t) d) e

marks_none : (a b : Bool) (d : ℕ) → by_marks a b d ≡ None → (a ≡ true) × (d ≡ 0)
marks_none true b zero h = (refl, refl)
marks_none true b (suc d) h = absurd (let q : ⊥ = cc in q)
marks_none false b d h = absurd (let q : ⊥ = cc in q)

pub nested_none : (t : Token) (d : ℕ) → nested t d ≡ None → (is_mark (codes ")") t ≡ true) × (d ≡ 0)
nested_none t d h = marks_none (is_mark (codes ")") t) (is_mark (codes "(") t) d h

-- a whole group
pub depth_group : (names : List Text) (opens closes : Held) (inside : List Held) (d : ℕ) → is_mark (codes "(") (shown names opens) ≡ true → IsInside names inside closes → depth_after names (opens ∷ (inside ++ closes ∷ [])) d ≡ Some d
depth_group names opens closes inside d o i =
    ap (option_and_then (λ x. depth_after names (inside ++ closes ∷ []) x)) (nested_open (shown names opens) d o)
    ∙ depth_joined names inside (closes ∷ []) (suc d) (suc d) d (depth_level names inside (suc d) i.0) (depth_single names closes (suc d) d (nested_close (shown names closes) (suc d) i.1))
