-- The text of a header name, token by token.
use Rattle.std.proofs.Common.{◌≡◌, ℕ, suc, ◌+◌, ◌-◌, ◌<◌, ◌≤◌, Bool, true, false, cond, List, [], ◌∷◌, ◌++◌, length, get_or, drop, refl, ap, sym, ◌∙◌, Some, None, Option, drop-cons, add-one, append-nil, append_assoc, arith, nat_eq, length-drop}
use Rattle.std.specs.Prelude.{codes}
use Rattle.std.specs.Option.{option_map}
use Rattle.std.proofs.lemmas.Bool.Decides.{nat_tests}
use Rattle.cr_base.specs.declared.token.PpTok.{PpTok}
use Rattle.cr_macros.specs.Tokens.{Text, Token, token_of, tokens_of, is_mark}
use Rattle.cr_phase4.specs.Directives.{blank_of, if_last, to_greater}

abbrev behind : Text → Option Text → Option Text
behind name = option_map (λ rest. name ++ rest)

at_index : (names : List Text) (tokens : List PpTok) (i : ℕ) (d : PpTok) → i < length tokens → tokens_of names (drop i tokens) ≡ token_of names [] (get_or tokens i d) ∷ tokens_of names (drop (i + 1) tokens)
at_index names tokens i d h = ap (tokens_of names) (drop-cons tokens i d h ∙ ap (λ n. get_or tokens i d ∷ drop n tokens) (sym (add-one i)))

last_is : (ts : List PpTok) (names : List Text) (name blank : Text) → cond (nat_eq (length ts) 0) (Some (name ++ blank)) None ≡ behind name (if_last (tokens_of names ts) blank)
last_is [] names name blank = refl
last_is (t ∷ ts) names name blank = let e : nat_eq (suc (length ts)) 0 ≡ false = grind (arith, nat_tests) in ap (λ b. cond b (Some (name ++ blank)) None) e

pub ends : (names : List Text) (tokens : List PpTok) (i : ℕ) (d : PpTok) (name new : Text) (b : Bool) → i < length tokens → b ≡ is_mark (codes ">") (token_of names [] (get_or tokens i d))
    → new ≡ name ++ (blank_of (token_of names [] (get_or tokens i d)) ++ cond b [] (token_of names [] (get_or tokens i d)).text) → b ≡ true
    → cond (nat_eq (i + 1) (length tokens)) (Some new) None ≡ behind name (to_greater (tokens_of names (drop i tokens)))
ends names tokens i d name new b h e put is =
    let n : new ≡ name ++ blank_of t = put ∙ ap (λ x. name ++ (blank_of t ++ cond x [] t.text)) is ∙ ap (λ x. name ++ x) (append-nil (blank_of t)) in
    let w : nat_eq (i + 1) (length tokens) ≡ nat_eq (length (drop (i + 1) tokens)) 0 = same_test (i + 1) (length tokens) (length (drop (i + 1) tokens)) (omega arith) (length-drop (i + 1) tokens) in
    ap (λ x. cond x (Some new) None) w ∙ ap (λ x. cond (nat_eq (length (drop (i + 1) tokens)) 0) (Some x) None) n
    ∙ last_is (drop (i + 1) tokens) names name (blank_of t)
    ∙ sym (ap (λ x. behind name (to_greater x)) (at_index names tokens i d h) ∙ ap (λ x. behind name (cond x (if_last (tokens_of names (drop (i + 1) tokens)) (blank_of t)) (option_map (λ rest. (blank_of t ++ t.text) ++ rest) (to_greater (tokens_of names (drop (i + 1) tokens)))))) (sym e ∙ is)) where
      t : Token
      t = token_of names [] (get_or tokens i d)

      same_test : (a b k : ℕ) → a ≤ b → k ≡ b - a → nat_eq a b ≡ nat_eq k 0
      same_test a b k h e = grind (arith, nat_tests)

behind_behind : (name more : Text) (o : Option Text) → behind (name ++ more) o ≡ behind name (option_map (λ rest. more ++ rest) o)
behind_behind name more None = refl
behind_behind name more (Some x) = ap (λ y. Some y) (append_assoc name more x)

pub goes_on : (names : List Text) (tokens : List PpTok) (i : ℕ) (d : PpTok) (name new : Text) (b : Bool) → i < length tokens → b ≡ is_mark (codes ">") (token_of names [] (get_or tokens i d))
    → new ≡ name ++ (blank_of (token_of names [] (get_or tokens i d)) ++ cond b [] (token_of names [] (get_or tokens i d)).text) → b ≡ false
    → behind new (to_greater (tokens_of names (drop (i + 1) tokens))) ≡ behind name (to_greater (tokens_of names (drop i tokens)))
goes_on names tokens i d name new b h e put is =
    ap (λ x. behind x (to_greater (tokens_of names (drop (i + 1) tokens)))) (put ∙ ap (λ x. name ++ (blank_of t ++ cond x [] t.text)) is)
    ∙ behind_behind name (blank_of t ++ t.text) (to_greater (tokens_of names (drop (i + 1) tokens)))
    ∙ sym (ap (λ x. behind name (to_greater x)) (at_index names tokens i d h) ∙ ap (λ x. behind name (cond x (if_last (tokens_of names (drop (i + 1) tokens)) (blank_of t)) (option_map (λ rest. (blank_of t ++ t.text) ++ rest) (to_greater (tokens_of names (drop (i + 1) tokens)))))) (sym e ∙ is)) where
      t : Token
      t = token_of names [] (get_or tokens i d)
