-- How the passes go over the tokens.
use Rattle.std.proofs.Common.{◌≡◌, ℕ, ◌+◌, ◌<◌, ◌++◌, Bool, Option, List, [], ◌∷◌, length, get_or, drop, refl, sym, ◌∙◌, ap, add-one, drop-cons, append_assoc, Result, Ok, Err}
use Rattle.cr_base.specs.declared.token.PpTok.{PpTok}
use Rattle.cr_base.specs.declared.token.Place.{Place}
use Rattle.cr_base.specs.declared.token.Tok.{Tok}
use Rattle.cr_base.specs.declared.token.TokKind.{TokKind}
use Rattle.cr_phase7.specs.declared.tokens.Standing.{Standing}
use Rattle.cr_phase7.specs.Tokens.{stand_at, kept_by, bad_by, kept, bad_pragma, text_of, kind_by, put_before, unless, put_kind, converted}

pub cut_at : (xs : List PpTok) (i : ℕ) (d : PpTok) → i < length xs → drop i xs ≡ get_or xs i d ∷ drop (i + 1) xs
cut_at xs i d h = drop-cons xs i d h ∙ ap (λ n. get_or xs i d ∷ drop n xs) (sym (add-one i))

pub kept_step : (names : List (List ℕ)) (xs : List PpTok) (i n : ℕ) (d : PpTok) (s : Standing) → i < length xs → s ≡ stand_at names n (get_or xs i d) (drop (i + 1) xs) → kept names n (drop i xs) ≡ kept_by s n (get_or xs i d) (λ m. kept names m (drop (i + 1) xs))
kept_step names xs i n d s h e =
    ap (λ l. kept names n l) (cut_at xs i d h) ∙ ap (λ t. kept_by t n (get_or xs i d) (λ m. kept names m (drop (i + 1) xs))) (sym e)

pub bad_step : (names : List (List ℕ)) (xs : List PpTok) (i n : ℕ) (d : PpTok) (s : Standing) → i < length xs → s ≡ stand_at names n (get_or xs i d) (drop (i + 1) xs) → bad_pragma names n (drop i xs) ≡ bad_by s n (get_or xs i d) (λ m. bad_pragma names m (drop (i + 1) xs))
bad_step names xs i n d s h e =
    ap (λ l. bad_pragma names n l) (cut_at xs i d h) ∙ ap (λ t. bad_by t n (get_or xs i d) (λ m. bad_pragma names m (drop (i + 1) xs))) (sym e)

abbrev pub prefixed : List Tok → Result (List Tok) Place → Result (List Tok) Place
prefixed ts (Ok us) = Ok (ts ++ us)
prefixed ts (Err place) = Err place

pub prefixed_none : (r : Result (List Tok) Place) → r ≡ prefixed [] r
prefixed_none (Ok us) = refl
prefixed_none (Err place) = refl

pub prefixed_put : (ts : List Tok) (goes : Bool) (t : Tok) (r : Result (List Tok) Place) → prefixed ts (put_before goes t r) ≡ prefixed (ts ++ unless goes t) r
prefixed_put ts goes t (Ok us) = ap Ok (sym (append_assoc ts (unless goes t) us))
prefixed_put ts goes t (Err place) = refl

pub converted_step : (names : List (List ℕ)) (xs : List PpTok) (i : ℕ) (was : Bool) (d : PpTok) (k : Option TokKind) → i < length xs → k ≡ kind_by (text_of names (get_or xs i d)) (get_or xs i d).kind → converted names was (drop i xs) ≡ put_kind was (get_or xs i d) k (λ b. converted names b (drop (i + 1) xs))
converted_step names xs i was d k h e =
    ap (λ l. converted names was l) (cut_at xs i d h) ∙ ap (λ t. put_kind was (get_or xs i d) t (λ b. converted names b (drop (i + 1) xs))) (sym e)
