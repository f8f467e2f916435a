-- From preprocessing tokens to tokens (C11 5.1.1.2, phases 5 to 7; 6.4, 6.10.9).
use Rattle.std.specs.Prelude.{ℕ, zero, suc, ◌-◌, Bool, true, false, cond, not, ◌&&◌, ◌||◌, ◌≡◌, Option, Some, None, Result, Ok, Err, List, [], ◌∷◌, ◌++◌, ◌==◌, length, bytes_eq, codes, slice_index_or, slice_get}
use Rattle.std.specs.List.{filter, slice_split}
use Rattle.cr_base.specs.declared.token.PpKind.{PpKind}
use Rattle.cr_base.specs.declared.token.PpKind.TheVariants as p
use Rattle.cr_base.specs.declared.token.PpTok.{PpTok}
use Rattle.cr_base.specs.declared.token.TokKind.{TokKind}
use Rattle.cr_base.specs.declared.token.TokKind.TheVariants as k
use Rattle.cr_base.specs.declared.token.Tok.{Tok}
use Rattle.cr_base.specs.declared.token.Place.{Place}
use Rattle.cr_base.specs.declared.token.Name.{Name}
use Rattle.cr_base.specs.declared.token.Origin.TheVariants.{At}
use Rattle.cr_base.specs.Names.{keywords, is_keyword}
use Rattle.cr_phase7.specs.Numbers.{is_among, is_number}
use Rattle.cr_phase7.specs.declared.tokens.Phase7Fault.{Phase7Fault}
use Rattle.cr_phase7.specs.declared.tokens.Phase7Fault.TheVariants.{BadToken, OutOfMemory}
use Rattle.cr_phase7.specs.declared.tokens.Standing.{Standing}
use Rattle.cr_phase7.specs.declared.tokens.Standing.TheVariants.{Inside, Plain, Pragma, Broken}

abbrev pub text_of : List (List ℕ) → PpTok → List ℕ
text_of names x = slice_index_or names x.text.0 []

-- words that this project reads beside the keywords of C11
unfoldable pub further_words : List ℕ
further_words = codes "__attribute__ __asm__ __extension__ __builtin_va_list __builtin_va_arg __builtin_offsetof __inline__ __inline __restrict__ __restrict __const__ __volatile__ __signed__"

abbrev pub is_word : List ℕ → Bool
is_word text = is_keyword text || is_among text further_words

-- the keywords and the further words that have this length
abbrev pub words_of_length : ℕ → List (List ℕ)
words_of_length n = filter (λ word. length word == n) (keywords ++ slice_split (λ b. b == 32) further_words)

-- `#` and `##`, also as digraphs, are no tokens
unfoldable pub hashes : List ℕ
hashes = codes "# ## %: %:%:"

abbrev pub word_kind : Bool → TokKind
word_kind b = cond b k.Keyword k.Ident

abbrev pub only_if : Bool → TokKind → Option TokKind
only_if b kind = cond b (Some kind) None

-- the kind of the token that a preprocessing token becomes, where it becomes one
abbrev pub kind_by : List ℕ → PpKind → Option TokKind
kind_by text p.Ident = Some (word_kind (is_word text))
kind_by text p.Number = only_if (is_number text) k.Constant
kind_by text p.Char = Some k.Constant
kind_by text p.Str = Some k.Str
kind_by text p.Punct = only_if (not (is_among text hashes)) k.Punct
kind_by text p.Stray = None

abbrev pub is_name_kind : PpKind → Bool
is_name_kind p.Ident = true
is_name_kind _ = false

abbrev pub is_string_kind : PpKind → Bool
is_string_kind p.Str = true
is_string_kind _ = false

abbrev pub is_punct_kind : PpKind → Bool
is_punct_kind p.Punct = true
is_punct_kind _ = false

abbrev pub is_string : TokKind → Bool
is_string k.Str = true
is_string _ = false

abbrev pub is_pragma : List (List ℕ) → PpTok → Bool
is_pragma names x = is_name_kind x.kind && bytes_eq (text_of names x) (codes "_Pragma")

abbrev pub is_open : List (List ℕ) → PpTok → Bool
is_open names x = is_punct_kind x.kind && bytes_eq (text_of names x) (codes "(")

abbrev pub is_close : List (List ℕ) → PpTok → Bool
is_close names x = is_punct_kind x.kind && bytes_eq (text_of names x) (codes ")")

-- behind `_Pragma`: `(`, one string literal and `)`
abbrev pub has_pragma_form : List (List ℕ) → List PpTok → Bool
has_pragma_form names (a ∷ b ∷ c ∷ rest) = is_open names a && (is_string_kind b.kind && is_close names c)
has_pragma_form names _ = false

-- what a place among the tokens is; so many tokens are of a pragma still
abbrev pub stand_at : List (List ℕ) → ℕ → PpTok → List PpTok → Standing
stand_at names (suc n) x xs = Inside
stand_at names zero x xs = cond (is_pragma names x) (cond (has_pragma_form names xs) Pragma Broken) Plain

abbrev pub kept_by : Standing → ℕ → PpTok → (ℕ → List PpTok) → List PpTok
kept_by Inside n x rest = rest (n - 1)
kept_by Plain n x rest = x ∷ rest n
kept_by Pragma n x rest = rest 3
kept_by Broken n x rest = []

-- what is left where the pragmas go, up to the first that hasn't their form
abbrev pub kept : List (List ℕ) → ℕ → List PpTok → List PpTok
kept names n [] = []
kept names n (x ∷ xs) = kept_by (stand_at names n x xs) n x (λ m. kept names m xs)

abbrev pub bad_by : Standing → ℕ → PpTok → (ℕ → Option Place) → Option Place
bad_by Inside n x rest = rest (n - 1)
bad_by Plain n x rest = rest n
bad_by Pragma n x rest = rest 3
bad_by Broken n x rest = Some x.site

-- the site of the first `_Pragma` that hasn't their form
abbrev pub bad_pragma : List (List ℕ) → ℕ → List PpTok → Option Place
bad_pragma names n [] = None
bad_pragma names n (x ∷ xs) = bad_by (stand_at names n x xs) n x (λ m. bad_pragma names m xs)

abbrev pub token : PpTok → TokKind → Tok
token x kind = record { kind = kind; text = x.text; origin = x.origin; site = x.site }

-- nothing where it goes
abbrev pub unless : Bool → Tok → List Tok
unless goes t = cond goes [] (t ∷ [])

abbrev pub put_before : Bool → Tok → Result (List Tok) Place → Result (List Tok) Place
put_before goes t (Ok ts) = Ok (unless goes t ++ ts)
put_before goes t (Err place) = Err place

abbrev pub put_kind : Bool → PpTok → Option TokKind → (Bool → Result (List Tok) Place) → Result (List Tok) Place
put_kind was x None rest = Err x.site
put_kind was x (Some kind) rest = put_before (was && is_string kind) (token x kind) (rest (is_string kind))

-- the tokens, or the site of the first that is none; was: a string literal stands before, with which the next is one
abbrev pub converted : List (List ℕ) → Bool → List PpTok → Result (List Tok) Place
converted names was [] = Ok []
converted names was (x ∷ xs) = put_kind was x (kind_by (text_of names x) x.kind) (λ b. converted names b xs)

abbrev pub ended : Option Place → Result (List Tok) Place → Result (List Tok) Place
ended bad (Err place) = Err place
ended None (Ok ts) = Ok ts
ended (Some place) (Ok ts) = Err place

-- the tokens before the end, or the first place at which there is none
abbrev pub tokens_of : List (List ℕ) → List PpTok → Result (List Tok) Place
tokens_of names xs = ended (bad_pragma names 0 xs) (converted names false (kept names 0 xs))

-- the end, whose text is empty
abbrev pub end_token : Name → Place → Tok
end_token text end = record { kind = k.End; text = text; origin = At end; site = end }

-- a fault tells the place at which there is no token, or want of memory
abbrev pub IsBad : Result (List Tok) Place → Phase7Fault → Type 0
IsBad expected (BadToken place) = expected ≡ Err place
IsBad expected OutOfMemory = Unit {0}

-- The tokens and behind them the end at this place.
abbrev pub AreTokens : List (List ℕ) → List PpTok → Place → List (List ℕ) → List Tok → Type 0
AreTokens names xs end new ts =
    (text : Name) × (before : List Tok) × (tokens_of names xs ≡ Ok before) × (ts ≡ before ++ end_token text end ∷ [])
    × (slice_get new text.0 ≡ Some [])
