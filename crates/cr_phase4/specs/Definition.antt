-- What a `define` line defines, by the texts of its tokens (C11 6.10.3, 6.10.8p4).
use Rattle.std.specs.Prelude.{ℕ, ◌+◌, ◌-◌, Bool, true, false, not, ◌&&◌, ◌||◌, if◌then◌else◌, List, [], ◌∷◌, ◌++◌, length, take, drop, fold, position, bytes_eq, codes, slice_get, Option, Some, None, is_some}
use Rattle.std.specs.List.{list_any, slice_split}
use Rattle.cr_macros.specs.Tokens.{Text, Token, MacroText, is_ident, is_mark, has}
use Rattle.cr_macros.specs.Substitution.{is_hash, is_paste, next_param}
use Rattle.cr_macros.specs.Definition.{is_kept_word}

-- `__VA_ARGS__`
abbrev pub is_rest : Token → Bool
is_rest t = is_ident t.kind && bytes_eq (codes "__VA_ARGS__") t.text

-- an identifier that is neither `defined` nor a predefined macro
abbrev pub is_free_name : Token → Bool
is_free_name t = is_ident t.kind && not (is_kept_word t.text)

-- The parameters so far, and whether `...` stands behind them; nothing where they are wrong.
abbrev pub Params : Type 0
Params = Option (List Text × Bool)

-- with the piece's one token behind the parameters: `...`, or one more identifier
abbrev pub with_token : List Text → Token → Params
with_token params t =
    if is_mark (codes "...") t then Some (params, true)
    else if is_ident t.kind && not (is_rest t) && not (has params t.text) then Some (params ++ t.text ∷ [], false)
    else None

abbrev pub with_piece : List Text → List Token → Params
with_piece params [] = None
with_piece params (t ∷ []) = with_token params t
with_piece params (t ∷ u ∷ ts) = None

-- nothing stands behind `...`
abbrev pub after_piece : List Token → Params → Params
after_piece piece None = None
after_piece piece (Some (params, true)) = None
after_piece piece (Some (params, false)) = with_piece params piece

-- what is between the parentheses, parted by commas
abbrev pub pieces : List Token → List (List Token)
pieces [] = []
pieces (t ∷ ts) = slice_split (is_mark (codes ",")) (t ∷ ts)

abbrev pub params_of : List Token → Params
params_of inside = fold (λ params piece. after_piece piece params) (Some ([], false)) (pieces inside)

abbrev pub object_like : List Token → MacroText
object_like body = record { params = None; variadic = false; body = body }

abbrev pub function_like : List Token → Params → Option MacroText
function_like body None = None
function_like body (Some (params, variadic)) = Some (record { params = Some params; variadic = variadic; body = body })

-- a `(` that stands directly behind the name begins the parameters
abbrev pub begins_params : Token → Bool
begins_params t = is_mark (codes "(") t && not t.space

abbrev pub close_of : List Token → Option ℕ
close_of ts = position (is_mark (codes ")")) ts

-- behind the `(`, with the place of the first `)`
abbrev pub with_params : List Token → Option ℕ → Option MacroText
with_params rest None = None
with_params rest (Some n) = function_like (drop (n + 1) rest) (params_of (take n rest))

-- the macro of what stands behind the name
abbrev pub macro_of : List Token → Option MacroText
macro_of [] = Some (object_like [])
macro_of (t ∷ rest) = if begins_params t then with_params rest (close_of rest) else Some (object_like (t ∷ rest))

-- what stands in its parameter list
abbrev pub inside_of : List Token → Option ℕ → List Token
inside_of rest None = []
inside_of rest (Some n) = take n rest

abbrev pub parameters_of : List Token → List Token
parameters_of [] = []
parameters_of (t ∷ rest) = if begins_params t then inside_of rest (close_of rest) else []

abbrev pub is_paste_at : Option Token → Bool
is_paste_at None = false
is_paste_at (Some t) = is_paste t

-- C11 6.10.3.3p1: no `##` at either end
abbrev pub has_pastes_inside : List Token → Bool
has_pastes_inside body = not (is_paste_at (slice_get body 0)) && not (is_paste_at (slice_get body (length body - 1)))

-- C11 6.10.3.2p1: each `#` is before a parameter
abbrev pub has_params_behind_hashes : MacroText → List Token → Bool
has_params_behind_hashes m [] = true
has_params_behind_hashes m (t ∷ ts) = (not (is_hash t) || is_some (next_param m ts)) && has_params_behind_hashes m ts

-- an object-like macro may have any `#`
abbrev pub has_good_hashes : MacroText → Bool
has_good_hashes m = not (is_some m.params) || has_params_behind_hashes m m.body

-- C11 6.10.3p5: `__VA_ARGS__` stands only in the body of a variadic macro
abbrev pub is_good : MacroText → Bool
is_good m = (has_pastes_inside m.body && has_good_hashes m) && (m.variadic || not (list_any is_rest m.body))

-- the token of the name, the tokens of the parameter list, and the macro
pub record Definition : Type 0 where
  pub name : Token
  pub parameters : List Token
  pub macro : MacroText

abbrev pub if_good : Token → List Token → Option MacroText → Option Definition
if_good name rest None = None
if_good name rest (Some m) = if is_good m then Some (record { name = name; parameters = parameters_of rest; macro = m }) else None

-- what the tokens behind the word `define` define; nothing where they are a wrong definition
abbrev pub definition : List Token → Option Definition
definition [] = None
definition (name ∷ rest) = if is_free_name name && not (is_rest name) then if_good name rest (macro_of rest) else None

-- the name of an `undef` (C11 6.10.3.5p2); what stands behind it is ignored
abbrev pub undefined_name : List Token → Option Token
undefined_name [] = None
undefined_name (name ∷ rest) = if is_free_name name then Some name else None
