-- What a `define` line defines (C11 6.10.3, 6.10.8p4).
use Rattle.std.specs.Prelude.{ℕ, ◌+◌, ◌-◌, Bool, true, false, not, ◌&&◌, ◌||◌, ◌==◌, if◌then◌else◌, List, [], ◌∷◌, ◌++◌, length, take, drop, fold, position, bytes_eq, codes, slice_get, slice_index_or, Option, Some, None, is_some}
use Rattle.std.specs.List.{list_any, slice_split}
use Rattle.cr_base.specs.declared.token.Name.{Name}
use Rattle.cr_base.specs.declared.token.PpTok.{PpTok}
use Rattle.cr_base.specs.declared.token.Origin.{Origin}
use Rattle.cr_base.specs.declared.token.Origin.TheVariants.{At, Made}
use Rattle.cr_macros.specs.Tokens.{Text, is_ident, is_punct}
use Rattle.cr_macros.specs.Expansion.{predefined_named}
use Rattle.cr_macros.specs.declared.macros.Macro.{Macro}

-- the text of a name
abbrev pub text_of : List Text → Name → Text
text_of names name = slice_index_or names name.0 []

-- the token is this punctuator
abbrev pub is_mark : List Text → Text → PpTok → Bool
is_mark names text t = is_punct t.kind && bytes_eq text (text_of names t.text)

-- the token is this word
abbrev pub is_word : List Text → Text → PpTok → Bool
is_word names text t = is_ident t.kind && bytes_eq text (text_of names t.text)

abbrev pub is_hash : List Text → PpTok → Bool
is_hash names t = is_mark names (codes "#") t || is_mark names (codes "%:") t

abbrev pub is_paste : List Text → PpTok → Bool
is_paste names t = is_mark names (codes "##") t || is_mark names (codes "%:%:") t

-- `__VA_ARGS__`
abbrev pub is_rest : List Text → PpTok → Bool
is_rest names t = is_word names (codes "__VA_ARGS__") t

-- `defined`, or a predefined macro
abbrev pub is_kept_word : Text → Bool
is_kept_word text = bytes_eq (codes "defined") text || is_some (predefined_named text)

-- an identifier that a macro can be named by
abbrev pub is_macro_name : List Text → PpTok → Bool
is_macro_name names t = is_ident t.kind && (not (is_kept_word (text_of names t.text)) && not (is_rest names t))

abbrev pub has_name : List Name → Name → Bool
has_name params name = list_any (λ p. name.0 == p.0) params

-- The parameters so far, and whether `...` stands behind them; nothing where they are wrong.
abbrev pub Params : Type 0
Params = Option (List Name × Bool)

-- with the piece's one token behind the parameters: `...`, or one more identifier
abbrev pub with_token : List Text → List Name → PpTok → Params
with_token names params t =
    if is_mark names (codes "...") t then Some (params, true)
    else if is_ident t.kind && not (is_rest names t) && not (has_name params t.text) then Some (params ++ t.text ∷ [], false)
    else None

abbrev pub with_piece : List Text → List Name → List PpTok → Params
with_piece names params [] = None
with_piece names params (t ∷ []) = with_token names params t
with_piece names params (t ∷ u ∷ ts) = None

-- nothing stands behind `...`
abbrev pub after_piece : List Text → List PpTok → Params → Params
after_piece names piece None = None
after_piece names piece (Some (params, true)) = None
after_piece names piece (Some (params, false)) = with_piece names params piece

-- what is between the parentheses, parted by commas
abbrev pub pieces : List Text → List PpTok → List (List PpTok)
pieces names [] = []
pieces names (t ∷ ts) = slice_split (is_mark names (codes ",")) (t ∷ ts)

abbrev pub params_of : List Text → List PpTok → Params
params_of names inside = fold (λ params piece. after_piece names piece params) (Some ([], false)) (pieces names inside)

abbrev pub object_like : Name → List PpTok → Macro
object_like name body = record { name = name; params = None; variadic = false; body = body }

abbrev pub function_like : Name → List PpTok → Params → Option Macro
function_like name body None = None
function_like name body (Some (params, variadic)) = Some (record { name = name; params = Some params; variadic = variadic; body = body })

-- behind the name and `(`, with the place of the first `)`
abbrev pub with_params : List Text → Name → List PpTok → Option ℕ → Option Macro
with_params names name rest None = None
with_params names name rest (Some n) = function_like name (drop (n + 1) rest) (params_of names (take n rest))

-- what stands behind the name: function-like where a `(` is directly behind it
abbrev pub macro_of : List Text → Name → List PpTok → Option Macro
macro_of names name [] = Some (object_like name [])
macro_of names name (t ∷ rest) =
    if is_mark names (codes "(") t && not t.space then with_params names name rest (position (is_mark names (codes ")")) rest)
    else Some (object_like name (t ∷ rest))

abbrev pub is_paste_at : List Text → Option PpTok → Bool
is_paste_at names None = false
is_paste_at names (Some t) = is_paste names t

-- C11 6.10.3.3p1: no `##` at either end
abbrev pub has_pastes_inside : List Text → List PpTok → Bool
has_pastes_inside names body = not (is_paste_at names (slice_get body 0)) && not (is_paste_at names (slice_get body (length body - 1)))

-- the token names one of these parameters, or the variable one
abbrev pub is_param : List Text → List Name → Bool → PpTok → Bool
is_param names params variadic t = is_ident t.kind && (has_name params t.text || (variadic && is_rest names t))

abbrev pub param_is_next : List Text → List Name → Bool → List PpTok → Bool
param_is_next names params variadic [] = false
param_is_next names params variadic (t ∷ ts) = is_param names params variadic t

-- C11 6.10.3.2p1: each `#` is before a parameter
abbrev pub has_params_behind_hashes : List Text → List Name → Bool → List PpTok → Bool
has_params_behind_hashes names params variadic [] = true
has_params_behind_hashes names params variadic (t ∷ ts) =
    (not (is_hash names t) || param_is_next names params variadic ts) && has_params_behind_hashes names params variadic ts

-- an object-like macro may have any `#`
abbrev pub has_good_hashes : List Text → Bool → List PpTok → Option (List Name) → Bool
has_good_hashes names variadic body None = true
has_good_hashes names variadic body (Some params) = has_params_behind_hashes names params variadic body

-- C11 6.10.3p5: `__VA_ARGS__` stands only in the body of a variadic macro
abbrev pub is_good : List Text → Macro → Bool
is_good names m =
    has_pastes_inside names m.body && (has_good_hashes names m.variadic m.body m.params && (m.variadic || not (list_any (is_rest names) m.body)))

abbrev pub if_good : List Text → Option Macro → Option Macro
if_good names None = None
if_good names (Some m) = if is_good names m then Some m else None

-- behind the word `define`
abbrev pub definition_of : List Text → List PpTok → Option Macro
definition_of names [] = None
definition_of names (t ∷ rest) = if is_macro_name names t then if_good names (macro_of names t.text rest) else None

-- what a directive's line, from its `#` on, defines; nothing where it is a wrong definition
abbrev pub definition : List Text → List PpTok → Option Macro
definition names line = definition_of names (drop 2 line)

abbrev pub IsPlaced : Origin → Type 0
IsPlaced (At place) = Unit {0}
IsPlaced Made = ⊥

-- the origin of the first token
abbrev pub starts_at : List PpTok → Option Origin
starts_at [] = None
starts_at (t ∷ ts) = Some t.origin

-- The first token has a place.
abbrev pub IsFirstPlaced : List PpTok → Type 0
IsFirstPlaced [] = ⊥
IsFirstPlaced (t ∷ ts) = IsPlaced t.origin
