-- What is put in for a macro's name, with its arguments (C11 6.10.3.1 to 6.10.3.3).
use Rattle.std.specs.Prelude.{ℕ, zero, suc, ◌+◌, Bool, true, false, ◌&&◌, ◌||◌, ◌==◌, if◌then◌else◌, List, [], ◌∷◌, ◌++◌, map, slice_index_or, flat_map, bytes_eq, codes, Option, Some, None, is_some}
use Rattle.std.specs.List.{list_any}
use Rattle.cr_base.specs.declared.token.PpKind.{PpKind}
use Rattle.cr_base.specs.declared.token.PpKind.TheVariants.{Char, Str}
use Rattle.cr_base.specs.declared.token.Origin.TheVariants.{Made}
use Rattle.cr_base.specs.declared.cause.Role.TheVariants.{MacroName, Stringized, Pasted, Dropped}
use Rattle.cr_macros.specs.OneToken.{one_token, is_string}
use Rattle.cr_macros.specs.Tokens.{Text, Token, MacroText, Event, is_ident, is_mark, both, with_names, takes, BadPaste, Work, ◌>>=◌, give, fail, note}

-- `#` and `##`, or their digraphs
abbrev pub is_hash : Token → Bool
is_hash t = is_mark (codes "#") t || is_mark (codes "%:") t

abbrev pub is_paste : Token → Bool
is_paste t = is_mark (codes "##") t || is_mark (codes "%:%:") t

abbrev pub one_more : Option ℕ → Option ℕ
one_more None = None
one_more (Some i) = Some (suc i)

abbrev pub index_of : List Text → Text → Option ℕ
index_of [] name = None
index_of (a ∷ names) name = if bytes_eq a name then Some 0 else one_more (index_of names name)

abbrev pub named_params : Bool → Option (List Text) → List Text
named_params variadic None = []
named_params variadic (Some names) = names ++ (if variadic then codes "__VA_ARGS__" ∷ [] else [])

-- the parameters by name, the variable one last
abbrev pub params_of : MacroText → List Text
params_of m = named_params m.variadic m.params

-- which parameter a token names
abbrev pub param : MacroText → Token → Option ℕ
param m t = if is_ident t.kind then index_of (params_of m) t.text else None

-- An item of a body.
pub data Item : Type 0 where
  -- it stays
  Stays : Token → Item
  -- `#` and a parameter
  Spelt : Token → ℕ → Item
  -- a parameter beside `##`
  Bare : Token → ℕ → Item
  -- any other parameter
  Full : Token → ℕ → Item
  -- `, ## __VA_ARGS__`: an own rule of this project
  CommaRest : Token → Token → ℕ → Item
  -- `##`
  Paste : Item

abbrev pub next_is : (Token → Bool) → List Token → Bool
next_is test [] = false
next_is test (t ∷ ts) = test t

-- the parameter that comes next
abbrev pub next_param : MacroText → List Token → Option ℕ
next_param m [] = None
next_param m (t ∷ ts) = param m t

abbrev pub with_token : Token → Option ℕ → Option (Token × ℕ)
with_token v None = None
with_token v (Some i) = Some (v, i)

-- behind a comma: `##` and the variable parameter
abbrev pub pasted_rest : MacroText → List Token → Option (Token × ℕ)
pasted_rest m (p ∷ v ∷ ts) =
    if m.variadic && is_paste p && bytes_eq v.text (codes "__VA_ARGS__") then with_token v (param m v) else None
pasted_rest m _ = None

-- An item, and how many more tokens it takes, by what stands there: `##`; `#` before a parameter; a comma before
-- `## __VA_ARGS__`; a parameter.
abbrev pub item_by : Token → Bool → Bool → Option ℕ → Option (Token × ℕ) → Option ℕ → Item × ℕ
item_by t true beside spelt rest own = (Paste, 0)
item_by t false beside (Some i) rest own = (Spelt t i, 1)
item_by t false beside None (Some (v, i)) own = (CommaRest t v i, 2)
item_by t false beside None None (Some i) = (if beside then Bare t i else Full t i, 0)
item_by t false beside None None None = (Stays t, 0)

abbrev pub only_if : {A : Type 0} → Bool → Option A → Option A
only_if b o = if b then o else None

-- beside says that `##` is directly before
abbrev pub item_at : MacroText → Bool → Token → List Token → Item × ℕ
item_at m beside t ts =
    item_by t (is_paste t) (beside || next_is is_paste ts) (only_if (is_some m.params && is_hash t) (next_param m ts)) (only_if (is_mark (codes ",") t) (pasted_rest m ts)) (param m t)

-- the items of a body, of which the first `skip` tokens belong to the item before
abbrev pub items : MacroText → Bool → ℕ → List Token → List Item
items m beside skip [] = []
items m beside (suc skip) (t ∷ ts) = items m false skip ts
items m beside zero (t ∷ ts) = let found = item_at m beside t ts in found.0 ∷ items m (is_paste t) found.1 ts

abbrev pub body_items : MacroText → List Item
body_items m = items m false 0 m.body

-- the item uses argument i expanded; at all
abbrev pub is_full : ℕ → Item → Bool
is_full i (Full t j) = i == j
is_full i (CommaRest c v j) = i == j
is_full i (Stays t) = false
is_full i (Spelt t j) = false
is_full i (Bare t j) = false
is_full i Paste = false

abbrev pub is_use : ℕ → Item → Bool
is_use i (Full t j) = i == j
is_use i (CommaRest c v j) = i == j
is_use i (Stays t) = false
is_use i (Spelt t j) = i == j
is_use i (Bare t j) = i == j
is_use i Paste = false

-- the bytes with a backslash before each `"` and `\` (C11 6.10.3.2)
abbrev pub escaped : Text → Text
escaped = flat_map (λ b. if b == 34 || b == 92 then 92 ∷ b ∷ [] else b ∷ [])

abbrev pub is_quoted : PpKind → Bool
is_quoted Char = true
is_quoted Str = true
is_quoted _ = false

abbrev pub spelling_of : Token → Text
spelling_of t = if is_quoted t.kind then escaped t.text else t.text

abbrev pub spelling_of_rest : List Token → Text
spelling_of_rest = flat_map (λ t. (if t.space then 32 ∷ [] else []) ++ spelling_of t)

-- one blank where a token after the first has white space before it
abbrev pub spelling : List Token → Text
spelling [] = []
spelling (t ∷ ts) = spelling_of t ++ spelling_of_rest ts

-- a made token, in the place of the macro's name
abbrev pub made : Token → PpKind → Text → Bool → List Text → Token
made name kind text space hide = record {
  kind = kind;
  text = text;
  origin = Made;
  site = name.site;
  line = name.line;
  end = 0;
  space = space;
  first = false;
  joined = false;
  hide = hide;
}

abbrev pub in_quotes : Text → Text
in_quotes text = (34 ∷ text) ++ 34 ∷ []

-- `#` at an argument (C11 6.10.3.2)
abbrev pub string_of : Token → Token → List Token → Work Token
string_of name hash arg =
    if is_string (in_quotes (spelling arg)) then note (flat_map (takes Stringized) arg) (made name Str (in_quotes (spelling arg)) hash.space []) else fail (BadPaste name.site)

abbrev pub with_space : Bool → List Token → List Token
with_space space [] = []
with_space space (t ∷ ts) = record t { space = space } ∷ ts

-- what stands in the body once its items are replaced: a token, a placemarker, or `##` (C11 6.10.3.3)
pub data Part : Type 0 where
  Is : Token → Part
  Placemarker : Part
  Joins : Part

abbrev pub Args : Type 0
Args = List (List Token)

abbrev pub arg_at : Args → ℕ → List Token
arg_at args i = slice_index_or args i []

abbrev pub parts_of : List Token → List Part
parts_of = map {A = Token} (λ t. Is t)

-- the tokens, or a placemarker where there are none
abbrev pub or_placemarker : List Token → List Part
or_placemarker [] = Placemarker ∷ []
or_placemarker (t ∷ ts) = Is t ∷ parts_of ts

-- the comma goes where the variable argument is empty
abbrev pub comma_and : Token → List Part → List Token → List Part
comma_and comma rest [] = Placemarker ∷ []
comma_and comma rest (a ∷ as1) = Is comma ∷ rest

-- an item with its argument as it is, or as it is expanded
abbrev pub filled : Token → Args → Args → Item → Work (List Part)
filled name raw full (Stays t) = give (Is t ∷ [])
filled name raw full (Spelt hash i) = string_of name hash (arg_at raw i) >>= λ s. give (Is s ∷ [])
filled name raw full (Bare t i) = give (or_placemarker (with_space t.space (arg_at raw i)))
filled name raw full (Full t i) = give (parts_of (with_space t.space (arg_at full i)))
filled name raw full (CommaRest comma t i) = give (comma_and comma (or_placemarker (with_space t.space (arg_at full i))) (arg_at raw i))
filled name raw full Paste = give (Joins ∷ [])

abbrev pub all_filled : Token → Args → Args → List Item → Work (List Part)
all_filled name raw full [] = give []
all_filled name raw full (item ∷ items1) = filled name raw full item >>= λ ps. all_filled name raw full items1 >>= λ more. give (ps ++ more)

abbrev pub pasted_as : Token → Token → Token → Option PpKind → Work Token
pasted_as name a b None = fail (BadPaste name.site)
pasted_as name a b (Some kind) = note (takes Pasted a ++ takes Pasted b) (made name kind (a.text ++ b.text) a.space (both a.hide b.hide))

-- both texts joined, where they are one token (C11 6.10.3.3)
abbrev pub paste : Token → Token → Token → Work Token
paste name a b = pasted_as name a b (one_token (a.text ++ b.text))

abbrev pub or_none : Option Token → List Token
or_none None = []
or_none (Some t) = t ∷ []

-- what is on the left pasted with a token; a placemarker with a token is the token
abbrev pub paste_after : Token → Token → Option Token → Work Token
paste_after name b None = give b
paste_after name b (Some a) = paste name a b

-- Each `##` from left to right: left is the token directly before, if it is no placemarker, and pasting says that `##` is
-- between.
abbrev pub all_pasted : Token → Option Token → Bool → List Part → Work (List Token)
all_pasted name left pasting [] = give (or_none left)
all_pasted name left pasting (Joins ∷ ps) = all_pasted name left true ps
all_pasted name left true (Is b ∷ ps) = paste_after name b left >>= λ c. all_pasted name (Some c) false ps
all_pasted name left true (Placemarker ∷ ps) = all_pasted name left false ps
all_pasted name left false (Is b ∷ ps) = all_pasted name (Some b) false ps >>= λ rest. give (or_none left ++ rest)
all_pasted name left false (Placemarker ∷ ps) = all_pasted name None false ps >>= λ rest. give (or_none left ++ rest)

-- the tokens take the site of the macro's name, and more names are hidden
abbrev pub placed : Token → List Text → List Token → List Token
placed name hide ts = with_space name.space (map {A = Token} (λ t. record t { site = name.site; line = name.line; hide = with_names hide t.hide }) ts)

-- the roles of arguments of which no copy is used, from argument i on
abbrev pub dropped : List Item → ℕ → Args → List Event
dropped its i [] = []
dropped its i (arg ∷ args) = (if list_any (is_use i) its then [] else flat_map (takes Dropped) arg) ++ dropped its (i + 1) args

-- What is put in for the name, from the arguments as they are and expanded: the tokens of each item, pasted, with
-- more names hidden.
abbrev pub subst : Token → MacroText → Args → Args → List Text → Work (List Token)
subst name m raw full hide =
    note (takes MacroName name ++ dropped (body_items m) 0 raw) (body_items m)
    >>= λ its. all_filled name raw full its
    >>= λ ps. all_pasted name None false ps
    >>= λ ts. give (placed name hide ts)
