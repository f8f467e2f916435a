-- Macro expansion by Prosser's hide sets: this project's own reading of C11 6.10.3.
use Rattle.std.specs.Prelude.{ℕ, zero, suc, ◌+◌, ◌-◌, Bool, true, false, not, ◌&&◌, ◌||◌, ◌==◌, nat_le, if◌then◌else◌, List, [], ◌∷◌, ◌++◌, length, bytes_eq, codes, Option, Some, None, option_map, decimal}
use Rattle.std.specs.List.{list_any}
use Rattle.cr_base.specs.declared.token.PpKind.{PpKind}
use Rattle.cr_base.specs.declared.token.PpKind.TheVariants.{Number, Str}
use Rattle.cr_base.specs.declared.cause.Role.TheVariants.{MacroName}
use Rattle.cr_macros.specs.declared.words.Predefined.{Predefined as PredefinedMacro}
use Rattle.cr_macros.specs.declared.words.Predefined.TheVariants.{File, Line, Date, Time, Standard, Version, Hosted}
use Rattle.cr_macros.specs.Tokens.{Text, Token, MacroText, Rule, is_ident, is_mark, has, both, with_name, takes, Cause, ArgCount, OpenCall, Over, Work, ◌>>=◌, give, fail, note, pay}
use Rattle.cr_macros.specs.Substitution.{Item, Args, body_items, is_full, made, subst}

-- the macros by name, and the text of the string that `__FILE__` gives
pub record Table : Type 0 where
  pub macro : Text → Option MacroText
  pub file : Text

-- the predefined macro of a name (C11 6.10.8.1)
abbrev pub predefined_named : Text → Option PredefinedMacro
predefined_named name =
    if bytes_eq name (codes "__FILE__") then Some File
    else if bytes_eq name (codes "__LINE__") then Some Line
    else if bytes_eq name (codes "__DATE__") then Some Date
    else if bytes_eq name (codes "__TIME__") then Some Time
    else if bytes_eq name (codes "__STDC__") then Some Standard
    else if bytes_eq name (codes "__STDC_VERSION__") then Some Version
    else if bytes_eq name (codes "__STDC_HOSTED__") then Some Hosted
    else None

-- the one token that it gives; the date and the time are own rules of this project
abbrev pub predefined_token : Text → ℕ → PredefinedMacro → PpKind × Text
predefined_token file line File = (Str, file)
predefined_token file line Line = (Number, decimal line)
predefined_token file line Date = (Str, codes "\"Jan  1 1970\"")
predefined_token file line Time = (Str, codes "\"00:00:00\"")
predefined_token file line Standard = (Number, codes "1")
predefined_token file line Version = (Number, codes "201112L")
predefined_token file line Hosted = (Number, codes "1")

-- what a predefined macro of this name gives, in this file and on this line
abbrev pub predefined : Text → ℕ → Text → Option (PpKind × Text)
predefined file line name = option_map (predefined_token file line) (predefined_named name)

-- t, and then what was found
abbrev pub found_after : Token → Option (List Token × Token × List Token) → Option (List Token × Token × List Token)
found_after t None = None
found_after t (Some (inside, close, rest)) = Some (t ∷ inside, close, rest)

-- at a `)`: it is the one that matches where no `(` is open
abbrev pub closed_by : Token → List Token → (ℕ → Option (List Token × Token × List Token)) → ℕ → Option (List Token × Token × List Token)
closed_by t ts more zero = Some ([], t, ts)
closed_by t ts more (suc depth) = found_after t (more depth)

-- what is before the `)` that matches, that `)`, and what is after it; depth counts the `(` that are open
abbrev pub to_close : ℕ → List Token → Option (List Token × Token × List Token)
to_close depth [] = None
to_close depth (t ∷ ts) =
    if is_mark (codes ")") t then closed_by t ts (λ d. to_close d ts) depth
    else found_after t (to_close (if is_mark (codes "(") t then suc depth else depth) ts)

-- t before the first of the lists
abbrev pub into_first : Token → Args → Args
into_first t [] = (t ∷ []) ∷ []
into_first t (ts ∷ tss) = (t ∷ ts) ∷ tss

-- parted by commas outside inner parentheses, by n of them at most
abbrev pub parted : ℕ → ℕ → List Token → Args
parted n depth [] = [] ∷ []
parted n depth (t ∷ ts) =
    if is_mark (codes "(") t then into_first t (parted n (depth + 1) ts)
    else if is_mark (codes ")") t then into_first t (parted n (depth - 1) ts)
    else if is_mark (codes ",") t && depth == 0 && nat_le 1 n then [] ∷ parted (n - 1) depth ts
    else into_first t (parted n depth ts)

-- the arguments of a call of a macro with these parameters, if their number is right (C11 6.10.3p4, p10 to p12;
-- that the variable argument may be missing is an own rule of this project)
abbrev pub arguments : List Text → Bool → List Token → Option Args
arguments [] false [] = Some []
arguments names false inside =
    let args = parted (length inside) 0 inside in if length args == length names then Some args else None
arguments names true inside =
    let args = parted (length names) 0 inside in
    if length args == length names + 1 then Some args else if length args == length names then Some (args ++ [] ∷ []) else None

-- the argument expanded, where it is wanted so
abbrev pub expanded_if : (List Token → Work (List Token)) → List Token → Bool → Work (List Token)
expanded_if expand arg false = give []
expanded_if expand arg true = expand arg

-- the arguments from i on that have a place where they stand expanded are, each once; the others aren't wanted
abbrev pub expanded : (List Token → Work (List Token)) → List Item → ℕ → Args → Work Args
expanded expand its i [] = give []
expanded expand its i (arg ∷ args) =
    expanded_if expand arg (list_any (is_full i) its)
    >>= λ full. expanded expand its (i + 1) args
    >>= λ fulls. give (full ∷ fulls)

-- what a token at the head of a list means
pub data Use : Type 0 where
  -- it stays: rules 2 and 6
  Keep : Use
  -- it is predefined: rule 3
  Predefined : PpKind → Text → Use
  -- it is object-like: rule 4
  Object : MacroText → Use
  -- it is function-like, and called: rule 5, with its arguments, `)`, and what is after it
  Call : MacroText → Args → Token → List Token → Use
  Wrong : Cause → Use

abbrev pub counted_call : Token → MacroText → Token → List Token → Option Args → Use
counted_call t m close after None = Wrong (ArgCount t.site)
counted_call t m close after (Some args) = Call m args close after

abbrev pub closed_call : Token → MacroText → List Text → Option (List Token × Token × List Token) → Use
closed_call t m names None = Wrong (OpenCall t.site)
closed_call t m names (Some (inside, close, after)) = counted_call t m close after (arguments names m.variadic inside)

-- a function-like macro's name before this rest
abbrev pub call_of : Token → MacroText → List Text → List Token → Use
call_of t m names [] = Keep
call_of t m names (u ∷ rest) = if is_mark (codes "(") u then closed_call t m names (to_close 0 rest) else Keep

abbrev pub use_by_params : Token → MacroText → List Token → Option (List Text) → Use
use_by_params t m rest None = Object m
use_by_params t m rest (Some names) = call_of t m names rest

abbrev pub use_of_macro : Token → List Token → Option MacroText → Use
use_of_macro t rest None = Keep
use_of_macro t rest (Some m) = use_by_params t m rest m.params

abbrev pub use_of_name : Table → Token → List Token → Option (PpKind × Text) → Use
use_of_name table t rest (Some (kind, text)) = Predefined kind text
use_of_name table t rest None = use_of_macro t rest (table.macro t.text)

-- Which rule holds for t before this rest: it stays where it is no identifier, or its name is hidden from it, or
-- no macro has its name, or it is function-like and no `(` comes next.
abbrev pub use_of : Table → Token → List Token → Use
use_of table t rest =
    if not (is_ident t.kind) || has t.hide t.text then Keep
    else use_of_name table t rest (predefined table.file t.line t.text)

-- the tokens that are put in, where the work allows it: one more than their number
abbrev pub put_in : List Token → Work (List Token)
put_in ts = pay (1 + length ts) ts

-- What a use of the head of a list gives, where `expand` is expansion of a list that is shorter, or with less work left.
abbrev pub by_use : (List Token → Work (List Token)) → Token → List Token → Use → Work (List Token)
by_use expand t rest Keep = note (Rule ∷ []) t >>= λ t1. expand rest >>= λ out. give (t1 ∷ out)
by_use expand t rest (Predefined kind text) =
    note (takes MacroName t) (made t kind text t.space []) >>= λ one. pay 2 one >>= λ one1. expand rest >>= λ out. give (one1 ∷ out)
by_use expand t rest (Object m) =
    subst t m [] [] (with_name t.text t.hide) >>= λ ts. put_in ts >>= λ ts1. expand (ts1 ++ rest)
by_use expand t rest (Call m args close after) =
    expanded expand (body_items m) 0 args
    >>= λ fulls. subst t m args fulls (with_name t.text (both t.hide close.hide))
    >>= λ ts. put_in ts
    >>= λ ts1. expand (ts1 ++ after)
by_use expand t rest (Wrong cause) = fail cause

-- the rules
abbrev pub rules : Table → (List Token → Work (List Token)) → List Token → Work (List Token)
rules table expand [] = give []
rules table expand (t ∷ rest) = by_use expand t rest (use_of table t rest)

-- the rules, n deep
abbrev pub expand_within : ℕ → Table → List Token → Work (List Token)
expand_within zero table ts = fail Over
expand_within (suc n) table ts = rules table (expand_within n table) ts

-- A use that puts in n tokens costs n + 1, so each step of the rules lessens the work that is left and the length together,
-- and these are deep enough. So `expand` is what the rules say of `expand` itself, which is a theorem.
unfoldable pub expand : Table → List Token → Work (List Token)
expand table ts left = expand_within (suc (left + length ts)) table ts left
