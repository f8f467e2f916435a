-- Directives that aren't conditional (C11 6.10.2 to 6.10.7).
use Rattle.std.specs.Prelude.{◌-◌, Bool, true, false, ◌&&◌, ◌||◌, if◌then◌else◌, List, [], ◌∷◌, ◌++◌, flat_map, length, take, drop, bytes_eq, codes, Option, Some, None, is_some}
use Rattle.std.specs.Option.{option_map}
use Rattle.cr_base.specs.NameTable.{with_text}
use Rattle.cr_base.specs.declared.token.PpKind.{PpKind}
use Rattle.cr_base.specs.declared.token.PpKind.TheVariants.{Str}
use Rattle.cr_base.specs.declared.token.Place.{Place}
use Rattle.cr_base.specs.declared.cause.IllCause.TheVariants as cause
use Rattle.cr_base.specs.declared.cause.Role.{Role}
use Rattle.cr_base.specs.declared.cause.Role.TheVariants.{Param, Directive, Opaque}
use Rattle.cr_base.specs.declared.unit.Unit.{Unit}
use Rattle.cr_snapshot.specs.IncludeSearch.{candidates}
use Rattle.cr_macros.specs.Tokens.{Text, Token, MacroText, is_ident, is_mark, has}
use Rattle.cr_macros.specs.Substitution.{param}
use Rattle.cr_phase4.specs.Tasks.{Ill, Needs, Event, Looked, Defined, State, Task, Nothing, ◌>>>◌, ready, ends, tell, look, change, marks, in_directive}
use Rattle.cr_phase4.specs.Lines.{File, file_of}
use Rattle.cr_phase4.specs.Definition.{Definition, definition, undefined_name}
use Rattle.cr_phase4.specs.Search.{World, Search, Finds, Misses, Lacks, search, looked_for}
use Rattle.cr_phase4.specs.Runs.{expands}

-- how a file at a path is opened
abbrev pub Opening : Type 0
Opening = Text → File → Task Nothing

abbrev pub all_marks : Role → List Token → List Event
all_marks role = flat_map (marks role)

-- what an include names
pub record Header : Type 0 where
  pub angled : Bool
  pub name : Text

-- a blank where white space is before the token
abbrev pub blank_of : Token → Text
blank_of t = if t.space then 32 ∷ [] else []

-- a `>` ends the name where nothing is behind it
abbrev pub if_last : List Token → Text → Option Text
if_last [] name = Some name
if_last (t ∷ ts) name = None

-- the text up to a last `>`, with a blank where white space is
abbrev pub to_greater : List Token → Option Text
to_greater [] = None
to_greater (t ∷ ts) = if is_mark (codes ">") t then if_last ts (blank_of t) else option_map (λ name. (blank_of t ++ t.text) ++ name) (to_greater ts)

abbrev pub begins_with_quote : Text → Bool
begins_with_quote [] = false
begins_with_quote (b ∷ bs) = bytes_eq (b ∷ []) (codes "\"")

-- a string without a prefix, with what stands between its quotes
abbrev pub quoted_text : Text → Option Header
quoted_text text = if begins_with_quote text then Some (record { angled = false; name = take (length text - 2) (drop 1 text) }) else None

abbrev pub is_string_kind : PpKind → Bool
is_string_kind Str = true
is_string_kind _ = false

abbrev pub angled : Option Text → Option Header
angled None = None
angled (Some name) = Some (record { angled = true; name = name })

-- the header name that these tokens are: one string, or `<` to `>`
abbrev pub header_name : List Token → Option Header
header_name [] = None
header_name (t ∷ []) = if is_string_kind t.kind then quoted_text t.text else None
header_name (t ∷ u ∷ ts) = if is_mark (codes "<") t then angled (to_greater (u ∷ ts)) else None

-- a file is opened unless it is one that isn't opened again
abbrev pub opens_found : Opening → Place → Search → Task Nothing
opens_found enter site (Finds path n bytes) = look >>> λ s. if has s.once path then ready else enter path (file_of n bytes)
opens_found enter site Misses = ends (Ill cause.MissingFile site)
opens_found enter site (Lacks paths) = ends (Needs paths)

abbrev pub looks : World → Opening → Place → List Text → Search → Task Nothing
looks w enter site paths (Lacks unknown) = ends (Needs unknown)
looks w enter site paths (Finds path n bytes) = tell (Looked (looked_for w.find paths) ∷ []) >>> λ d. opens_found enter site (Finds path n bytes)
looks w enter site paths Misses = tell (Looked (looked_for w.find paths) ∷ []) >>> λ d. opens_found enter site Misses

-- the first file that is there at one of the paths is opened
abbrev pub opens : World → Opening → Place → List Text → Task Nothing
opens w enter site paths = looks w enter site paths (search w.find paths)

-- the site of the first token
abbrev pub site_of : Place → List Token → Place
site_of hash [] = hash
site_of hash (t ∷ ts) = t.site

abbrev pub includes_header : World → Unit → Opening → Text → Place → List Token → Header → Task Nothing
includes_header w u enter path hash ts h = opens w enter (site_of hash ts) (candidates u path h.angled h.name)

abbrev pub includes_expanded : World → Unit → Opening → Text → Place → List Token → Option Header → Task Nothing
includes_expanded w u enter path hash ts None = ends (Ill cause.BadDirective hash)
includes_expanded w u enter path hash ts (Some h) = includes_header w u enter path hash ts h

-- C11 6.10.2: a list that is no header name is expanded
abbrev pub includes : World → Unit → Opening → Text → Place → List Token → Option Header → Task Nothing
includes w u enter path hash ts (Some h) = includes_header w u enter path hash ts h
includes w u enter path hash ts None =
    in_directive hash (expands path ts)
    >>> λ us. tell (all_marks Directive us)
    >>> λ d. includes_expanded w u enter path hash us (header_name us)

-- the state with this macro, or none, of a name
abbrev pub with_macro : Text → Option MacroText → State → State
with_macro name m s = record s { macro = λ other. if bytes_eq name other then m else s.macro other }

-- the tokens of a body that are parameters
abbrev pub parameter_marks : MacroText → Token → List Event
parameter_marks m t = if is_some (param m t) then marks Param t else []

abbrev pub definition_marks : Definition → List Event
definition_marks d = marks Directive d.name ++ (all_marks Param d.parameters ++ flat_map (parameter_marks d.macro) d.macro.body)

-- C11 6.10.3; that a definition replaces an earlier one, whatever its body, is an own rule of this project
abbrev pub defines : Place → Option Definition → Task Nothing
defines hash None = ends (Ill cause.BadDefine hash)
defines hash (Some d) = tell (definition_marks d ++ Defined d.name d.macro ∷ []) >>> λ n. change (with_macro d.name.text (Some d.macro))

-- C11 6.10.3.5
abbrev pub undefines : Place → Option Token → Task Nothing
undefines hash None = ends (Ill cause.BadDefine hash)
undefines hash (Some t) = tell (marks Directive t) >>> λ d. change (with_macro t.text None)

abbrev pub begins_with_once : List Token → Bool
begins_with_once [] = false
begins_with_once (t ∷ ts) = is_ident t.kind && bytes_eq t.text (codes "once")

-- C11 6.10.6; `once` is an own rule of this project
abbrev pub pragma : Text → List Token → Task Nothing
pragma path ts = if begins_with_once ts then change (λ s. record s { once = with_text s.once path }) else tell (all_marks Opaque ts)

-- a directive that defines nothing
abbrev pub plain_directive : World → Unit → Opening → Text → Place → Text → List Token → Task Nothing
plain_directive w u enter path hash word ts =
    if bytes_eq word (codes "include") then (tell (all_marks Directive ts) >>> λ d. includes w u enter path hash ts (header_name ts))
    else if bytes_eq word (codes "undef") then undefines hash (undefined_name ts)
    else if bytes_eq word (codes "pragma") then pragma path ts
    else if bytes_eq word (codes "line") || bytes_eq word (codes "warning") then tell (all_marks Directive ts)
    else if bytes_eq word (codes "ident") then ready
    else if bytes_eq word (codes "error") then (tell (all_marks Directive ts) >>> λ d. ends (Ill cause.ErrorDirective hash))
    else ends (Ill cause.BadDirective hash)

-- a live directive by its word; that `line`, `warning` and `ident` have no effect is an own rule of this project
abbrev pub directive : World → Unit → Opening → Text → Place → Text → List Token → Task Nothing
directive w u enter path hash word ts =
    if bytes_eq word (codes "define") then defines hash (definition ts) else plain_directive w u enter path hash word ts
