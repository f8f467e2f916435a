-- Values of the code as those of the definitions.
use Rattle.std.specs.Prelude.{◌≡◌, ◌<◌, ℕ, Bool, List, [], ◌∷◌, length, map, drop, codes, bytes_eq, if◌then◌else◌, Option, Some, None}
use Rattle.std.specs.List.{AllByRecursion}
use Rattle.cr_base.specs.declared.token.PpTok.{PpTok}
use Rattle.cr_macros.specs.declared.macros.Macro.{Macro}
use Rattle.cr_macros.specs.MacroTables.{Macros, macro_text, table_of}
use Rattle.cr_macros.specs.Tokens.{Text, Token, MacroText, token_of, tokens_of}
use Rattle.cr_preproc.specs.declared.line.Line.{Line}
use Rattle.cr_preproc.specs.declared.line.Line.TheVariants as line
use Rattle.cr_preproc.specs.declared.header.Header.{Header}
use Rattle.cr_preproc.specs.declared.search.Search.{Search}
use Rattle.cr_preproc.specs.declared.search.Search.TheVariants as search
use Rattle.cr_base.specs.declared.token.Name.{Name}
use Rattle.cr_macros.specs.Definition.{text_of}
use Rattle.cr_phase4.specs.Conditionals.{is_macro_of, piece_at, pieces, answered}
use Rattle.cr_base.specs.declared.token.Origin.TheVariants.{At}
use Rattle.cr_macros.specs.Definition.{starts_at}
use Rattle.cr_macros.specs.declared.fault.ExpandFault.{ExpandFault}
use Rattle.cr_macros.specs.declared.fault.ExpandFault.TheVariants as fault
use Rattle.cr_phase4.specs.Definition.{Definition, definition}
use Rattle.cr_phase4.specs.Lines as spec
use Rattle.cr_phase4.specs.Directives as directives
use Rattle.cr_phase4.specs.Search as searching

-- a line, where the table of names has these texts
abbrev pub seen_line : List Text → Line → spec.Line
seen_line names line.Plain = spec.Plain
seen_line names (line.Conditional hash t word rest) = spec.Conditional hash (token_of names [] t) word (tokens_of names rest.now)
seen_line names (line.Directive hash t rest) = spec.Directive hash (token_of names [] t) (tokens_of names rest.now)
seen_line names line.Empty = spec.Empty
seen_line names (line.Wordless hash) = spec.Wordless hash

abbrev pub seen_header : Header → directives.Header
seen_header h = record { angled = h.angled; name = h.name.items }

abbrev pub seen_search : Search → searching.Search
seen_search (search.Finds path n bytes) = searching.Finds path n.0 bytes.now
seen_search search.Misses = searching.Misses
seen_search (search.Lacks paths) = searching.Lacks paths.items

-- the table of names has the token's text
abbrev pub IsNamed : List Text → PpTok → Type 0
IsNamed names t = t.text.0 < length names

abbrev pub AreNamed : List Text → List PpTok → Type 0
AreNamed names = AllByRecursion (IsNamed names)

-- the macro by numbers has the name and the meaning of that by texts, or there is none
abbrev pub IsSameDefinition : List Text → Option Macro → Option Definition → Type 0
IsSameDefinition names None None = Unit {0}
IsSameDefinition names (Some m) (Some d) = (text_of names m.name ≡ d.name.text) × (macro_text names m ≡ d.macro)
IsSameDefinition names None (Some d) = ⊥
IsSameDefinition names (Some m) None = ⊥

-- the macros by the texts of their names
abbrev pub macros_of : List Text → Macros → Text → Option MacroText
macros_of names macros = (table_of names macros []).macro

-- the table of names has the names of the macros
abbrev pub AreMacrosNamed : List Text → Macros → Type 0
AreMacrosNamed names = AllByRecursion (λ entry. entry.0.0 < length names)

abbrev pub seen_asked : List Text → Option (PpTok × ℕ) → Option (Token × ℕ)
seen_asked names None = None
seen_asked names (Some p) = Some (token_of names [] p.0, p.1)

-- the names of `0` and `1`
abbrev pub AreDigits : List Text → List Name → Type 0
AreDigits names digits = map (text_of names) digits ≡ codes "0" ∷ codes "1" ∷ []

abbrev pub seen_answer : List Text → PpTok × ℕ → Token × ℕ
seen_answer names p = (token_of names [] p.0, p.1)

-- the piece that begins with a token, answered, and how many more tokens it takes
abbrev pub answer_at : (Token → Bool) → Token → List Token → Token × ℕ
answer_at test t ts = (answered test (piece_at t ts).0, (piece_at t ts).1)

-- a list with `defined` answered
abbrev pub answered_list : (Text → Option MacroText) → List Token → List Token
answered_list macros ts = map (answered (is_macro_of macros)) (pieces 0 ts)

-- the macros are as they were, but that a name has this macro, or none
abbrev pub SetsText : List Text → Macros → Text → Option MacroText → Macros → Type 0
SetsText names old name m new = (other : Text) → macros_of names new other ≡ (if bytes_eq name other then m else macros_of names old other)

-- A `define` line, from its `#` on, is carried out by the texts of its tokens.
abbrev pub IsDefined : List Text → List PpTok → Macros → Macros → Type 0
IsDefined names line old new = (d : Definition) × (definition (tokens_of names (drop 2 line)) ≡ Some d) × SetsText names old d.name.text (Some d.macro) new

-- It is a wrong definition, whose `#` is at this place, or want of memory.
abbrev pub IsUndefined : List Text → List PpTok → ExpandFault → Type 0
IsUndefined names line (fault.BadDefine place) = (definition (tokens_of names (drop 2 line)) ≡ None) × (starts_at line ≡ Some (At place))
IsUndefined names line (fault.ArgCount place) = ⊥
IsUndefined names line (fault.OpenCall place) = ⊥
IsUndefined names line (fault.BadPaste place) = ⊥
IsUndefined names line fault.LimitMacros = ⊥
IsUndefined names line fault.OutOfMemory = Unit {0}
