-- A table of macros as the list of its names, each with its macro.
use Rattle.std.specs.Prelude.{◌≡◌, ◌==◌, List, bytes_eq, if◌then◌else◌, Option, Some, None, option_map, map}
use Rattle.std.specs.Map.{lookup}
use Rattle.cr_base.specs.declared.token.Name.{Name}
use Rattle.cr_base.specs.declared.token.PpTok.{PpTok}
use Rattle.cr_base.specs.declared.token.Origin.TheVariants.{At}
use Rattle.cr_macros.specs.declared.macros.Macro.{Macro}
use Rattle.cr_macros.specs.declared.fault.ExpandFault.{ExpandFault}
use Rattle.cr_macros.specs.declared.fault.ExpandFault.TheVariants.{BadDefine, ArgCount, OpenCall, BadPaste, LimitMacros, OutOfMemory}
use Rattle.cr_macros.specs.Tokens.{Text, MacroText, tokens_of}
use Rattle.cr_macros.specs.Expansion.{Table}
use Rattle.cr_macros.specs.Definition.{definition, starts_at, text_of}

abbrev pub Macros : Type 0
Macros = List (Name × Macro)

-- the macro of a name
abbrev pub macro_named : Name → Macros → Option Macro
macro_named name macros = lookup (λ k. name.0 == k.0) macros

-- The name has this macro, or none, and the others are as they were.
abbrev pub Sets : Macros → Name → Option Macro → Macros → Type 0
Sets old name m new = (other : Name) → macro_named other new ≡ (if name.0 == other.0 then m else macro_named other old)

-- The line's macro is defined, in the place of one of its name.
abbrev pub Defines : List Text → List PpTok → Macros → Macros → Type 0
Defines names line old new = (m : Macro) × (definition names line ≡ Some m) × Sets old m.name (Some m) new

-- A line isn't carried out: it is a wrong definition, whose `#` is at this place, or want of memory.
abbrev pub IsRefused : List Text → List PpTok → ExpandFault → Type 0
IsRefused names line (BadDefine place) = (definition names line ≡ None) × (starts_at line ≡ Some (At place))
IsRefused names line (ArgCount place) = ⊥
IsRefused names line (OpenCall place) = ⊥
IsRefused names line (BadPaste place) = ⊥
IsRefused names line LimitMacros = ⊥
IsRefused names line OutOfMemory = Unit {0}

-- a macro with the texts of its names
abbrev pub macro_text : List Text → Macro → MacroText
macro_text names m = record {
  params = option_map (map (text_of names)) m.params;
  variadic = m.variadic;
  body = tokens_of names m.body;
}

-- the macros by the texts of their names, and the text of the string that `__FILE__` gives
abbrev pub table_of : List Text → Macros → Text → Table
table_of names macros file = record {
  macro = λ text. option_map (macro_text names) (lookup (λ k. bytes_eq text (text_of names k)) macros);
  file = file;
}
