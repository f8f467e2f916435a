-- What a token at the head of a list means, before the tokens behind it are looked at.
use Rattle.std.specs.Prelude.{◌≡◌, List, map, Option, Some, None}
use Rattle.std.specs.List.{All}
use Rattle.cr_base.specs.declared.token.Name.{Name}
use Rattle.cr_macros.specs.declared.macros.Macro.{Macro}
use Rattle.cr_expand.specs.declared.head.Head.{Head}
use Rattle.cr_expand.specs.declared.head.Head.TheVariants as head
use Rattle.cr_macros.specs.Tokens.{Text, Token}
use Rattle.cr_macros.specs.Expansion as spec
use Rattle.cr_macros.specs.Definition.{text_of}
use Rattle.cr_macros.specs.MacroTables.{Macros, macro_named, macro_text}
use Rattle.cr_expand.specs.Held.{IsNamed}

-- a function-like macro's name before a rest; an object-like one
abbrev pub called_by : Token → List Text → Macro → List Token → Option (List Name) → spec.Use
called_by t names m rest None = spec.Object (macro_text names m)
called_by t names m rest (Some params) = spec.call_of t (macro_text names m) (map (text_of names) params) rest

-- what a head means, as a use of a rule, before a rest
abbrev pub use_text : List Text → Text → Token → List Token → Head → spec.Use
use_text names file t rest head.Stays = spec.Keep
use_text names file t rest (head.Predefined p) = let given = spec.predefined_token file t.line p in spec.Predefined given.0 given.1
use_text names file t rest (head.Named m) = called_by t names m.now rest m.now.params

-- The names hold those of the macros.
abbrev pub IsEntryKnown : List Text → Name × Macro → Type 0
IsEntryKnown names e = IsNamed names e.0

abbrev pub AreMacrosKnown : List Text → Macros → Type 0
AreMacrosKnown names macros = All (IsEntryKnown names) macros

-- The macro that a head names is the one of its name.
abbrev pub IsLookedUp : Macros → Name → Head → Type 0
IsLookedUp macros name head.Stays = Unit {0}
IsLookedUp macros name (head.Predefined p) = Unit {0}
IsLookedUp macros name (head.Named m) = macro_named name macros ≡ Some m.now
