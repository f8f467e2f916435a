-- Which macros a machine may be handed, as lines are carried out.
use Rattle.std.specs.Prelude.{◌≡◌, ◌≤◌, List, [], length, None}
use Rattle.std.specs.List.{All}
use Rattle.cr_base.specs.declared.token.Name.{Name}
use Rattle.cr_base.specs.declared.token.PpTok.{PpTok}
use Rattle.cr_macros.specs.Tokens.{Text}
use Rattle.cr_macros.specs.MacroTables.{Macros, Sets, Defines, table_of}
use Rattle.cr_expand.specs.HideSets.{Grows}
use Rattle.cr_expand.specs.Items.{IsTokenNamed}
use Rattle.cr_expand.specs.Machines.{AreMacros}

-- No macros are good ones. They stay so where a line is carried out whose tokens the names hold and that isn't too long, where
-- a macro is taken away, and where the names grow, which changes no meaning.
pub record KeepsMacros : Type 0 where
  pub none : (names : List Text) → AreMacros names []
  pub defined : (names : List Text) (line : List PpTok) (old new : Macros) → AreMacros names old → All (IsTokenNamed names) line → length line ≤ 33554432 → Defines names line old new → AreMacros names new
  pub undefined : (names : List Text) (name : Name) (old new : Macros) → AreMacros names old → Sets old name None new → AreMacros names new
  pub later : (names new : List Text) (macros : Macros) → Grows names new → AreMacros names macros → AreMacros new macros
  pub same : (names new : List Text) (macros : Macros) (file : Text) → Grows names new → AreMacros names macros → table_of new macros file ≡ table_of names macros file
