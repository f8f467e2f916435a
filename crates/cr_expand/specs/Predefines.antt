-- The token of a predefined macro, with names by number.
use Rattle.std.specs.Prelude.{◌≡◌, List}
use Rattle.cr_base.specs.NameTable.{IsDistinct}
use Rattle.cr_base.specs.declared.token.Name.{Name}
use Rattle.cr_base.specs.declared.token.PpKind.{PpKind}
use Rattle.cr_macros.specs.Definition.{text_of}
use Rattle.cr_macros.specs.Tokens.{Text}
use Rattle.cr_expand.specs.HideSets.{Grows}
use Rattle.cr_expand.specs.Held.{IsNamed}

-- A kind and a text, by its name in the table as it is now.
pub record IsGivenText (names new : List Text) (given : PpKind × Text) (found : PpKind × Name) : Type 0 where
  pub kind : found.0 ≡ given.0
  pub text : text_of new found.1 ≡ given.1
  pub named : IsNamed new found.1
  pub grows : Grows names new
  pub distinct : IsDistinct new
