-- A new name is only a name.
use Rattle.cr_macros.specs.Tokens.{Text}
use Rattle.cr_keeps.specs.OnlyNames.{IsOnlyName}
use Rattle.cr_keeps.specs.AcceptedRenames.{MayTakeThePlace}

-- What is no keyword and isn't reserved has no meaning of its own.
abbrev pub NewNamesAreOnlyNames : Type 0
NewNamesAreOnlyNames = (old new : Text) → MayTakeThePlace old new → IsOnlyName new
