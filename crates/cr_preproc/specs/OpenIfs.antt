-- The open conditionals of a file as the code changes them.
use Rattle.std.specs.Prelude.{List, [], ◌∷◌, Option, Some, None}
use Rattle.cr_base.specs.declared.token.Place.{Place}
use Rattle.cr_base.specs.declared.cause.IllCause.TheVariants as cause
use Rattle.cr_macros.specs.Tokens.{Text, Token}
use Rattle.cr_phase4.specs.declared.conditionals.Group.{Group}
use Rattle.cr_phase4.specs.declared.conditionals.Group.TheVariants.{Past}
use Rattle.cr_phase4.specs.declared.conditionals.OpenIf.{OpenIf}
use Rattle.cr_preproc.specs.declared.open_ifs.Elif.{Elif}
use Rattle.cr_preproc.specs.declared.open_ifs.Elif.TheVariants as elif
use Rattle.cr_phase4.specs.Tasks.{Task, Ill, ◌>>>◌, only, ends}
use Rattle.cr_phase4.specs.Conditionals.{condition, group_if}

abbrev pub first_of : List OpenIf → Option OpenIf
first_of [] = None
first_of (c ∷ cs) = Some c

-- with another in the place of the innermost
abbrev pub with_first : OpenIf → List OpenIf → List OpenIf
with_first innermost [] = []
with_first innermost (c ∷ cs) = innermost ∷ cs

-- with the innermost in another group
abbrev pub with_group : Group → List OpenIf → List OpenIf
with_group group [] = []
with_group group (c ∷ cs) = record c { group = group } ∷ cs

-- what an `elif` does
abbrev pub by_elif : Text → Place → List Token → List OpenIf → Elif → Task (List OpenIf)
by_elif path hash ts cs elif.Stray = ends (Ill cause.StrayElse hash)
by_elif path hash ts cs elif.Asks = condition path hash ts >>> λ b. only (with_group (group_if b) cs)
by_elif path hash ts cs elif.Skips = only (with_group Past cs)
