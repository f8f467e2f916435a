-- The refusals that units decide, with what their lines say. Our own rules.
use Rattle.std.specs.Prelude.{ℕ, List, ◌∷◌, ◌++◌, codes, decimal}
use Rattle.cr_base.specs.declared.token.Place.{Place}
use Rattle.cr_base.specs.declared.cause.IllCause.{IllCause}
use Rattle.cr_base.specs.declared.cause.IllCause.TheVariants as cause
use Rattle.cr_snapshot.specs.declared.known.KnownFile.{KnownFile}
use Rattle.cr_class.specs.ShownOrder.{path_of}
use Rattle.cr_goal.specs.declared.refusal.Status.TheVariants as status
use Rattle.cr_goal.specs.declared.refusal.Refused.{Refused}

-- a path and an offset, with a colon between them
abbrev pub place_text : List KnownFile → Place → List ℕ
place_text files p = path_of files p ++ 58 ∷ decimal p.offset

abbrev pub limit_files : Refused
limit_files = record { status = status.Limit; text = codes "limit: files" }

abbrev pub cause_name : IllCause → List ℕ
cause_name cause.MissingFile = codes "MissingFile"
cause_name cause.OpenComment = codes "OpenComment"
cause_name cause.Trigraph = codes "Trigraph"
cause_name cause.BadDirective = codes "BadDirective"
cause_name cause.ErrorDirective = codes "ErrorDirective"
cause_name cause.OpenIf = codes "OpenIf"
cause_name cause.StrayElse = codes "StrayElse"
cause_name cause.BadDefine = codes "BadDefine"
cause_name cause.ArgCount = codes "ArgCount"
cause_name cause.OpenCall = codes "OpenCall"
cause_name cause.BadPaste = codes "BadPaste"
cause_name cause.CondSyntax = codes "CondSyntax"
cause_name cause.DivideByZero = codes "DivideByZero"
cause_name cause.Overflow = codes "Overflow"
cause_name cause.CondConstant = codes "CondConstant"
cause_name cause.MadeDefined = codes "MadeDefined"
cause_name cause.BadToken = codes "BadToken"
cause_name cause.Syntax = codes "Syntax"
cause_name cause.BadSpecifiers = codes "BadSpecifiers"
cause_name cause.Redeclared = codes "Redeclared"
cause_name cause.Unresolved = codes "Unresolved"
cause_name cause.NoMember = codes "NoMember"
cause_name cause.NotRecord = codes "NotRecord"
cause_name cause.GenericType = codes "GenericType"
cause_name cause.Elision = codes "Elision"
cause_name cause.LimitTokens = codes "tokens"
cause_name cause.LimitMacros = codes "macros"
cause_name cause.LimitReading = codes "reading"
cause_name cause.LimitIncludes = codes "includes"
cause_name cause.LimitDepth = codes "depth"

abbrev pub ill_formed : ℕ → List ℕ → List ℕ → Refused
ill_formed number place why =
    record { status = status.IllFormed; text = codes "ill-formed: unit " ++ decimal number ++ 32 ∷ place ++ 32 ∷ why }

abbrev pub over_limit : ℕ → List ℕ → Refused
over_limit number what = record { status = status.Limit; text = codes "limit: unit " ++ decimal number ++ 32 ∷ what }

-- a unit that is ill-formed, with the place of the cause; or over a limit, of which no place is shown
abbrev pub bad_unit : List KnownFile → ℕ → Place → IllCause → Refused
bad_unit files number p cause.LimitTokens = over_limit number (cause_name cause.LimitTokens)
bad_unit files number p cause.LimitMacros = over_limit number (cause_name cause.LimitMacros)
bad_unit files number p cause.LimitReading = over_limit number (cause_name cause.LimitReading)
bad_unit files number p cause.LimitIncludes = over_limit number (cause_name cause.LimitIncludes)
bad_unit files number p cause.LimitDepth = over_limit number (cause_name cause.LimitDepth)
bad_unit files number p why = ill_formed number (place_text files p) (cause_name why)
