-- What a directive by its word does.
use Rattle.std.specs.Prelude.{◌≡◌, List}
use Rattle.cr_base.specs.declared.token.Place.{Place}
use Rattle.cr_base.specs.declared.cause.IllCause.TheVariants as cause
use Rattle.cr_base.specs.declared.cause.Role.TheVariants as role
use Rattle.cr_base.specs.declared.unit.Unit.{Unit}
use Rattle.cr_macros.specs.Tokens.{Text, Token}
use Rattle.cr_preproc.specs.declared.directive.Order.{Order}
use Rattle.cr_preproc.specs.declared.directive.Order.TheVariants as order
use Rattle.cr_phase4.specs.Tasks.{Ill, Task, Nothing, ◌>>>◌, ready, ends, tell}
use Rattle.cr_phase4.specs.Definition.{definition, undefined_name}
use Rattle.cr_phase4.specs.Search.{World}
use Rattle.cr_phase4.specs.Directives.{Opening, all_marks, header_name, includes, defines, undefines, pragma, directive}

abbrev pub by_order : World → Unit → Opening → Text → Place → List Token → Order → Task Nothing
by_order w u enter path hash ts order.Define = defines hash (definition ts)
by_order w u enter path hash ts order.Include = tell (all_marks role.Directive ts) >>> λ d. includes w u enter path hash ts (header_name ts)
by_order w u enter path hash ts order.Undef = undefines hash (undefined_name ts)
by_order w u enter path hash ts order.Pragma = pragma path ts
by_order w u enter path hash ts order.Named = tell (all_marks role.Directive ts)
by_order w u enter path hash ts order.Nothing = ready
by_order w u enter path hash ts order.Error = tell (all_marks role.Directive ts) >>> λ d. ends (Ill cause.ErrorDirective hash)
by_order w u enter path hash ts order.Unknown = ends (Ill cause.BadDirective hash)

-- A directive with this word does what the order says.
abbrev pub IsWord : Text → Order → Type 0
IsWord word o = (w : World) (u : Unit) (enter : Opening) (path : Text) (hash : Place) (ts : List Token) → directive w u enter path hash word ts ≡ by_order w u enter path hash ts o
