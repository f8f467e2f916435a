-- Scopes (C11 6.2.1), function bodies, and labels (6.8.1, 6.8.6.1).
use Rattle.std.specs.Prelude.{ℕ, ◌+◌, ◌-◌, true, false, Option, Some, None, is_some, if◌then◌else◌, List, [], ◌∷◌, ◌++◌, length, take}
use Rattle.cr_base.specs.declared.Kind.TheVariants as kind
use Rattle.cr_base.specs.declared.cause.IllCause.TheVariants as cause
use Rattle.cr_grammar.specs.declared.symbols.NonTerm.{NonTerm}
use Rattle.cr_grammar.specs.declared.symbols.NonTerm.TheVariants as n
use Rattle.cr_scope.specs.declared.Space.TheVariants as space
use Rattle.cr_types.specs.Types.{Void}
use Rattle.cr_binding.specs.Source.{Source}
use Rattle.cr_binding.specs.State.{GoesTo, State}
use Rattle.cr_binding.specs.Declaring.{failed, used, declare_plain, meaning_here}

-- the number of the scope that is entered next; file scope has number 0 and no part in paths
abbrev pub next_scope : State → ℕ
next_scope s = s.scopes + 1

abbrev pub entered : State → State
entered s = record s { scopes = next_scope s; present = s.present ++ next_scope s ∷ [] }

abbrev pub left : State → State
left s = record s { present = take (length s.present - 1) s.present }

-- the scope of the function suffix nearest to the name is the first that a declarator enters behind it
abbrev pub or_next : Option ℕ → State → Option ℕ
or_next None s = Some (next_scope s)
or_next (Some k) s = Some k

-- parameters of a declarator (6.2.1p4), or a block
abbrev pub entered_in : NonTerm → State → State
entered_in n.Sufs s = entered (record s { pending = record s.pending { parameters = or_next s.pending.parameters s } })
entered_in _ s = entered s

-- a function's body shares the scope of its parameters (6.2.1p4); what has none is no function
abbrev pub body_within : Option ℕ → State → State
body_within None s = failed cause.Syntax (s.last + 1) s
body_within (Some k) s = record s { present = s.present ++ k ∷ []; in_body = true; jumps = [] }

abbrev pub declare_label : Source → ℕ → State → State
declare_label t i s = declare_plain t space.Label kind.Label i Void s

-- the labels of a function are declared in all of it, so its jumps are bound at its end (6.8.6.1p1)
abbrev pub jump_to : Option ℕ → ℕ → State → State
jump_to None i s = failed cause.Unresolved i s
jump_to (Some k) i s = used (GoesTo i k) s

-- what is done unless there is a fault
abbrev pub unless_failed : State → State → State
unless_failed s s' = if is_some s.fault then s else s'

abbrev pub all_jumps : Source → List ℕ → State → State
all_jumps t [] s = s
all_jumps t (i ∷ is) s = all_jumps t is (unless_failed s (jump_to (meaning_here t space.Label i s) i s))

abbrev pub body_ended : Source → State → State
body_ended t s = record (left (all_jumps t s.jumps s)) { in_body = false; jumps = [] }
