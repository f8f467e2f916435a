-- Scopes, bodies and labels, at the last token.
use Rattle.std.specs.Prelude.{◌+◌, ◌<◌, ◌^◌, Bool, if◌then◌else◌, [], ◌∷◌, ◌++◌}
use Rattle.cr_binding.specs.Source.{Source}
use Rattle.cr_binding.specs.State.{State}
use Rattle.cr_binding.specs.Scoping.{entered, or_next, body_within, declare_label}
use Rattle.cr_bound.specs.declared.bound.Bound.{Bound}

-- a scope is entered, that of a function suffix or another
abbrev pub entering : (suffix : Bool) → State → State
entering suffix s =
    if suffix then entered (record s { pending = record s.pending { parameters = or_next s.pending.parameters s } }) else entered s

abbrev pub entering_body : State → State
entering_body s = body_within s.pending.parameters s

abbrev pub labelling : Source → State → State
labelling t s = declare_label t s.last s

abbrev pub jumping : State → State
jumping s = record s { jumps = s.jumps ++ s.last ∷ [] }

abbrev pub hiding_last : State → State
hiding_last s = record s { hidden = s.hidden ++ s.last ∷ [] }

-- the number of the next token is one of 32 bits
abbrev pub HasNext : Bound → Type 0
HasNext b = b.place.last + 1 < 2 ^ 32
