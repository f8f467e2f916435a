-- What binding a unit event by event answers.
use Rattle.std.specs.Prelude.{◌≡◌, ◌⊎◌, ℕ, Bool, true, false, Result, Ok, Err, List, [], ◌∷◌, ◌++◌}
use Rattle.cr_base.specs.declared.token.Tok.{Tok}
use Rattle.cr_base.specs.declared.token.Place.{Place}
use Rattle.cr_base.specs.declared.cause.IllCause.{IllCause}
use Rattle.cr_ll.specs.declared.state.Event.{Event}
use Rattle.cr_ll.specs.declared.state.Event.TheVariants as event
use Rattle.cr_ll.specs.Derivation.{Item, Asked}
use Rattle.cr_binding.specs.Source.{Source, token_of}
use Rattle.cr_binding.specs.WellFormed.{IsIll}
use Rattle.cr_sema.specs.Walking as walking
use Rattle.cr_sema.specs.Walking.{IsNext, IsTaken}
use Rattle.cr_sema.specs.declared.sema.Sema.{Sema}
use Rattle.cr_sema.specs.declared.fault.SemaFault.{SemaFault}
use Rattle.cr_sema.specs.declared.fault.SemaFault.TheVariants as fault

abbrev pub source_of : List (List ℕ) → List Tok → Source
source_of names tokens = record { texts = names; tokens = tokens }

-- These events of a unit with these tokens have come, and there was memory for them.
abbrev pub HasCome : Source → List Item → Sema → Type 0
HasCome t es x = walking.HasCome t es x.walk × (x.spent ≡ false)

-- an event that the machine of the grammar gives next; or memory was wanted before
abbrev pub MayCome : Source → Event → Sema → Type 0
MayCome t e x = (x.spent ≡ true) ⊎ ((es : List Item) × HasCome t es x × IsNext t es e)

-- no ask, which is answered by a call of its own
abbrev pub IsNoAsk : Event → Type 0
IsNoAsk (event.Ask i) = ⊥
IsNoAsk _ = Unit {0}

-- the unit is ill-formed for a cause at a token, which stands at this place
abbrev pub IsIllAt : Source → IllCause → Place → Type 0
IsIllAt t c p = (i : ℕ) × IsIll t c i × (p ≡ (token_of t i).site)

-- What `act` answers: the event is bound, or the unit is ill-formed there.
abbrev pub Acts : Source → List Item → Event → Sema → Result (Unit {0}) SemaFault → Type 0
Acts t es e new (Ok x) = IsTaken t es e new.walk × (new.spent ≡ false)
Acts t es e new (Err (fault.Ill c p)) = IsIllAt t c p
Acts t es e new (Err fault.OutOfMemory) = new.spent ≡ true

-- What `ask` answers: whether a token names a type here (6.7.8p3).
abbrev pub Replies : Source → List Item → ℕ → Sema → Bool → Type 0
Replies t es i new answer =
    HasCome t (es ++ Asked i answer ∷ []) new
