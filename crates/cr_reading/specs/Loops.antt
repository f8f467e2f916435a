-- How far the machine and the binding have come together. No contract of a public call cites it.
use Rattle.std.specs.Prelude.{◌≡◌, ◌⊎◌, ◌+◌, ℕ, false, List, Option, Some, None}
use Rattle.cr_base.specs.declared.token.Place.{Place}
use Rattle.cr_base.specs.declared.cause.IllCause.TheVariants as cause
use Rattle.cr_ll.specs.Derivation.{Item}
use Rattle.cr_ll.specs.Laws.{unit}
use Rattle.cr_ll.specs.Machine.{at, Run}
use Rattle.cr_ll.specs.Running.{config_of}
use Rattle.cr_ll.specs.declared.state.State.{State}
use Rattle.cr_ll.specs.declared.state.Event.{Event}
use Rattle.cr_ll.specs.declared.state.MachineFault.{MachineFault}
use Rattle.cr_ll.specs.declared.state.MachineFault.TheVariants as fault
use Rattle.cr_ll_law.specs.EventsLeft.{left}
use Rattle.cr_binding.specs.Source.{Source, token_of}
use Rattle.cr_binding.specs.WellFormed.{terminals_of}
use Rattle.cr_sema.specs.Walking.{IsTaken}
use Rattle.cr_sema.specs.Sema.{HasCome, IsIllAt}
use Rattle.cr_sema.specs.declared.sema.Sema.{Sema}
use Rattle.cr_reading.specs.Reading.{IsTooDeep, IsFirstCause, IsBound}
use Rattle.cr_reading.specs.declared.reading.Ended.{Ended}
use Rattle.cr_reading.specs.declared.reading.Ended.TheVariants as ended

-- the machine has given these events, and they are bound
pub record IsGoing (t : Source) (m : State) (x : Sema) : Type 0 where
  pub events : List Item
  pub run : Run (terminals_of t) (at 0 unit) events (config_of m)
  pub come : HasCome t events x
  pub sound : m.fault ≡ None

-- or the machine is over the limit of its stack
abbrev pub Reads : Source → State → Sema → Type 0
Reads t m x = IsGoing t m x ⊎ ((m.fault ≡ Some fault.LimitDepth) × IsTooDeep t)

abbrev pub IsEnded : Source → Sema → Ended → Type 0
IsEnded t x ended.WellFormed = IsBound t x
IsEnded t x (ended.Ill c p) = IsFirstCause t c p

-- one more token is passed, or the unit is at its end
abbrev pub LeadsOn : Source → State → State → Sema → Option Ended → Type 0
LeadsOn t m n x None = Reads t n x × (n.waits ≡ None) × (n.place ≡ m.place + 1)
LeadsOn t m n x (Some e) = IsEnded t x e

abbrev pub no_place : Place
no_place = record { path = record { 0 = 0 }; offset = 0 }

-- what a fault of the grammar's machine makes of a unit
abbrev pub ill_of : Source → MachineFault → Ended
ill_of t (fault.Syntax i) = ended.Ill cause.Syntax (token_of t i).site
ill_of t fault.LimitDepth = ended.Ill cause.LimitDepth no_place

abbrev pub IsIllEnd : Source → Ended → Type 0
IsIllEnd t ended.WellFormed = ⊥
IsIllEnd t (ended.Ill c p) = IsIllAt t c p

-- an event is bound, or the unit is ill-formed there
abbrev pub IsBoundOrIll : Source → List Item → Event → Sema → Option Ended → Type 0
IsBoundOrIll t es e x None = IsTaken t es e x.walk × (x.spent ≡ false)
IsBoundOrIll t es e x (Some r) = IsIllEnd t r

-- what the machine can still give before it passes a token; a fault counts as one
abbrev pub alive : Option MachineFault → ℕ
alive None = 1
alive (Some f) = 0

abbrev pub events_left : State → ℕ
events_left m = left (config_of m) + alive m.fault
