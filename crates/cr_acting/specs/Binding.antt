-- What is bound of a unit so far, and what a call does to it.
use Rattle.std.specs.Prelude.{◌≡◌, ℕ, Some, Result, Ok, Err}
use Rattle.cr_base.specs.declared.cause.IllCause.{IllCause}
use Rattle.cr_binding.specs.Source.{Source}
use Rattle.cr_binding.specs.State.{State, start}
use Rattle.cr_names.specs.declared.fault.BindFault.{BindFault}
use Rattle.cr_names.specs.Names.{Refuses}
use Rattle.cr_bound.specs.Kept.{with_bound, IsTyped, AreSpelled}
use Rattle.cr_operands.specs.Operands.{with_operands, IsHeld, Grows}
use Rattle.cr_acting.specs.declared.words.Words.{Words}
use Rattle.cr_acting.specs.declared.binding.Binding.{Binding}

-- the tokens, with the texts of names
abbrev pub source_by : Words → Source
source_by w = record { texts = w.names.now; tokens = w.tokens.now }

-- all that is bound, in a state without a fault
abbrev pub state_of : Binding → State
state_of b = with_operands b.types b.operands (with_bound b.types b.bound start)

-- All types and records are the table's.
pub record IsWhole (b : Binding) : Type 0 where
  pub typed : IsTyped b.types b.bound
  pub held : IsHeld b.types b.operands

-- Besides, declarations and members are spelled as their tokens.
pub record IsReady (source : Source) (b : Binding) : Type 0 where
  pub spelled : AreSpelled source b.bound
  pub whole : IsWhole b

-- what is done to a state by these tokens
abbrev pub Change : Type 0
Change = Source → State → State

-- It is done to what is bound. Marks of operands and types keep their meaning.
pub record Becomes (source : Source) (old : Binding) (f : Change) (new : Binding) : Type 0 where
  pub state : state_of new ≡ f source (state_of old)
  pub ready : IsReady source new
  pub grows : Grows old.types old.operands new.types new.operands

-- The same whatever the tokens are, so far as they spell what is bound.
pub record Leads (old : Binding) (f : Change) (new : Binding) : Type 0 where
  pub state : (source : Source) → AreSpelled source old.bound → state_of new ≡ f source (state_of old)
  pub spelled : (source : Source) → AreSpelled source old.bound → AreSpelled source new.bound
  pub whole : IsWhole new
  pub grows : Grows old.types old.operands new.types new.operands

-- doing it is a fault of a cause at a token
abbrev pub Fails : Source → Binding → Change → IllCause → ℕ → Type 0
Fails source old f c i = (f source (state_of old)).fault ≡ Some (c, i)

-- it is done, or it is a fault, which only want of memory isn't
abbrev pub Does : Source → Binding → Change → Binding → Result (Unit {0}) BindFault → Type 0
Does source old f new (Ok x) = Becomes source old f new
Does source old f new (Err e) = Refuses e (Fails source old f)
