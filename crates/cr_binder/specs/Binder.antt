-- All that is kept of a unit while it is bound, and what a call does to it.
use Rattle.std.specs.Prelude.{◌≡◌, ℕ, Bool, Some, unwrap_or, Result, Ok, Err}
use Rattle.cr_base.specs.declared.cause.IllCause.{IllCause}
use Rattle.cr_binding.specs.Source.{Source}
use Rattle.cr_grammar.specs.declared.symbols.Action.{Action}
use Rattle.cr_binding.specs.Binding.{goes_on}
use Rattle.cr_known.specs.Known.{Known, acted_by}
use Rattle.cr_names.specs.declared.fault.BindFault.{BindFault}
use Rattle.cr_names.specs.Names.{Refuses}
use Rattle.cr_walk.specs.Seen.{answer_here}
use Rattle.cr_acting.specs.Binding.{state_of, IsWhole, IsReady}
use Rattle.cr_binder.specs.declared.binder.Binder.{Binder}
use Rattle.cr_binder.specs.Frames.{frames_by, AreKept, AreFor}

abbrev pub known_of : Binder → Known
known_of b =
    record {
      node = b.nest.node;
      first = b.nest.first;
      shape = b.nest.shape;
      childless = b.nest.childless;
      above = frames_by b.binding.types b.binding.operands b.nest.above b.frames;
      closed = b.nest.closed;
      state = state_of b.binding;
    }

-- All types, records and marks were given.
pub record IsSound (b : Binder) : Type 0 where
  pub whole : IsWhole b.binding
  pub kept : AreKept b.binding.types b.binding.operands b.frames
  pub frames : AreFor b.nest.above b.frames

-- Besides, declarations and members are spelled as these tokens.
pub record IsOf (t : Source) (b : Binder) : Type 0 where
  pub ready : IsReady t b.binding
  pub sound : IsSound b

-- what is kept is this now
pub record Keeps (t : Source) (k : Known) (b : Binder) : Type 0 where
  pub known : known_of b ≡ k
  pub of : IsOf t b

-- A call does this to what is kept,
abbrev pub Goes : Binder → (Known → Known) → Binder → Type 0
Goes old f new = (t : Source) → IsOf t old → Keeps t (f (known_of old)) new

-- or, with these tokens, does it or is the fault of it, which only want of memory isn't,
abbrev pub Fails : Known → IllCause → ℕ → Type 0
Fails k c i = k.state.fault ≡ Some (c, i)

abbrev pub Does : Source → Known → Binder → Result (Unit {0}) BindFault → Type 0
Does t k new (Ok x) = Keeps t k new
Does t k new (Err e) = Refuses e (Fails k)

-- what an action does but for the open nodes
abbrev pub acted_alone : Source → Action → Known → Known
acted_alone t x k = record k { state = goes_on k.state (acted_by t k.node (unwrap_or k.first k.state.last) x k.closed k.state) }

-- or answers an ask.
abbrev pub IsAnswer : Source → Binder → ℕ → Bool → Type 0
IsAnswer t b i answer = answer ≡ answer_here t i (known_of b).state
