-- What a unit's trace says of a renaming.
use Rattle.std.specs.Prelude.{◌≡◌, true, false, List, []}
use Rattle.std.specs.List.{AllByRecursion}
use Rattle.cr_base.specs.declared.cause.Role.{Role}
use Rattle.cr_base.specs.declared.cause.Role.TheVariants.{Final, Dropped}
use Rattle.cr_macros.specs.declared.macros.Seen.{Seen}
use Rattle.cr_expand_law.specs.Renaming.{Renaming}
use Rattle.cr_phase4.specs.Tasks.{Event}
use Rattle.cr_phase4.specs.Traces.{Trace, trace_of}
use Rattle.cr_preproc_law.specs.Renaming.{IsFine}

-- the role of an identifier that may be renamed
abbrev pub IsFree : Role → Type 0
IsFree Final = Prim.Unit {0}
IsFree Dropped = Prim.Unit {0}
IsFree other = ⊥

-- An identifier at one of the places is at most final or dropped, the new name is defined as no macro, and no macro that
-- has it as a parameter has the old one at one of the places in its body.
pub record IsFreeTrace (r : Renaming) (trace : Trace) : Type 0 where
  pub seen : AllByRecursion (λ (s : Seen). r.is_place s.place ≡ true → IsFree s.role) trace.seen
  pub new_macros : trace.new_macros ≡ []
  pub body_params : AllByRecursion (λ place. r.is_place place ≡ false) trace.body_params

-- Where the trace is free, nothing that happens does harm.
abbrev pub TracesAreFine : Type 0
TracesAreFine = (r : Renaming) (events : List Event) → IsFreeTrace r (trace_of r.old r.new events) → AllByRecursion (IsFine r) events
