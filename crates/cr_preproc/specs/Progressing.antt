-- What a unit has so far, as the definitions see it, and how far a task has led it.
use Rattle.std.specs.Prelude.{◌≡◌, ◌≤◌, ℕ, ◌-◌, List, [], ◌∷◌, ◌++◌, length, map}
use Rattle.cr_base.specs.NameTable.{IsDistinct}
use Rattle.cr_base.specs.declared.cause.Role.{Role}
use Rattle.cr_base.specs.declared.cause.Role.TheVariants as role
use Rattle.cr_base.specs.declared.token.PpTok.{PpTok}
use Rattle.cr_macros.specs.declared.macros.Seen.{Seen}
use Rattle.cr_macros.specs.Tokens.{Text, MacroText, token_of, tokens_of}
use Rattle.cr_macros.specs.Definition.{text_of}
use Rattle.cr_expand.specs.HideSets.{Grows}
use Rattle.cr_expand.specs.Held.{IsNamed as IsNameKnown}
use Rattle.cr_expand.specs.Machines.{AreMacros}
use Rattle.cr_expand.specs.Expanders.{plain}
use Rattle.cr_expand.specs.declared.machine.TheConstants.{LIMIT}
use Rattle.cr_preproc.specs.declared.progress.Progress.{Progress}
use Rattle.cr_preproc.specs.declared.progress.TheConstants.{MOST_TOKENS, MOST_READ}
use Rattle.cr_preproc.specs.declared.trace.Trace.{Trace as KeptTrace}
use Rattle.cr_phase4.specs.Tasks.{End, Event, Defined, State, Goes, Ends, Task}
use Rattle.cr_phase4.specs.Definition.{Definition, parameters_of}
use Rattle.cr_phase4.specs.Directives.{definition_marks}
use Rattle.cr_phase4.specs.PreprocessingRun.{steps, final_tokens}
use Rattle.cr_phase4.specs.Traces.{Trace, trace_of}
use Rattle.cr_preproc.specs.Seen.{AreNamed, AreMacrosNamed, macros_of}

-- the state of the definitions
abbrev pub state_of : Progress → State
state_of p = record {
  macro = macros_of p.names p.macros;
  once = p.once;
  work = LIMIT - p.used;
  reading = p.reading;
  room = MOST_TOKENS - length p.tokens.items;
}

abbrev pub kept : KeptTrace → Trace
kept t = record { seen = t.seen.items; new_macros = t.new_macros.items; body_params = t.body_params.items; opaque = t.opaque.items }

-- one trace behind another
abbrev pub joined : Trace → Trace → Trace
joined a b = record {
  seen = a.seen ++ b.seen;
  new_macros = a.new_macros ++ b.new_macros;
  body_params = a.body_params ++ b.body_params;
  opaque = a.opaque ++ b.opaque;
}

-- what is kept of these events
abbrev pub traced : Progress → List Event → Trace
traced p = trace_of (text_of p.names p.renaming.old) (text_of p.names p.renaming.new)

-- What every unit keeps: the table of names has the names of all that it holds, and no limit is passed.
pub record IsProgress (p : Progress) : Type 0 where
  pub distinct : IsDistinct p.names
  pub old : IsNameKnown p.names p.renaming.old
  pub new : IsNameKnown p.names p.renaming.new
  pub macros : AreMacros p.names p.macros
  pub macro_names : AreMacrosNamed p.names p.macros
  pub tokens : AreNamed p.names p.tokens.items
  pub used : p.used ≤ LIMIT
  pub reading : p.reading ≤ MOST_READ
  pub room : length p.tokens.items ≤ MOST_TOKENS

-- Only what is seen grew, by these.
pub record IsSeen (old now : Progress) (more : List Seen) : Type 0 where
  pub seen : now.trace.seen.items ≡ old.trace.seen.items ++ more
  pub same : now ≡ record old { trace = record old.trace { seen = now.trace.seen } }

-- What is kept of these events is behind the trace, and nothing else is changed.
pub record IsTraced (old now : Progress) (events : List Event) : Type 0 where
  pub trace : kept now.trace ≡ joined (kept old.trace) (traced old events)
  pub same : now ≡ record old { trace = now.trace }

-- a role that isn't that of a pragma's tokens, of which more is kept
abbrev pub IsNotOpaque : Role → Type 0
IsNotOpaque role.Opaque = ⊥
IsNotOpaque _ = Unit {0}

-- what is defined by a name and the tokens behind it, where this is the macro
abbrev pub definition_of : List Text → PpTok → List PpTok → MacroText → Definition
definition_of names name behind m = record { name = token_of names [] name; parameters = parameters_of (tokens_of names behind); macro = m }

-- what happens where it is defined
abbrev pub definition_events : Definition → List Event
definition_events d = definition_marks d ++ Defined d.name d.macro ∷ []

-- The final tokens among the events were given, and what is kept of the events is in the trace.
pub record IsTold (old now : Progress) (events : List Event) : Type 0 where
  pub tokens : tokens_of now.names now.tokens.items ≡ tokens_of old.names old.tokens.items ++ map plain (final_tokens events)
  pub trace : kept now.trace ≡ joined (kept old.trace) (traced old events)
  pub renaming : now.renaming ≡ old.renaming
  pub names : Grows old.names now.names

-- A task was done, in so many steps, and gave this.
pub record Did {A : Type 0} (n : ℕ) (old now : Progress) (m : Task A) (a : A) : Type 0 where
  pub events : List Event
  pub size : steps events ≡ n
  pub goes : m (state_of old) ≡ Goes a (state_of now) events
  pub told : IsTold old now events
  pub good : IsProgress now

-- A task ends the unit so, and no step was made.
pub record DidEnd {A : Type 0} (old now : Progress) (m : Task A) (end : End) : Type 0 where
  pub events : List Event
  pub goes : m (state_of old) ≡ Ends end events
