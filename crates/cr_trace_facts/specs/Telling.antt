-- What each part of a trace tells.
use Rattle.std.specs.Prelude.{◌≡◌, List, Contains}
use Rattle.cr_base.specs.declared.token.Place.{Place}
use Rattle.cr_macros.specs.declared.macros.Seen.{Seen}
use Rattle.cr_phase4.specs.Traces.{Trace}
use Rattle.cr_facts.specs.declared.fact.Fact.{Fact}
use Rattle.cr_facts.specs.declared.fact.Fact.TheVariants as fact
use Rattle.cr_keeps.specs.UnitFacts.{IsToldHere}

-- a trace of these parts
abbrev pub trace_with : List Seen → List Place → List Place → List Place → Trace
trace_with seen new_macros body_params opaque = record {
  seen = seen;
  new_macros = new_macros;
  body_params = body_params;
  opaque = opaque;
}

-- what one of these tells
abbrev pub Among : {A : Type 0} → (A → Fact → Type 0) → List A → Fact → Type 0
Among {A} Tells xs f = (x : A) × Contains xs x × Tells x f

-- what an identifier was taken for, unless its binding tells that
abbrev pub RoleTells : Seen → Fact → Type 0
RoleTells one f = IsToldHere one.role × (f ≡ fact.HasRole one.place one.role)

abbrev pub DefinesNew : Place → Fact → Type 0
DefinesNew place f = f ≡ fact.NewMacro place

abbrev pub IsInBody : Place → Fact → Type 0
IsInBody place f = f ≡ fact.BodyParam place

abbrev pub IsOpaque : Place → Fact → Type 0
IsOpaque place f = f ≡ fact.OpaqueAt place
