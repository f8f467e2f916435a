-- The facts of a unit: what its preprocessing tells, and what its binding tells.
use Rattle.std.specs.Prelude.{◌⊎◌, ◌↔◌, List, Contains}
use Rattle.cr_base.specs.declared.cause.Role.{Role}
use Rattle.cr_base.specs.declared.cause.Role.TheVariants as role
use Rattle.cr_base.specs.declared.unit.Unit.{Unit}
use Rattle.cr_macros.specs.Tokens.{Text}
use Rattle.cr_phase4.specs.Search.{World}
use Rattle.cr_phase4.specs.Traces.{Trace, trace_of}
use Rattle.cr_facts.specs.FactOrder.{Facts}
use Rattle.cr_facts.specs.declared.fact.Fact.{Fact}
use Rattle.cr_facts.specs.declared.fact.Fact.TheVariants as fact
use Rattle.cr_binding.specs.UnitFacts.{Tells}
use Rattle.cr_class.specs.RenameClass.{Has}
use Rattle.cr_keeps.specs.UnitMeaning.{Tables, number_of, Meaning, source, binding}

-- That a token is final is told by the unit's binding, which knows the brackets of attributes.
abbrev pub IsToldHere : Role → Type 0
IsToldHere role.Final = ⊥
IsToldHere other = Prim.Unit {0}

-- What a trace tells. Roles of identifiers spelled as the new name are among them: a trace doesn't part the two.
abbrev pub TraceTells : Trace → Fact → Type 0
TraceTells trace (fact.HasRole p r) = IsToldHere r × Contains trace.seen (record { place = p; role = r })
TraceTells trace (fact.NewMacro p) = Contains trace.new_macros p
TraceTells trace (fact.BodyParam p) = Contains trace.body_params p
TraceTells trace (fact.OpaqueAt p) = Contains trace.opaque p
TraceTells trace _ = ⊥

-- the facts of a unit for the renaming of one name to another
abbrev pub UnitTells : {names : Tables} {w : World} {u : Unit} → Meaning names w u → (old new : Text) → Fact → Type 0
UnitTells {names} {w} {u} m old new f =
    TraceTells (trace_of old new m.events) f
    ⊎ Tells u.number (source m) (binding m) (number_of (names u) old) (number_of (names u) new) f

-- what each of some units means
abbrev pub Meanings : Tables → World → List Unit → Type 0
Meanings names w units = (u : Unit) → Contains units u → Meaning names w u

-- A table of the facts of all these units, and of nothing else.
abbrev pub IsTable : (names : Tables) (w : World) (units : List Unit) → Meanings names w units → (old new : Text) → Facts → Type 0
IsTable names w units means old new facts =
    (f : Fact) → Has facts f ↔ ((u : Unit) × (there : Contains units u) × UnitTells (means u there) old new f)
