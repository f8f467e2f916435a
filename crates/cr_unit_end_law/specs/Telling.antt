-- What is told of a unit is what its meaning tells.
use Rattle.std.specs.Prelude.{◌↔◌, List}
use Rattle.cr_base.specs.declared.unit.Unit.{Unit}
use Rattle.cr_macros.specs.Tokens.{Text}
use Rattle.cr_snapshot.specs.declared.known.KnownFile.{KnownFile}
use Rattle.cr_phase4.specs.PreprocessingRun.{Agrees}
use Rattle.cr_phase4.specs.Search.{world_of}
use Rattle.cr_facts.specs.FactOrder.{Facts}
use Rattle.cr_facts.specs.declared.fact.Fact.{Fact}
use Rattle.cr_class.specs.RenameClass.{Has}
use Rattle.cr_keeps.specs.UnitMeaning.{Tables, Meaning}
use Rattle.cr_keeps.specs.UnitFacts.{UnitTells}
use Rattle.cr_unit_end.specs.declared.unit.UnitEnd.{UnitEnd}
use Rattle.cr_unit_end.specs.declared.unit.UnitEnd.TheVariants as ended
use Rattle.cr_unit_end.specs.UnitEnds.{IsUnitEnd}

-- these are the facts of what the unit means, in some table of names
pub record IsToldOf (files : List KnownFile) (u : Unit) (old new : Text) (facts : Facts) : Type 0 where
  pub names : Tables
  pub means : Meaning names (world_of files) u
  pub tells : (f : Fact) → Has facts f ↔ UnitTells means old new f

abbrev pub UnitsTell : Type 0
UnitsTell =
    (files : List KnownFile) (u : Unit) (old new : Text) (facts : Facts)
    → IsUnitEnd files u old new (ended.Facts facts) → IsToldOf files u old new facts

-- it wants no more files
abbrev pub HasEnded : UnitEnd → Type 0
HasEnded (ended.Facts facts) = Prim.Unit {0}
HasEnded (ended.Wants paths) = ⊥
HasEnded (ended.Ill c p) = Prim.Unit {0}

-- A unit that has ended over some files ends so where more is known.
abbrev pub EndedUnitsStay : Type 0
EndedUnitsStay =
    (files more : List KnownFile) (u : Unit) (old new : Text) (end : UnitEnd)
    → Agrees (world_of files) (world_of more) → HasEnded end → IsUnitEnd files u old new end → IsUnitEnd more u old new end
