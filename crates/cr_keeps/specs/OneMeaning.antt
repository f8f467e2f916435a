-- That a unit has one meaning in a world.
use Rattle.cr_base.specs.declared.unit.Unit.{Unit}
use Rattle.cr_phase4.specs.Search.{World}
use Rattle.cr_keeps.specs.UnitMeaning.{Tables, Meaning}
use Rattle.cr_keeps.specs.Trees.{IsSameMeaning}

-- Whatever shows that a unit is well-formed, it has the same tokens and the same tree.
abbrev pub MeaningsAreOne : Type 0
MeaningsAreOne = (names : Tables) (w : World) (u : Unit) (m k : Meaning names w u) → IsSameMeaning m k
