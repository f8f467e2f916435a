pub mod UnitEnds
