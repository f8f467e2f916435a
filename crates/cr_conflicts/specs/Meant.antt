-- All conflicts of a unit.
use Rattle.std.specs.Prelude.{◌≡◌, ℕ}
use Rattle.cr_base.specs.declared.token.Name.{Name}
use Rattle.cr_base.specs.declared.token.Place.{Place}
use Rattle.cr_base.specs.declared.key.Key.{Key}
use Rattle.cr_facts.specs.declared.fact.Fact.{Fact}
use Rattle.cr_facts.specs.declared.fact.Fact.TheVariants as fact
use Rattle.cr_binding.specs.Source.{Source}
use Rattle.cr_binding.specs.State.{State}
use Rattle.cr_binding.specs.UnitConflicts.{Conflicts}

-- the fact is a conflict of the unit
abbrev pub IsOfUnit : ℕ → Source → State → (old new : Name) → Fact → Type 0
IsOfUnit unit t s old new f = (k : Key) × (p : Place) × (f ≡ fact.Conflict k p) × Conflicts unit t s old new k p
