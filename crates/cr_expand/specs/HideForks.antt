-- Two hide sets that were made from one.
use Rattle.std.specs.Prelude.{◌≡◌, ℕ, ◌<◌, ◌||◌, List, ◌++◌, length}
use Rattle.cr_base.specs.declared.token.Name.{Name}
use Rattle.cr_macros.specs.Definition.{has_name}
use Rattle.cr_expand.specs.HideSets.{Sets, set_at, AreOnce}

abbrev pub Names : Type 0
Names = List Name

-- One set is that at the first number with these names, in their order, and holds none twice; another has those at the
-- second number, and these others.
pub record IsFork (sets : Sets) (set other : Names) (at under : ℕ) (names others : Names) : Type 0 where
  pub known : at < length sets
  pub below : under < length sets
  pub split : set ≡ names ++ set_at sets at
  pub held : (n : Name) → (has_name others n || has_name (set_at sets under) n) ≡ has_name other n
  pub once : AreOnce set
