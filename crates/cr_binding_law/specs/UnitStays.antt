-- A renaming without conflicts keeps what the identifiers of a whole unit mean.
use Rattle.std.specs.Prelude.{◌≡◌, ℕ, Bool}
use Rattle.cr_base.specs.declared.token.Name.{Name}
use Rattle.cr_ll.specs.Derivation.{Trees}
use Rattle.cr_binding.specs.Source.{Source}
use Rattle.cr_binding.specs.Binding.{bound}
use Rattle.cr_binding.specs.WellFormed.{IsWellFormed}
use Rattle.cr_binding.specs.Resolution.{resolution}
use Rattle.cr_binding.specs.FreeUnits.{IsFreeUnit}
use Rattle.cr_binding_law.specs.Renaming.{IsRenamed, AreEntities}

-- The unit u is well-formed with the tree of t, and its identifiers mean what those of t do.
pub record MeansTheSame (t u : Source) (tree : Trees) : Type 0 where
  pub well_formed : IsWellFormed u tree
  pub binding : bound u tree ≡ bound t tree
  pub resolution : resolution u (bound u tree) ≡ resolution t (bound t tree)

-- Where no conflict of a well-formed unit is one of the entities that are renamed, the unit means the same.
abbrev pub RenamingKeepsUnits : Type 0
RenamingKeepsUnits =
    (class : ℕ → Bool) (old new : Name) (t u : Source) (tree : Trees)
    → IsRenamed class old new t u
    → IsWellFormed t tree
    → AreEntities class t (bound t tree)
    → IsFreeUnit class old new t (bound t tree)
    → MeansTheSame t u tree
