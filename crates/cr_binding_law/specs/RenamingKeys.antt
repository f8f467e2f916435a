-- A renaming of the entities of some keys, of which the facts of a unit tell no conflict.
use Rattle.std.specs.Prelude.{◌≡◌, ℕ, Bool, true, false, Contains}
use Rattle.cr_base.specs.declared.token.Name.{Name}
use Rattle.cr_base.specs.declared.token.Place.{Place}
use Rattle.cr_base.specs.declared.key.Key.{Key}
use Rattle.cr_base.specs.declared.key.Key.TheVariants as key
use Rattle.cr_ll.specs.Derivation.{Trees}
use Rattle.cr_facts.specs.declared.fact.Fact.TheVariants as fact
use Rattle.cr_binding.specs.Source.{Source}
use Rattle.cr_binding.specs.State.{Declaration, IsBuiltIn, State}
use Rattle.cr_binding.specs.Entities.{are_one}
use Rattle.cr_binding.specs.Binding.{bound}
use Rattle.cr_binding.specs.Resolution.{Thing, occurrences}
use Rattle.cr_binding.specs.Keys.{declaration_key, key_of}
use Rattle.cr_binding.specs.UnitFacts.{Tells}
use Rattle.cr_binding.specs.WellFormed.{IsWellFormed}
use Rattle.cr_binding.specs.FreeUnits.{IsFreeUnit}
use Rattle.cr_binding.specs.MembersStay.{AreSpelled}
use Rattle.cr_binding_law.specs.Renaming.{IsRenamed, AreEntities}
use Rattle.cr_binding_law.specs.UnitStays.{MeansTheSame}

-- The tokens of a class are those that mean an entity of some keys; what the compiler supplies has none of these.
pub record AreTokensOf (keys : Key → Bool) (class : ℕ → Bool) (unit : ℕ) (t : Source) (s : State) : Type 0 where
  pub meant : (i : ℕ) (x : Thing) → Contains (occurrences s) (i, x) → class i ≡ keys (key_of unit t s i x)
  pub supplied : (i : ℕ) → Contains s.uses (IsBuiltIn i) → keys (key.Made unit i) ≡ false

-- the facts of the unit have no conflict of one of the keys
abbrev pub HaveNoConflict : (Key → Bool) → ℕ → Source → State → (old new : Name) → Type 0
HaveNoConflict keys unit t s old new =
    (k : Key) (p : Place) → keys k ≡ true → Tells unit t s old new (fact.Conflict k p) → ⊥

-- Then the tokens are of whole entities, and no mention has a conflict of one of them.
abbrev pub KeysAreEntities : Type 0
KeysAreEntities =
    (keys : Key → Bool) (class : ℕ → Bool) (unit : ℕ) (t : Source) (tree : Trees)
    → AreTokensOf keys class unit t (bound t tree)
    → AreEntities class t (bound t tree)

abbrev pub KeysAreFree : Type 0
KeysAreFree =
    (keys : Key → Bool) (class : ℕ → Bool) (old new : Name) (unit : ℕ) (t : Source) (tree : Trees)
    → AreTokensOf keys class unit t (bound t tree)
    → AreSpelled class old t
    → HaveNoConflict keys unit t (bound t tree) old new
    → IsFreeUnit class old new t (bound t tree)

-- Declarations of one entity have one key.
abbrev pub EntitiesHaveOneKey : Type 0
EntitiesHaveOneKey =
    (unit : ℕ) (t : Source) (tree : Trees) (d e : Declaration)
    → Contains (bound t tree).declarations d
    → Contains (bound t tree).declarations e
    → are_one t d e ≡ true
    → declaration_key unit t (bound t tree) d ≡ declaration_key unit t (bound t tree) e

-- So a well-formed unit means the same when the entities of these keys have the new name.
abbrev pub RenamingOfKeysKeepsUnits : Type 0
RenamingOfKeysKeepsUnits =
    (keys : Key → Bool) (class : ℕ → Bool) (old new : Name) (unit : ℕ) (t u : Source) (tree : Trees)
    → IsRenamed class old new t u
    → IsWellFormed t tree
    → AreTokensOf keys class unit t (bound t tree)
    → HaveNoConflict keys unit t (bound t tree) old new
    → MeansTheSame t u tree
