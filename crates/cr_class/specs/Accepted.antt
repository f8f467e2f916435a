-- What it means that no refusal of a verdict holds, told of each fact.
use Rattle.std.specs.Prelude.{ℕ, ◌≡◌, ◌↔◌, true, false, List, Option}
use Rattle.std.specs.List.{Contains}
use Rattle.cr_base.specs.declared.token.Place.{Place}
use Rattle.cr_base.specs.declared.key.Key.{Key}
use Rattle.cr_base.specs.declared.cause.Role.{Role}
use Rattle.cr_facts.specs.FactOrder.{Facts}
use Rattle.cr_facts.specs.declared.fact.Fact.TheVariants as fact
use Rattle.cr_snapshot.specs.declared.known.KnownFile.{KnownFile}
use Rattle.cr_class.specs.RenameClass.{Has}
use Rattle.cr_class.specs.ShownOrder.{path_of}
use Rattle.cr_class.specs.Verdict.{IsReservedScope, Refuses, is_in_class, is_mixed_role, is_made_role, is_unwritable_path, is_unspellable_at, bytes_of, renamed_key}
use Rattle.cr_class.specs.declared.class.Class.{Class}
use Rattle.cr_class.specs.declared.refusal.Refusal.{Refusal}

-- No fact of the units, and no place of the class, refuses the new name.
pub record NothingRefuses (facts : Facts) (class : Class) (files : List KnownFile) (root : Option (List ℕ)) (old new : List ℕ) : Type 0 where
  -- the name isn't kept for the implementation where the class is declared (C11 7.1.3)
  pub not_reserved : IsReservedScope facts class new → ⊥
  -- no macro has it (C11 6.10.3)
  pub no_macro : (p : Place) → Has facts (fact.NewMacro p) → ⊥
  -- a place of the class denotes entities of the class alone, has no other role in preprocessing, and nothing is made of it
  pub alone : (p : Place) (k : Key) → Has facts (fact.Denotes p k) → Contains class.places p → Contains class.keys k
  pub roles : (p : Place) (r : Role) → Has facts (fact.HasRole p r) → Contains class.places p → (is_mixed_role r ≡ false) × (is_made_role r ≡ false)
  -- no token that preprocessing makes denotes an entity of the class (C11 6.10.3.3)
  pub not_made : (k : Key) (p : Place) → Has facts (fact.MadeDenotes k p) → Contains class.keys k → ⊥
  -- an edit reaches each place of the class, and the new name can be spelled there (C11 5.1.1.2)
  pub writable : (p : Place) → Contains class.places p → is_unwritable_path root (path_of files p) ≡ false
  pub spellable : (p : Place) → Contains class.places p → is_unspellable_at old new (bytes_of files p) p.offset ≡ false
  -- no pragma and no attribute has one of the names (C11 6.10.6)
  pub clear : (p : Place) → Has facts (fact.OpaqueAt p) → ⊥
  -- no mention would change what it denotes, and no name of a macro's body would become a parameter (C11 6.2.1, 6.10.3)
  pub no_conflict : (k : Key) (p : Place) → Has facts (fact.Conflict k p) → Contains class.keys k → ⊥
  pub no_parameter : (p : Place) → Has facts (fact.BodyParam p) → Contains class.places p → ⊥
  -- where the class has a place, none of its entities would become one with another (C11 6.2.2, 6.2.7)
  pub no_link : (p : Place) (k : Key) → Contains class.places p → Contains class.keys k → Has facts (fact.NewKey (renamed_key new k)) → ⊥

-- Of finitely many places one is the least: so where no refusal holds, no fact gives one.
abbrev pub AcceptedMeansNothing : Type 0
AcceptedMeansNothing =
    (facts : Facts) (class : Class) (files : List KnownFile) (root : Option (List ℕ)) (old new : List ℕ)
    → ((r : Refusal) → Refuses facts class files root old new r → ⊥)
    → NothingRefuses facts class files root old new

-- The test for a class is that of its list.
abbrev pub ClassTestsTell : Type 0
ClassTestsTell = (class : Class) (k : Key) → (is_in_class class k ≡ true) ↔ Contains class.keys k
