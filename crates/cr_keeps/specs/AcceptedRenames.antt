-- An accepted rename keeps the meaning of all units.
use Rattle.std.specs.Prelude.{◌≡◌, ◌≢◌, ◌↔◌, true, false, List, Option, Contains}
use Rattle.std.specs.List.Sorted.{IsStrictlySortedBy}
use Rattle.cr_base.specs.Names.{is_identifier, is_keyword, is_reserved}
use Rattle.cr_base.specs.NameTable.{IsDistinct}
use Rattle.cr_base.specs.declared.token.Place.{Place}
use Rattle.cr_base.specs.declared.key.Key.{Key}
use Rattle.cr_base.specs.declared.unit.Unit.{Unit}
use Rattle.cr_snapshot.specs.declared.known.KnownFile.{KnownFile}
use Rattle.cr_snapshot.specs.IncludeSearch.{is_apart}
use Rattle.cr_macros.specs.Tokens.{Text}
use Rattle.cr_phase4.specs.Search.{world_of}
use Rattle.cr_facts.specs.FactOrder.{Facts}
use Rattle.cr_class.specs.RenameClass.{InClass, IsRenamedPlace, place_cmp}
use Rattle.cr_class.specs.Accepted.{NothingRefuses}
use Rattle.cr_class.specs.ShownOrder.{path_of}
use Rattle.cr_class.specs.Verdict.{KnowsClass}
use Rattle.cr_class.specs.declared.class.Class.{Class}
use Rattle.cr_class.specs.declared.target.Target.{Target}
use Rattle.cr_keeps.specs.UnitMeaning.{Tables}
use Rattle.cr_keeps.specs.UnitFacts.{Meanings, IsTable}
use Rattle.cr_keeps.specs.Keeps.{KeepsFiles}
use Rattle.cr_keeps.specs.Trees.{Tree, IsPartOf, KeepsTree}
use Rattle.cr_keeps.specs.OnlyNames.{IsOnlyName}

-- A name that may be taken for another one (C11 6.4.2.1, 6.4.1, 7.1.3).
pub record MayTakeThePlace (old new : Text) : Type 0 where
  pub was : is_identifier old ≡ true
  pub is : is_identifier new ≡ true
  pub no_keyword : is_keyword new ≡ false
  pub not_reserved : is_reserved new ≡ false
  pub differ : old ≢ new

-- the class of a target: its entities, and the places that denote one of them, which rise
pub record IsClassOf (files : List KnownFile) (facts : Facts) (old : Text) (target : Target) (class : Class) : Type 0 where
  pub keys : (k : Key) → Contains class.keys k ↔ InClass files facts old target k
  pub places : (p : Place) → Contains class.places p ↔ IsRenamedPlace files facts old target p
  pub rise : IsStrictlySortedBy place_cmp class.places
  pub known : KnowsClass files class

-- A rename of a class of entities of some units from one name to another that nothing refuses. All units are well-formed
-- over the known files.
pub record IsAcceptedRename (names : Tables) (files : List KnownFile) (units : List Unit) (old new : Text) (target : Target) (facts : Facts) (class : Class) (before : Meanings names (world_of files) units) : Type 0 where
  -- the table of each unit has each text once, and both names
  pub distinct : (u : Unit) → IsDistinct (names u)
  pub has_old : (u : Unit) → Contains (names u) old
  pub has_new : (u : Unit) → Contains (names u) new
  pub may : MayTakeThePlace old new
  -- the old name has no meaning of its own
  pub only_old : IsOnlyName old
  -- the facts are those of the units, the class is that of the target over them, and no fact refuses it
  pub table : IsTable names (world_of files) units before old new facts
  pub of_target : IsClassOf files facts old target class
  pub root : Option Text
  pub accepted : NothingRefuses facts class files root old new

-- It keeps the meaning of the units, over the known files.
abbrev pub AcceptedRenamesKeep : Type 0
AcceptedRenamesKeep =
    (names : Tables) (files : List KnownFile) (units : List Unit) (old new : Text) (target : Target) (facts : Facts) (class : Class) (before : Meanings names (world_of files) units)
    → IsAcceptedRename names files units old new target facts class before
    → KeepsFiles class.places old new names files units before

-- It keeps it over each whole tree of which these files are a part: there the units mean what they mean here.
abbrev pub AcceptedRenamesKeepTrees : Type 0
AcceptedRenamesKeepTrees =
    (names : Tables) (files : List KnownFile) (units : List Unit) (old new : Text) (target : Target) (facts : Facts) (class : Class) (before : Meanings names (world_of files) units)
    → IsAcceptedRename names files units old new target facts class before
    → (tree : Tree)
    → IsPartOf files tree
    → KeepsTree class.places old new names files tree units before

-- Each place of the class stands in a file of the tree, and not beside all files.
abbrev pub EditsReachTrees : Type 0
EditsReachTrees =
    (names : Tables) (files : List KnownFile) (units : List Unit) (old new : Text) (target : Target) (facts : Facts) (class : Class) (before : Meanings names (world_of files) units)
    → IsAcceptedRename names files units old new target facts class before
    → (p : Place)
    → Contains class.places p
    → is_apart (path_of files p) ≡ false
