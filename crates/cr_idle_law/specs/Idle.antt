-- No edit of an accepted rename is idle.
use Rattle.std.specs.Prelude.{◌≡◌, List, Contains}
use Rattle.cr_base.specs.NameTable.{IsDistinct}
use Rattle.cr_base.specs.declared.token.Place.{Place}
use Rattle.cr_base.specs.declared.key.Key.{Key}
use Rattle.cr_base.specs.declared.unit.Unit.{Unit}
use Rattle.cr_snapshot.specs.declared.known.KnownFile.{KnownFile}
use Rattle.cr_macros.specs.Tokens.{Text}
use Rattle.cr_phase4.specs.Search.{world_of}
use Rattle.cr_phase7_law.specs.TokensStay.{IsPlainName}
use Rattle.cr_facts.specs.FactOrder.{Facts}
use Rattle.cr_facts.specs.declared.fact.Fact.TheVariants as fact
use Rattle.cr_class.specs.RenameClass.{Has, IsTargetKey}
use Rattle.cr_class.specs.declared.class.Class.{Class}
use Rattle.cr_class.specs.declared.target.Target.{Target}
use Rattle.cr_class.specs.declared.target.Target.TheVariants as target
use Rattle.cr_keeps.specs.UnitMeaning.{Tables}
use Rattle.cr_keeps.specs.UnitFacts.{Meanings, IsTable}
use Rattle.cr_keeps.specs.Keeps.{KeepsFiles}
use Rattle.cr_keeps.specs.AcceptedRenames.{MayTakeThePlace, IsClassOf}

-- The target's place is among some places, or for a name a place that denotes what the name means.
abbrev pub HoldsTarget : List KnownFile → Facts → Text → Target → List Place → Type 0
HoldsTarget files facts old (target.At p) ps = Contains ps p
HoldsTarget files facts old t ps = (k : Key) × (p : Place) × IsTargetKey files facts old t k × Has facts (fact.Denotes p k) × Contains ps p

-- Units with one number are one.
abbrev pub HaveOwnNumbers : List Unit → Type 0
HaveOwnNumbers units = (u v : Unit) → Contains units u → Contains units v → u.number ≡ v.number → u ≡ v

-- Where all units are well-formed, the table is that of their facts, and the class that of a target over it: whatever places
-- with the target get the new name so that the units keep their meaning, all places of the class are among them.
abbrev pub NoEditIsIdle : Type 0
NoEditIsIdle =
    (names : Tables) (files : List KnownFile) (units : List Unit) (old new : Text) (t : Target) (facts : Facts) (class : Class) (before : Meanings names (world_of files) units) (others : List Place)
    → ((u : Unit) → IsDistinct (names u))
    → ((u : Unit) → Contains (names u) old)
    → ((u : Unit) → Contains (names u) new)
    → MayTakeThePlace old new
    → IsPlainName old
    → HaveOwnNumbers units
    → IsTable names (world_of files) units before old new facts
    → IsClassOf files facts old t class
    → HoldsTarget files facts old t others
    → KeepsFiles others old new names files units before
    → (p : Place) → Contains class.places p → Contains others p
