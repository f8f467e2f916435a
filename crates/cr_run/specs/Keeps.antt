-- An accepted rename keeps the meaning of every unit, and the links between them.
use Rattle.std.specs.Prelude.{ℕ, ◌≡◌, ◌↔◌, List, Option, Some, Ok, slice_get}
use Rattle.std.specs.Option.{option_map}
use Rattle.std.specs.List.{Contains}
use Rattle.cr_base.specs.Substitution.{offsets_in}
use Rattle.cr_base.specs.declared.unit.Unit.{Unit as TranslationUnit}
use Rattle.cr_world.specs.Outside.{Files}
use Rattle.cr_compdb.specs.declared.entry.Entry.{Entry}
use Rattle.cr_lex.specs.Lexing.{Token, lexed}
use Rattle.cr_small.specs.Keys.{Key, external, at, key_of}
use Rattle.cr_small.specs.KeepsMeaning.{KeepsMeaning}
use Rattle.cr_small.specs.declared.binder.Denotation.{Denotation}
use Rattle.cr_run.specs.Goal.{Goal, goal_of}
use Rattle.cr_run.specs.Units.{entries_of, units_in}
use Rattle.cr_run.specs.Renames.{Rename, places, renamed_files}
use Rattle.cr_run.specs.Outcome.{IsOutcome}
use Rattle.cr_run.specs.Report.{contents}

-- The key of an entity over all units: its name where it has external linkage, and else the place of its first
-- declaring token (C11 6.2.2).
pub data EntityKey : Type 0 where
  named : List ℕ → EntityKey
  at_place : List ℕ → ℕ → EntityKey

abbrev pub entity_key : List ℕ → Key → EntityKey
entity_key path (external name) = named name
entity_key path (at offset) = at_place path offset

abbrev pub tokens_at : Files → List ℕ → List Token
tokens_at files path = (lexed (contents (files path))).tokens

-- the token with this number, of the file at a path, denotes an entity of this key
abbrev pub IsKeyed : Files → (List ℕ → List (Option Denotation)) → List ℕ → ℕ → EntityKey → Type 0
IsKeyed files denotes path i key =
    (d : Denotation) × (slice_get (denotes path) i ≡ Some (Some d)) × (option_map (entity_key path) (key_of (tokens_at files path) d) ≡ Some key)

-- two tokens of two files denote entities of one key
abbrev pub AreLinkedOver : Files → (List ℕ → List (Option Denotation)) → List ℕ → ℕ → List ℕ → ℕ → Type 0
AreLinkedOver files denotes path i other j = (key : EntityKey) × IsKeyed files denotes path i key × IsKeyed files denotes other j key

-- The file at a path is there before and after the rename, and its tokens afterwards keep the meaning of those
-- before: they denote these.
pub record KeepsFile (files : Files) (r : Rename) (path : List ℕ) (denotes : List (Option Denotation)) : Type 0 where
  pub before : List ℕ
  pub after : List ℕ
  pub was : files path ≡ Some before
  pub is : renamed_files r files path ≡ Some after
  pub kept : KeepsMeaning (lexed before) (lexed after) (offsets_in path (places r)) r.old r.new
  pub means : kept.denotes ≡ denotes

-- the main file of each unit keeps its meaning, and two tokens of any two units are linked just where they were
pub record KeepsUnits (files : Files) (r : Rename) (units : List TranslationUnit) : Type 0 where
  pub denotes : List ℕ → List (Option Denotation)
  pub kept : (unit : TranslationUnit) → Contains units unit → KeepsFile files r unit.main (denotes unit.main)
  pub links : (one other : TranslationUnit) → Contains units one → Contains units other → (i j : ℕ)
      → AreLinkedOver files denotes one.main i other.main j ↔ AreLinkedOver (renamed_files r files) denotes one.main i other.main j

-- the units that the words name
abbrev pub Keeps : List (List ℕ) → Files → Rename → Type 0
Keeps words files r = (goal : Goal) × (goal_of words ≡ Ok goal) × (entries : List Entry) × (entries_of files goal ≡ Ok entries) × KeepsUnits files r (units_in entries)

abbrev pub AcceptedKeeps : Type 0
AcceptedKeeps = (words : List (List ℕ)) (files : Files) (r : Rename) → IsOutcome words files (Ok r) → Keeps words files r
