-- A whole tree of files, of which the known files are a part, and what it means that a renaming keeps the meaning over it.
use Rattle.std.specs.Prelude.{ℕ, ◌≡◌, ◌⊎◌, false, if◌then◌else◌, List, length, Option, option_map, Contains}
use Rattle.cr_base.specs.Substitution.{substituted}
use Rattle.cr_base.specs.declared.token.Place.{Place}
use Rattle.cr_base.specs.declared.unit.Unit.{Unit}
use Rattle.cr_snapshot.specs.declared.known.KnownFile.{KnownFile}
use Rattle.cr_snapshot.specs.Files.{Unknown, told, finding}
use Rattle.cr_snapshot.specs.IncludeSearch.{is_apart}
use Rattle.cr_macros.specs.Tokens.{Text}
use Rattle.cr_phase4.specs.Search.{World, world_of, number_among}
use Rattle.cr_preproc_law.specs.Renaming.{renaming_at}
use Rattle.cr_keeps.specs.UnitMeaning.{Tables, Meaning}
use Rattle.cr_keeps.specs.UnitFacts.{Meanings}
use Rattle.cr_keeps.specs.Keeps.{Keeps, offsets_by_file, edited_files}

-- the bytes at each path
abbrev pub Tree : Type 0
Tree = Text → Option (List ℕ)

-- The world of a whole tree: nothing of it is unknown. A path beside all files holds what is known of it. The number of a
-- path is that among the known files.
abbrev pub world_of_tree : List KnownFile → Tree → World
world_of_tree files tree = record {
  find = λ path. if is_apart path then finding path files else told (number_among path files) (tree path);
  number = λ path. number_among path files;
}

-- Each known file that isn't beside all files holds what the tree has at its path.
abbrev pub IsPartOf : List KnownFile → Tree → Type 0
IsPartOf files tree =
    (path : Text)
    → is_apart path ≡ false
    → (finding path files ≡ Unknown) ⊎ (finding path files ≡ told (number_among path files) (tree path))

-- the tree with the new name at these places of its files
abbrev pub edited_tree : List Place → (old new : Text) → List KnownFile → Tree → Tree
edited_tree places old new files tree path =
    option_map (substituted (offsets_by_file places (number_among path files)) (length old) new) (tree path)

abbrev pub world_of_edited : List Place → (old new : Text) → List KnownFile → Tree → World
world_of_edited places old new files tree =
    world_of_tree (edited_files (offsets_by_file places) old new files) (edited_tree places old new files tree)

-- A unit means the same in two worlds: its preprocessing, its tokens and its tree are the same.
pub record IsSameMeaning {names : Tables} {w v : World} {u : Unit} (m : Meaning names w u) (m' : Meaning names v u) : Type 0 where
  pub number : m'.number ≡ m.number
  pub bytes : m'.bytes ≡ m.bytes
  pub events : m'.events ≡ m.events
  pub tokens : m'.before ≡ m.before
  pub tree : m'.tree ≡ m.tree

-- The units keep their meaning when a whole tree is edited at these places. Over the tree they mean what they mean over the
-- known files.
pub record KeepsTree (places : List Place) (old new : Text) (names : Tables) (files : List KnownFile) (tree : Tree) (units : List Unit) (known : Meanings names (world_of files) units) : Type 0 where
  pub before : Meanings names (world_of_tree files tree) units
  pub same : (u : Unit) (there : Contains units u) → IsSameMeaning (known u there) (before u there)
  pub keeps :
      Keeps (renaming_at (offsets_by_file places) old new) names (world_of_tree files tree) (world_of_edited places old new files tree) units before
