-- What holds over the known files holds over each whole tree of which they are a part.
use Rattle.std.specs.Prelude.{◌≡◌, ◌⊎◌, ℕ, Bool, true, false, ◌||◌, not, if◌then◌else◌, List, length, Option, Some, None, option_map}
use Rattle.std.proofs.Common.{refl, sym, ◌∙◌, ap, subst, inl, inr}
use Rattle.cr_base.specs.Substitution.{substituted}
use Rattle.cr_base.specs.declared.token.Place.{Place}
use Rattle.cr_base.specs.declared.unit.Unit.{Unit}
use Rattle.cr_snapshot.specs.declared.known.KnownFile.{KnownFile}
use Rattle.cr_snapshot.specs.Files.{Present, Unknown, told, finding}
use Rattle.cr_snapshot.specs.IncludeSearch.{is_apart}
use Rattle.cr_macros.specs.Tokens.{Text}
use Rattle.cr_phase4.specs.Tasks.{Reply, Nothing}
use Rattle.cr_phase4.specs.Search.{World, world_of, number_among}
use Rattle.cr_phase4.specs.Preprocessing.{preprocessed}
use Rattle.cr_phase4.specs.PreprocessingRun.{Agrees, IsLarger, GoesOn}
use Rattle.cr_preproc_law.specs.Renaming.{Places, renaming_at, edited}
use Rattle.cr_expand_law.specs.Renaming.{Renaming}
use Rattle.cr_class.specs.ShownOrder.{path_of}
use Rattle.cr_class.specs.Verdict.{is_unwritable_path, is_inside}
use Rattle.cr_keeps.specs.UnitMeaning.{Tables, Meaning}
use Rattle.cr_keeps.specs.UnitFacts.{Meanings}
use Rattle.cr_keeps.specs.Keeps.{Keeps, offsets_by_file, edited_files}
use Rattle.cr_keeps.specs.Trees.{Tree, world_of_tree, IsPartOf, edited_tree, world_of_edited, IsSameMeaning}
use Rattle.cr_keeps.specs.AcceptedRenames.{AcceptedRenamesKeep, AcceptedRenamesKeepTrees, EditsReachTrees}
use Rattle.cr_keeps.proofs.Joined.{found_edited, number_edited}

-- ---- a part of a tree agrees with it

part_agrees : (files : List KnownFile) (tree : Tree) → IsPartOf files tree → Agrees (world_of files) (world_of_tree files tree)
part_agrees files tree part = record { known = λ path. by path (is_apart path) refl }
  where
    by : (path : Text) (b : Bool) → is_apart path ≡ b → (finding path files ≡ Unknown) ⊎ (((world_of_tree files tree).find path ≡ finding path files) × ((world_of_tree files tree).number path ≡ number_among path files))
    by path true e = inr (ap (λ b. if b then finding path files else told (number_among path files) (tree path)) e, refl)
    by path false e = elim (part path e) [
      | inl h ↦ inl h
      | inr h ↦ inr (ap (λ b. if b then finding path files else told (number_among path files) (tree path)) e ∙ sym h, refl)
    ]

-- the edited files are a part of the edited tree
edited_part : (places : List Place) (old new : Text) (files : List KnownFile) (tree : Tree) → IsPartOf files tree → IsPartOf (edited_files (offsets_by_file places) old new files) (edited_tree places old new files tree)
edited_part places old new files tree part path e = by (part path e)
  where
    at : Places
    at = offsets_by_file places

    told_edited : (n : ℕ) (o : Option (List ℕ)) → edited (offsets_by_file places) old new (told n o) ≡ told n (option_map (substituted (offsets_by_file places n) (length old) new) o)
    told_edited n None = refl
    told_edited n (Some bytes) = refl

    found : finding path (edited_files (offsets_by_file places) old new files) ≡ edited (offsets_by_file places) old new (finding path files)
    found = found_edited (offsets_by_file places) old new path 0 files

    by : (finding path files ≡ Unknown) ⊎ (finding path files ≡ told (number_among path files) (tree path)) → (finding path (edited_files (offsets_by_file places) old new files) ≡ Unknown) ⊎ (finding path (edited_files (offsets_by_file places) old new files) ≡ told (number_among path (edited_files (offsets_by_file places) old new files)) (edited_tree places old new files tree path))
    by (inl h) = inl (found ∙ ap (edited (offsets_by_file places) old new) h)
    by (inr h) =
        inr (found ∙ ap (edited (offsets_by_file places) old new) h ∙ told_edited (number_among path files) (tree path) ∙ ap (λ n. told n (edited_tree places old new files tree path)) (sym (number_edited (offsets_by_file places) old new path 0 files)))

-- ---- a unit means the same in a world that agrees

module _ (goes : GoesOn) (names : Tables) (w v : World) (agree : Agrees w v) where
  same_main : (path : Text) (n : ℕ) (bytes : List ℕ) → w.find path ≡ Present n bytes → v.find path ≡ Present n bytes
  same_main path n bytes h = elim (agree.known path) [
    | inl e ↦ (let no : Unknown ≡ Present n bytes = sym e ∙ h in cc)
    | inr e ↦ e.0 ∙ h
  ]

  pub lifted : (u : Unit) → Meaning names w u → Meaning names v u
  lifted u m = record {
    number = m.number;
    bytes = m.bytes;
    main = same_main u.main m.number m.bytes m.main;
    left = m.left;
    events = m.events;
    whole = subst (λ (q : Reply Nothing). IsLarger q (preprocessed v u)) m.whole (goes w v u agree);
    held = m.held;
    before = m.before;
    become = m.become;
    tree = m.tree;
    well_formed = m.well_formed;
  }

  pub lifted_same : (u : Unit) (m : Meaning names w u) → IsSameMeaning m (lifted u m)
  unfolding lifted
  lifted_same u m = record { number = refl; bytes = refl; events = refl; tokens = refl; tree = refl }

module _ (goes : GoesOn) (r : Renaming) (names : Tables) (w w' v v' : World) (units : List Unit) (before : Meanings names w units) (agree : Agrees w v) (agree' : Agrees w' v') where
  abbrev before_there : Meanings names v units
  before_there u there = lifted goes names w v agree u (before u there)

  pub keeps_there : Keeps r names w w' units before → Keeps r names v v' units before_there
  unfolding lifted
  keeps_there k = record {
    after = λ u there. lifted goes names w' v' agree' u (k.after u there);
    kept = λ u there. (let one = k.kept u there in record { count = one.count; tokens = one.tokens; tree = one.tree; resolution = one.resolution; answers = one.answers });
    links = k.links;
  }

pub keep_trees : GoesOn → AcceptedRenamesKeep → AcceptedRenamesKeepTrees
keep_trees goes law names files units old new target facts class before j tree part =
    record {
      before = λ u there. lifted goes names (world_of files) (world_of_tree files tree) agree u (before u there);
      same = λ u there. lifted_same goes names (world_of files) (world_of_tree files tree) agree u (before u there);
      keeps =
          keeps_there goes (renaming_at (offsets_by_file class.places) old new) names (world_of files) (world_of (edited_files (offsets_by_file class.places) old new files)) (world_of_tree files tree) (world_of_edited class.places old new files tree) units before agree
          (part_agrees (edited_files (offsets_by_file class.places) old new files) (edited_tree class.places old new files tree) (edited_part class.places old new files tree part))
          (law names files units old new target facts class before j);
    }
  where
    agree : Agrees (world_of files) (world_of_tree files tree)
    agree = part_agrees files tree part

-- ---- places of the class

pub edits_reach_trees : EditsReachTrees
edits_reach_trees names files units old new target facts class before j p c = by j.root (j.accepted.writable p c)
  where
    first : (a b : Bool) → (a || b) ≡ false → a ≡ false
    first false b e = refl
    first true b e = e

    by : (root : Option Text) → is_unwritable_path root (path_of files p) ≡ false → is_apart (path_of files p) ≡ false
    by None e = e
    by (Some root) e = first (is_apart (path_of files p)) (not (is_inside root (path_of files p))) e
