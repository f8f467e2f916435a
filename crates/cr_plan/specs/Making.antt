-- How a plan is made, step by step. No contract of a public call cites it.
use Rattle.std.specs.Prelude.{ℕ, ◌≡◌, ◌⊎◌, false, List, Option, Some, None, Result, Ok, Err}
use Rattle.std.specs.List.{Contains, AllByRecursion}
use Rattle.cr_base.specs.declared.unit.Unit.{Unit as TranslationUnit}
use Rattle.cr_base.specs.declared.token.Place.{Place}
use Rattle.cr_world.specs.Outside.{Files}
use Rattle.cr_compdb.specs.declared.entry.Entry.{Entry}
use Rattle.cr_snapshot.specs.Files.{finding}
use Rattle.cr_snapshot.specs.IncludeSearch.{is_apart}
use Rattle.cr_snapshot.specs.declared.known.KnownFile.{KnownFile}
use Rattle.cr_class.specs.ShownOrder.{path_of}
use Rattle.cr_class.specs.Verdict.{present_bytes}
use Rattle.cr_goal.specs.Goals.{Goal}
use Rattle.cr_goal.specs.Units.{units_in, skips_in}
use Rattle.cr_goal.specs.declared.refusal.Refused.{Refused}
use Rattle.cr_goal.specs.declared.units.Entries.{Entries}
use Rattle.cr_survey.specs.Batches.{LooksFor}
use Rattle.cr_survey.specs.Refusals.{limit_files}
use Rattle.cr_plan.specs.Meant.{first_wanted}

-- the entries are these units and these skipped ones
abbrev pub AreParted : List Entry → Entries → Type 0
AreParted es entries = (entries.units.items ≡ units_in es) × (entries.skipped.items ≡ skips_in es)

-- what is known at first, or the refusal where a limit is passed
abbrev pub first_or_limit : Option (List KnownFile) → Result (List KnownFile) Refused
first_or_limit None = Err limit_files
first_or_limit (Some files) = Ok files

-- a known file is that of the tree, but for one beside all files
abbrev pub IsOfTree : Files → KnownFile → Type 0
IsOfTree tree file = is_apart file.path ≡ false → file.found ≡ tree file.path

abbrev pub AreOfTree : Files → List KnownFile → Type 0
AreOfTree tree files = AllByRecursion (IsOfTree tree) files

-- the file of each place is there, with the bytes that are known
abbrev pub AreThere : Files → List KnownFile → List Place → Type 0
AreThere tree files places =
    (p : Place) → Contains places p → tree (path_of files p) ≡ Some (present_bytes (finding (path_of files p) files))

-- what may be read for units that are known
abbrev pub MayReadOf : Goal → List TranslationUnit → List ℕ → Type 0
MayReadOf goal units path = Contains (first_wanted goal.sought) path ⊎ LooksFor units path
