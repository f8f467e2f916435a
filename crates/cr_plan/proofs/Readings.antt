-- What was read for a plan.
use Rattle.std.proofs.Common.{◌≡◌, inl, inr, ℕ, List, ◌++◌, ap, ◌∙◌, subst, append_assoc, Ok}
use Rattle.std.proofs.lemmas.List.Elements.{All-append, All-weaker}
use Rattle.cr_base.specs.declared.unit.Unit.{Unit as TranslationUnit}
use Rattle.cr_world.specs.Outside.{Files, Reading, OnlyRead}
use Rattle.cr_world.proofs.Histories.{read_both, read_wider}
use Rattle.cr_compdb.specs.declared.entry.Entry.{Entry}
use Rattle.cr_goal.specs.Goals.{Goal, goal_of}
use Rattle.cr_goal.specs.Units.{entries_of, units_in}
use Rattle.cr_goal.specs.Reading.{as_read, AreEntriesRead}
use Rattle.cr_goal.specs.declared.goal.Listing.TheVariants as listing
use Rattle.cr_survey.specs.Batches.{LooksFor}
use Rattle.cr_plan.specs.Making.{MayReadOf}
use Rattle.cr_plan.specs.Planning.{MayRead, MayReadFor, ReadsForItself, ReadsByItself}

-- what may be read for the units of a goal
pub may_of : (goal : Goal) (files : Files) (entries : List Entry) (units : List TranslationUnit) → entries_of files goal.units ≡ Ok entries → units ≡ units_in entries → (path : List ℕ) → MayReadOf goal units path → MayReadFor goal files path
may_of goal files entries units e same path (inl first) = inr (inl first)
may_of goal files entries units e same path (inr looks) = inr (inr (entries, e, subst (λ us. LooksFor us path) same looks))

-- the database alone was read
pub told_database : (goal : Goal) (files : Files) (before now : List Reading) → OnlyRead (λ path. goal.units ≡ listing.Database path) before now → OnlyRead (MayReadFor goal files) before now
told_database goal files before now one = read_wider (λ path. goal.units ≡ listing.Database path) (MayReadFor goal files) (λ path h. inl h) before now one

-- the database, and then what its units look for
pub told_files : (goal : Goal) (files : Files) (before now later : List Reading) (entries : List Entry) (units : List TranslationUnit) → OnlyRead (λ path. goal.units ≡ listing.Database path) before now
    → entries_of files goal.units ≡ Ok entries → units ≡ units_in entries → OnlyRead (MayReadOf goal units) now later → OnlyRead (MayReadFor goal files) before later
told_files goal files before now later entries units one e same two =
    read_both (MayReadFor goal files) before now later (told_database goal files before now one) (read_wider (MayReadOf goal units) (MayReadFor goal files) (may_of goal files entries units e same) now later two)

pub own_database : (goal : Goal) (before now : List Reading) → OnlyRead (λ path. goal.units ≡ listing.Database path) before now → ReadsForItself goal before now
own_database goal before now one =
    (one.more, one.gained, All-weaker (λ (reading : Reading). goal.units ≡ listing.Database reading.0) (λ (reading : Reading). MayReadFor goal (as_read one.more) reading.0) (λ reading h. inl h) one.more one.each)

pub own_files : (goal : Goal) (before now later : List Reading) (entries : List Entry) (units : List TranslationUnit) → OnlyRead (λ path. goal.units ≡ listing.Database path) before now
    → AreEntriesRead goal.units entries before now → units ≡ units_in entries → OnlyRead (MayReadOf goal units) now later → ReadsForItself goal before later
own_files goal before now later entries units one own same two =
    let more = one.more ++ two.more in
    let May : Reading → Type 0 = λ reading. MayReadFor goal (as_read more) reading.0 in (
      more,
      two.gained ∙ ap (λ xs. xs ++ two.more) one.gained ∙ append_assoc before one.more two.more,
      All-append May one.more two.more
          (All-weaker (λ (reading : Reading). goal.units ≡ listing.Database reading.0) May (λ reading h. inl h) one.more one.each)
          (All-weaker (λ (reading : Reading). MayReadOf goal units reading.0) May (λ reading h. may_of goal (as_read more) entries units (own one.more two.more one.gained) same reading.0 h) two.more two.each),
    )

-- what may be read for the goal of the words may be read for these
pub told_words : (words : List (List ℕ)) (goal : Goal) (files : Files) → goal_of words ≡ Ok goal → (before now : List Reading) → OnlyRead (MayReadFor goal files) before now → OnlyRead (MayRead words files) before now
told_words words goal files e before now one = read_wider (MayReadFor goal files) (MayRead words files) (λ path h. (goal, e, h)) before now one

pub own_words : (words : List (List ℕ)) (goal : Goal) → goal_of words ≡ Ok goal → (before now : List Reading) → ReadsForItself goal before now → ReadsByItself words before now
own_words words goal e before now (more, gained, each) =
    (more, gained, All-weaker (λ (reading : Reading). MayReadFor goal (as_read more) reading.0) (λ (reading : Reading). MayRead words (as_read more) reading.0) (λ reading h. (goal, e, h)) more each)
