-- What a run read, and the entries of the database as it was read.
use Rattle.std.proofs.Common.{◌≡◌, inl, inr, ℕ, ◌≤◌, Bool, true, false, List, [], ◌∷◌, ◌++◌, length, refl, sym, ap, ◌∙◌, subst, arith, append_assoc, Result, Some, None}
use Rattle.std.specs.Prelude.{Ok, Err, bytes_eq, nat_lt, if◌then◌else◌, IfOk, codes}
use Rattle.std.proofs.lemmas.List.{append_cancel_left}
use Rattle.std.proofs.lemmas.List.Elements.{All-append, All-weaker}
use Rattle.std.proofs.lemmas.Slice.Eq.{bytes_eq-Decides}
use Rattle.cr_base.specs.declared.unit.Unit.{Unit as TranslationUnit}
use Rattle.cr_world.specs.Outside.{Files, Reading, OnlyRead}
use Rattle.cr_world.proofs.Histories.{read_both, read_wider}
use Rattle.cr_compdb.specs.Database.{database}
use Rattle.cr_compdb.specs.declared.entry.Entry.{Entry}
use Rattle.cr_run.specs.Goal.{Goal, goal_of}
use Rattle.cr_run.specs.Units.{entries_of, entries_at, entries_in, entries_or_fault, lone_entry, units_in, IsMain}
use Rattle.cr_run.specs.Outcome.{IsSourceOrMain}
use Rattle.cr_run.specs.Reading.{MayRead, MayReadFor, as_read, ReadsForItself, ReadsByItself, AreEntriesRead, AreEntriesReadAt}
use Rattle.cr_run.specs.Refusals.{Answers}
use Rattle.cr_run.specs.declared.refusal.Refusal.{Refusal}

-- the source, and main files of the units of a run
may_main : (goal : Goal) (files : Files) (entries : List Entry) (units : List TranslationUnit) → entries_of files goal ≡ Ok entries → units ≡ units_in entries → (path : List ℕ) → IsSourceOrMain goal units path → MayReadFor goal files path
may_main goal files entries units e same path (inl source) = inr (inl source)
may_main goal files entries units e same path (inr main) = inr (inr (entries, e, subst (λ us. IsMain us path) same main))

-- the database alone was read
pub told_database : (goal : Goal) (files : Files) (before now : List Reading) → OnlyRead (λ path. goal.database ≡ Some path) before now → OnlyRead (MayReadFor goal files) before now
told_database goal files before now one = read_wider (λ path. goal.database ≡ Some path) (MayReadFor goal files) (λ path h. inl h) before now one

-- the database, and then the files of its units
pub told_files : (goal : Goal) (files : Files) (before now later : List Reading) (entries : List Entry) (units : List TranslationUnit) → OnlyRead (λ path. goal.database ≡ Some path) before now
    → entries_of files goal ≡ Ok entries → units ≡ units_in entries → OnlyRead (IsSourceOrMain goal units) now later → OnlyRead (MayReadFor goal files) before later
told_files goal files before now later entries units one e same two =
    read_both (MayReadFor goal files) before now later (told_database goal files before now one) (read_wider (IsSourceOrMain goal units) (MayReadFor goal files) (may_main goal files entries units e same) now later two)

pub own_database : (goal : Goal) (before now : List Reading) → OnlyRead (λ path. goal.database ≡ Some path) before now → ReadsForItself goal before now
own_database goal before now one =
    (one.more, one.gained, All-weaker (λ (reading : Reading). goal.database ≡ Some reading.0) (λ (reading : Reading). MayReadFor goal (as_read one.more) reading.0) (λ reading h. inl h) one.more one.each)

pub own_files : (goal : Goal) (before now later : List Reading) (entries : List Entry) (units : List TranslationUnit) → OnlyRead (λ path. goal.database ≡ Some path) before now
    → AreEntriesRead goal entries before now → units ≡ units_in entries → OnlyRead (IsSourceOrMain goal units) now later → ReadsForItself goal before later
own_files goal before now later entries units one own same two =
    let more = one.more ++ two.more in
    let May : Reading → Type 0 = λ reading. MayReadFor goal (as_read more) reading.0 in (
      more,
      two.gained ∙ ap (λ xs. xs ++ two.more) one.gained ∙ append_assoc before one.more two.more,
      All-append May one.more two.more
          (All-weaker (λ (reading : Reading). goal.database ≡ Some reading.0) May (λ reading h. inl h) one.more one.each)
          (All-weaker (λ (reading : Reading). IsSourceOrMain goal units reading.0) May (λ reading h. may_main goal (as_read more) entries units (own one.more two.more one.gained) same reading.0 h) two.more two.each),
    )

-- what may be read for the goal of the words may be read for these
pub told_words : (words : List (List ℕ)) (goal : Goal) (files : Files) → goal_of words ≡ Ok goal → (before now : List Reading) → OnlyRead (MayReadFor goal files) before now → OnlyRead (MayRead words files) before now
told_words words goal files e before now one = read_wider (MayReadFor goal files) (MayRead words files) (λ path h. (goal, e, h)) before now one

pub own_words : (words : List (List ℕ)) (goal : Goal) → goal_of words ≡ Ok goal → (before now : List Reading) → ReadsForItself goal before now → ReadsByItself words before now
own_words words goal e before now (more, gained, each) =
    (more, gained, All-weaker (λ (reading : Reading). MayReadFor goal (as_read more) reading.0) (λ (reading : Reading). MayRead words (as_read more) reading.0) (λ reading h. (goal, e, h)) more each)

same_bytes : (path : List ℕ) → bytes_eq path path ≡ true
same_bytes path = (bytes_eq-Decides path path).1 refl

short_enough : (size : ℕ) → size ≤ 67108864 → nat_lt 67108864 size ≡ false
short_enough size le = grind (arith)

-- a database of these bytes was read at a path
pub own_at : {V : Type 0} (view : V → List Entry) (path bytes : List ℕ) (before now : List Reading) → now ≡ before ++ (path, bytes) ∷ [] → length bytes ≤ 67108864
    → (r : Result V Refusal) → Answers view (entries_or_fault (database bytes)) r → IfOk r (λ v. AreEntriesReadAt path (view v) before now)
own_at view path bytes before now e short (Ok v) h = λ more later f.
    let same : more ≡ (path, bytes) ∷ [] = append_cancel_left before more ((path, bytes) ∷ []) (sym f ∙ e) in
    subst (λ m. entries_in (as_read (m ++ later) path) ≡ Ok (view v)) (sym same)
    (ap (λ b. entries_in (if b then Some bytes else as_read later path)) (same_bytes path)
    ∙ ap (λ (b : Bool). if b then Err (record { status = 3; text = codes "database: " ++ codes "long" }) else entries_or_fault (database bytes)) (short_enough (length bytes) short) ∙ h)
own_at view path bytes before now e short (Err r) h = tt

-- the database of a goal was read
pub own_of_database : {V : Type 0} (view : V → List Entry) (goal : Goal) (path : List ℕ) (before now : List Reading) → goal.database ≡ Some path
    → (r : Result V Refusal) → IfOk r (λ v. AreEntriesReadAt path (view v) before now) → IfOk r (λ v. AreEntriesRead goal (view v) before now)
unfolding entries_of
own_of_database view goal path before now is (Ok v) h = λ more later f.
    subst (λ d. entries_at (as_read (more ++ later)) goal.source d ≡ Ok (view v)) (sym is) (h more later f)
own_of_database view goal path before now is (Err r) h = tt

-- a goal without a database has the source alone
pub own_lone : (goal : Goal) (before now : List Reading) (entries : List Entry) → goal.database ≡ None → entries ≡ lone_entry goal.source → AreEntriesRead goal entries before now
unfolding entries_of
own_lone goal before now entries none is more later f =
    ap (entries_at (as_read (more ++ later)) goal.source) none ∙ ap (λ es. Ok es) (sym is)
