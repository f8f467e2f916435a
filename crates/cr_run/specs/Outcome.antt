-- What the words and the files decide: a refusal, or a rename. Our own rules, in the order of refusals.
use Rattle.std.specs.Prelude.{ℕ, ◌≡◌, ◌⊎◌, Bool, false, ◌&&◌, List, [], ◌∷◌, length, map, Option, Some, None, Result, Ok, Err, if◌then◌else◌, ◌==◌, nat_lt, bytes_eq, codes}
use Rattle.std.specs.List.{filter, list_any}
use Rattle.cr_base.specs.declared.unit.Unit.{Unit as TranslationUnit}
use Rattle.cr_world.specs.Outside.{Files}
use Rattle.cr_compdb.specs.declared.entry.Entry.{Entry}
use Rattle.cr_lex.specs.Lexing.{Token, Lexed, lexed}
use Rattle.cr_small.specs.Keys.{Key}
use Rattle.cr_small.specs.Renaming.{Target, target_at}
use Rattle.cr_small.specs.declared.binder.Denotation.{Denotation}
use Rattle.cr_run.specs.Goal.{Goal, Refused, refused, unbuilt, reserved, goal_of, ◌>>=◌}
use Rattle.cr_run.specs.Units.{entries_of, units_in, skips_in, mains, IsMain}
use Rattle.cr_run.specs.Renames.{FileEdit, Rename}
use Rattle.cr_run.specs.Survey.{Meaning, IsMeaning, is_too_long, files_so_far, refusal_of_units, places_at, unspellable_at, refusal_of_places}

abbrev pub Outcome : Type 0
Outcome = Result Rename Refused

abbrev pub limit_files : {A : Type 0} → Result A Refused
limit_files = refused 19 (codes "limit: files")

-- what stands at the offset of a source of the small form keeps its name where that is `main` or the new name
abbrev pub may_rename : Goal → Option Target → Result (Option Target) Refused
may_rename goal None = Ok None
may_rename goal (Some target) =
    if bytes_eq target.name goal.new then reserved goal.new
    else if bytes_eq target.name (codes "main") then reserved (codes "main")
    else Ok (Some target)

abbrev pub or_refused : Option Refused → Result (Unit {0}) Refused
or_refused None = Ok tt
or_refused (Some r) = Err r

abbrev pub begins_with_underscore : List ℕ → Bool
begins_with_underscore [] = false
begins_with_underscore (byte ∷ rest) = byte == 95

-- a name of file scope isn't renamed to one that begins with an underscore (C11 7.1.3)
abbrev pub named : Goal → Target → Result Target Refused
named goal target = if begins_with_underscore goal.new && target.at_file_scope then reserved goal.new else Ok target

-- the source is the main file of a unit
abbrev pub is_main_source : Goal → List TranslationUnit → Bool
is_main_source goal units = list_any (bytes_eq goal.source) (mains units)

-- What stands at the offset must be a name, in the main file of some unit.
abbrev pub renamable : Goal → List TranslationUnit → Option Target → Result Target Refused
renamable goal units None = refused 6 (codes "no symbol")
renamable goal units (Some target) =
    if is_main_source goal units then named goal target else refused 6 (codes "no symbol")

abbrev pub name_or_nothing : Option Target → List ℕ
name_or_nothing None = []
name_or_nothing (Some target) = target.name

abbrev pub IsSourceOrMain : Goal → List TranslationUnit → List ℕ → Type 0
IsSourceOrMain goal units path = (path ≡ goal.source) ⊎ IsMain units path

abbrev pub has_offsets : FileEdit → Bool
has_offsets edit = nat_lt 0 (length edit.offsets)

abbrev pub edit_at : Meaning → Files → Goal → Key → List ℕ → FileEdit
edit_at meaning files goal key path = record { path = path; offsets = places_at meaning files goal.source key path }

-- the edits of an entity of the source, in the files of the units
abbrev pub edits_of : Meaning → Files → Goal → List TranslationUnit → Key → List FileEdit
edits_of meaning files goal units key = filter has_offsets (map (edit_at meaning files goal key) (files_so_far goal.source units))

abbrev pub rename_of : Meaning → Files → Goal → List Entry → Target → Rename
rename_of meaning files goal entries target = record {
  old = target.name;
  new = goal.new;
  edits = edits_of meaning files goal (units_in entries) target.key;
  units = length (units_in entries);
  skipped = skips_in entries;
  in_place = goal.in_place;
}

-- The new name must be spellable at each place of an entity of the source, in the files of the units.
abbrev pub refusal_of_spelling : Meaning → Files → Goal → List TranslationUnit → Key → Option Refused
refusal_of_spelling meaning files goal units key = refusal_of_places (unspellable_at meaning files goal.source goal.new key) (files_so_far goal.source units)

-- what the entries and what stands at the offset decide
abbrev pub of_target : Meaning → Files → Goal → List Entry → Option Target → Outcome
of_target meaning files goal entries target = do
  surveyed ← or_refused (refusal_of_units meaning files goal.source goal.new (units_in entries))
  found ← renamable goal (units_in entries) target
  spelled ← or_refused (refusal_of_spelling meaning files goal (units_in entries) found.key)
  Ok (rename_of meaning files goal entries found)

-- what stands at the offset of a source of the small form
abbrev pub of_denotes : Meaning → Files → Goal → List Entry → List Token → List (Option Denotation) → Outcome
of_denotes meaning files goal entries tokens denotes = do
  target ← may_rename goal (target_at goal.offset tokens denotes)
  of_target meaning files goal entries target

abbrev pub of_meaning : Meaning → Files → Goal → List Entry → List Token → Option (List (Option Denotation)) → Outcome
of_meaning meaning files goal entries tokens None = unbuilt goal.source
of_meaning meaning files goal entries tokens (Some denotes) = of_denotes meaning files goal entries tokens denotes

-- a source that isn't of the small form is unbuilt
abbrev pub of_text : Meaning → Files → Goal → List Entry → Lexed → Outcome
of_text meaning files goal entries text = of_meaning meaning files goal entries text.tokens (meaning text)

-- in a source that is absent nothing stands at an offset
abbrev pub of_source : Meaning → Files → Goal → List Entry → Option (List ℕ) → Outcome
of_source meaning files goal entries None = of_target meaning files goal entries None
of_source meaning files goal entries (Some bytes) =
    if is_too_long (length bytes) then limit_files else of_text meaning files goal entries (lexed bytes)

-- what the entries decide, by the source
abbrev pub of_entries : Meaning → Files → Goal → List Entry → Outcome
of_entries meaning files goal entries = of_source meaning files goal entries (files goal.source)

abbrev pub of_goal : Meaning → Files → Goal → Outcome
of_goal meaning files goal = do
  entries ← entries_of files goal
  of_entries meaning files goal entries

-- the outcome of words and files, by what each text means
unfoldable pub outcome : Meaning → List (List ℕ) → Files → Outcome
outcome meaning words files = do
  goal ← goal_of words
  of_goal meaning files goal

-- It is the refusal or the rename that the words and the files decide.
abbrev pub IsOutcome : List (List ℕ) → Files → Outcome → Type 0
IsOutcome words files o = (meaning : Meaning) × IsMeaning meaning × (o ≡ outcome meaning words files)

-- Words and files decide one outcome.
abbrev pub OneOutcome : Type 0
OneOutcome = (words : List (List ℕ)) (files : Files) (one other : Outcome) → IsOutcome words files one → IsOutcome words files other → one ≡ other
