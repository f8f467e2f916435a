-- What the code holds, without where it lies in memory.
use Rattle.std.specs.Prelude.{ℕ, ◌≡◌, List, Option, Some, None, Result, Ok, Err}
use Rattle.std.specs.Option.{option_map}
use Rattle.cr_words.specs.QualifiedNames as qualified_names
use Rattle.cr_words.specs.Givens as givens
use Rattle.cr_words.specs.Requests as requests
use Rattle.cr_words.specs.declared.qualified_name.QualifiedName.{QualifiedName}
use Rattle.cr_words.specs.declared.qualified_name.QualifiedName.TheVariants as name
use Rattle.cr_words.specs.declared.given.Setting.{Setting}
use Rattle.cr_words.specs.declared.given.Given.{Given}
use Rattle.cr_words.specs.declared.given.Reading.{Reading}
use Rattle.cr_words.specs.declared.given.Reading.TheVariants as reading
use Rattle.cr_words.specs.declared.request.Aim.{Aim}
use Rattle.cr_words.specs.declared.request.Aim.TheVariants as aim
use Rattle.cr_words.specs.declared.request.Rename.{Rename}
use Rattle.cr_words.specs.declared.request.Task.{Task}
use Rattle.cr_words.specs.declared.request.Task.TheVariants as task
use Rattle.cr_words.specs.declared.request.Request.{Request}
use Rattle.cr_words.specs.declared.request.WordsFault.{WordsFault}
use Rattle.cr_words.specs.declared.request.WordsFault.TheVariants as fault

abbrev pub name_of : QualifiedName → qualified_names.QualifiedName
name_of (name.Ordinary text) = qualified_names.ordinary text.now
name_of (name.Tagged kind text) = qualified_names.tagged kind text.now
name_of (name.Member kind tag text) = qualified_names.member_of kind tag.now text.now

abbrev pub setting_of : Setting → givens.Setting
setting_of s = record { kind = s.kind; value = s.value.now }

abbrev pub given_of : Given → givens.Given
given_of g = record { word = g.word.now; setting = option_map setting_of g.setting }

abbrev pub reading_of : Reading → givens.Reading
reading_of reading.Open = givens.unbound
reading_of (reading.Waiting option) = givens.waiting option.now
reading_of reading.Plain = givens.plain
reading_of reading.Ended = givens.ended

abbrev pub aim_of : Aim → requests.Aim
aim_of (aim.Offset source offset database) = requests.at_offset source.now offset (option_map (λ d. d.now) database)
aim_of (aim.NameInFile source n) = requests.name_in_file source.now (name_of n)
aim_of (aim.NameInDatabase database n) = requests.name_in_database database.now (name_of n)

abbrev pub rename_of : Rename → requests.Rename
rename_of r = record { aim = aim_of r.aim; new_name = r.new_name.now; root = option_map (λ d. d.now) r.root; in_place = r.in_place }

abbrev pub task_of : Task → requests.Task
task_of (task.Rename r) = requests.renames (rename_of r)
task_of (task.Generate units) = requests.generates units

abbrev pub request_of : Request → requests.Request
request_of r = record { task = task_of r.task; pooling = r.pooling }

-- an answer in terms of the definitions
abbrev pub Tells : {V W E : Type 0} → (V → W) → (E → List ℕ) → Result W (List ℕ) → Result V E → Type 0
Tells view text wanted (Ok v) = wanted ≡ Ok (view v)
Tells view text wanted (Err e) = wanted ≡ Err (text e)

-- The words are read as they should be; only want of memory is free.
abbrev pub Reads : Result requests.Request (List ℕ) → Result Request WordsFault → Type 0
Reads wanted (Ok r) = wanted ≡ Ok (request_of r)
Reads wanted (Err (fault.Usage word)) = wanted ≡ Err word.now
Reads wanted (Err fault.OutOfMemory) = Unit {0}
