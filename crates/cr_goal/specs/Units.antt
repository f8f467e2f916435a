-- The translation units of a run (Clang's database, or the source alone).
use Rattle.std.specs.Prelude.{ℕ, List, [], ◌∷◌, ◌++◌, length, Option, Some, None, Result, Ok, Err, if◌then◌else◌, nat_lt, codes, decimal}
use Rattle.std.specs.List.{flat_map}
use Rattle.cr_base.specs.declared.unit.Unit.{Unit as TranslationUnit}
use Rattle.cr_world.specs.Outside.{Files}
use Rattle.cr_compdb.specs.Database.{database}
use Rattle.cr_compdb.specs.declared.entry.Entry.{Entry}
use Rattle.cr_compdb.specs.declared.entry.Entry.TheVariants as entry
use Rattle.cr_compdb.specs.declared.entry.FieldName.{FieldName}
use Rattle.cr_compdb.specs.declared.entry.FieldName.TheVariants as field
use Rattle.cr_compdb.specs.declared.entry.DbFault.{DbFault}
use Rattle.cr_compdb.specs.declared.entry.DbFault.TheVariants as fault
use Rattle.cr_goal.specs.declared.goal.Listing.{Listing}
use Rattle.cr_goal.specs.declared.goal.Listing.TheVariants as listing
use Rattle.cr_goal.specs.declared.refusal.Refused.{Refused}
use Rattle.cr_goal.specs.declared.units.Skip.{Skip}
use Rattle.cr_goal.specs.Refusals.{bad_database, limit}

abbrev pub unit_in : Entry → List TranslationUnit
unit_in (entry.Unit unit) = unit ∷ []
unit_in (entry.Skipped number path) = []

-- the units among the entries, in order
abbrev pub units_in : List Entry → List TranslationUnit
units_in entries = flat_map unit_in entries

abbrev pub skip_in : Entry → List Skip
skip_in (entry.Unit unit) = []
skip_in (entry.Skipped number path) = (record { number = number; path = path }) ∷ []

-- the entries that are no translation units of C, in order
abbrev pub skips_in : List Entry → List Skip
skips_in entries = flat_map skip_in entries

-- the one unit of a run without a database: number 0, with the source as its main file, and no options
abbrev pub lone_unit : List ℕ → TranslationUnit
lone_unit source = record { number = 0; main = source; directory = []; quote_dirs = []; dirs = []; system_dirs = []; words = [] }

abbrev pub field_name : FieldName → List ℕ
field_name field.Object = codes "object"
field_name field.Directory = codes "directory"
field_name field.File = codes "file"
field_name field.Words = codes "words"

abbrev pub entry_text : ℕ → List ℕ → List ℕ → List ℕ
entry_text n what name = codes "entry " ++ decimal n ++ what ++ name

-- what is wrong with a database
abbrev pub fault_text : DbFault → List ℕ
fault_text fault.NotJson = codes "not json"
fault_text fault.NotArray = codes "not array"
fault_text (fault.Field n name) = entry_text n (codes " field ") (field_name name)
fault_text (fault.Quote n) = entry_text n (codes " quote") []
fault_text fault.LimitUnits = []
fault_text fault.OutOfMemory = []

abbrev pub of_fault : {A : Type 0} → DbFault → Result A Refused
of_fault fault.NotJson = bad_database (fault_text fault.NotJson)
of_fault fault.NotArray = bad_database (fault_text fault.NotArray)
of_fault (fault.Field n name) = bad_database (fault_text (fault.Field n name))
of_fault (fault.Quote n) = bad_database (fault_text (fault.Quote n))
of_fault fault.LimitUnits = limit (codes "units")
of_fault fault.OutOfMemory = bad_database []

abbrev pub entries_or_fault : Result (List Entry) DbFault → Result (List Entry) Refused
entries_or_fault (Ok entries) = Ok entries
entries_or_fault (Err f) = of_fault f

-- the entries of a database that is there, of at most 67,108,864 bytes
abbrev pub entries_in : Option (List ℕ) → Result (List Entry) Refused
entries_in None = bad_database (codes "absent")
entries_in (Some bytes) = if nat_lt 67108864 (length bytes) then bad_database (codes "long") else entries_or_fault (database bytes)

abbrev pub lone_entry : List ℕ → List Entry
lone_entry source = entry.Unit (lone_unit source) ∷ []

-- the entries of the run
abbrev pub entries_of : Files → Listing → Result (List Entry) Refused
entries_of files (listing.Database path) = entries_in (files path)
entries_of files (listing.Alone source) = Ok (lone_entry source)
