-- The entries of a compilation database: Clang's form of it, over the value that its JSON has, and our own rule for
-- what is read of it and for its first fault.
use Rattle.std.specs.Prelude.{ℕ, ◌+◌, ◌≡◌, List, [], ◌∷◌, Option, Some, None, Result, Ok, Err, option_map, option_and_then, codes, nat_lt, if◌then◌else◌}
use Rattle.std.specs.Str.{is_utf8}
use Rattle.serde_json.specs.Data.{Data, Items, no_items, item}
use Rattle.serde_json.specs.Read.{read}
use Rattle.serde_json.specs.Find.{get, as_str, as_array, as_object}
use Rattle.cr_compdb.specs.declared.entry.Entry.{Entry}
use Rattle.cr_compdb.specs.declared.entry.FieldName.TheVariants as field
use Rattle.cr_compdb.specs.declared.entry.DbFault.{DbFault}
use Rattle.cr_compdb.specs.declared.entry.DbFault.TheVariants as fault
use Rattle.cr_compdb.specs.Command.{command_words}
use Rattle.cr_compdb.specs.Entries.{made_entry}

-- one step, and then another that goes on with what it gave, up to the first fault
infixl 10 ◌>>=◌
abbrev pub ◌>>=◌ : {A B : Type 0} → Result A DbFault → (A → Result B DbFault) → Result B DbFault
(Ok found) >>= next = next found
(Err f) >>= next = Err f

-- what was found, or this fault
abbrev pub found_or : {A : Type 0} → DbFault → Option A → Result A DbFault
found_or f None = Err f
found_or f (Some found) = Ok found

-- the texts of a list, where each item is a text
abbrev pub texts_of : Items → Option (List (List ℕ))
texts_of no_items = Some []
texts_of (item d more) = option_and_then (λ text. option_map (λ texts. text ∷ texts) (texts_of more)) (as_str d)

-- the words of `arguments`, which is a list of texts
abbrev pub words_of_list : ℕ → Data → Result (List (List ℕ)) DbFault
words_of_list n d = found_or (fault.Field n field.Words) (option_and_then texts_of (as_array d))

-- the words of `command`, which is a text whose quotes are closed
abbrev pub words_of_command : ℕ → Option Data → Result (List (List ℕ)) DbFault
words_of_command n command = do
  text ← found_or (fault.Field n field.Words) (option_and_then as_str command)
  found_or (fault.Quote n) (command_words text)

-- the words of `arguments` where it is there, else those of `command`
abbrev pub words_of : ℕ → Option Data → Option Data → Result (List (List ℕ)) DbFault
words_of n command None = words_of_command n command
words_of n command (Some arguments) = words_of_list n arguments

-- the text of a member
abbrev pub text_at : List ℕ → Data → Option (List ℕ)
text_at name d = option_and_then as_str (get name d)

-- the entry with this number, directory and file, and the words of a value
abbrev pub entry_with : ℕ → Data → List ℕ → List ℕ → Result Entry DbFault
entry_with n d directory file = do
  words ← words_of n (get (codes "command") d) (get (codes "arguments") d)
  Ok (made_entry n directory file words)

-- the entry with this number: an object with the texts `directory` and `file`, and words
unfoldable pub entry_of : ℕ → Data → Result Entry DbFault
entry_of n d = do
  object ← found_or (fault.Field n field.Object) (as_object d)
  directory ← found_or (fault.Field n field.Directory) (text_at (codes "directory") d)
  file ← found_or (fault.Field n field.File) (text_at (codes "file") d)
  entry_with n d directory file

-- the entries, numbered on, or the first fault among them
abbrev pub entries_from : ℕ → Items → Result (List Entry) DbFault
entries_from n no_items = Ok []
entries_from n (item d more) = do
  first ← entry_of n d
  rest ← entries_from (n + 1) more
  Ok (first ∷ rest)

abbrev pub count_of : Items → ℕ
count_of no_items = 0
count_of (item d more) = count_of more + 1

-- the entries of a list, of which there are at most 16,384
abbrev pub units_in : Items → Result (List Entry) DbFault
units_in items = if nat_lt 16384 (count_of items) then Err fault.LimitUnits else entries_from 0 items

-- the entries of a value, or its first fault
unfoldable pub units_of : Data → Result (List Entry) DbFault
units_of d = found_or fault.NotArray (as_array d) >>= units_in

-- the value that bytes have as JSON (RFC 8259, of at most 127 arrays and objects inside one another)
abbrev pub json_of : List ℕ → Option Data
json_of bytes = if is_utf8 bytes then read bytes else None

-- the entries of a database, or its first fault
unfoldable pub database : List ℕ → Result (List Entry) DbFault
database bytes = found_or fault.NotJson (json_of bytes) >>= units_of

-- a fact, unless memory ran out
abbrev pub UnlessMemory : Type 0 → DbFault → Type 0
UnlessMemory P fault.NotJson = P
UnlessMemory P fault.NotArray = P
UnlessMemory P (fault.Field n name) = P
UnlessMemory P (fault.Quote n) = P
UnlessMemory P fault.LimitUnits = P
UnlessMemory P fault.OutOfMemory = Unit {0}

-- An answer is what is defined, unless memory ran out.
abbrev pub Gives : {V X : Type 0} → (V → X) → Result X DbFault → Result V DbFault → Type 0
Gives view defined (Ok found) = defined ≡ Ok (view found)
Gives view defined (Err f) = UnlessMemory (defined ≡ Err f) f
