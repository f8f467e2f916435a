-- Our own rule for the translation unit that the words of an entry make, over the path rules of the base.
use Rattle.std.specs.Prelude.{ℕ, ◌==◌, Bool, List, [], ◌∷◌, ◌++◌, map, drop, reverse, find, position, slice_set, Option, Some, None, bytes_eq, codes, nat_eq, if◌then◌else◌}
use Rattle.std.specs.List.{flat_map, ends_with}
use Rattle.cr_base.specs.Path.{normalised}
use Rattle.cr_compdb.specs.declared.settings.Setting.{Setting}
use Rattle.cr_compdb.specs.declared.entry.Entry.{Entry}
use Rattle.cr_compdb.specs.declared.entry.Entry.TheVariants as entry
use Rattle.cr_compdb.specs.Settings.{settings_of}

-- the directory that a setting names, where it is of this option
abbrev pub directory_in : List ℕ → List ℕ → Setting → List (List ℕ)
directory_in home option s = if bytes_eq s.option option then normalised home s.value ∷ [] else []

-- the directories that an option names, in order
abbrev pub directories : List ℕ → List ℕ → List Setting → List (List ℕ)
directories home option settings = flat_map (directory_in home option) settings

-- with a blank in the place of each line feed
abbrev pub one_line : List ℕ → List ℕ
one_line text = map (λ byte. if byte == 10 then 32 else byte) text

abbrev pub equals_at : Option ℕ → List ℕ → List ℕ
equals_at None value = value ++ codes " 1"
equals_at (Some i) value = slice_set value i 32

-- the name and the body that the value of a `-D` defines: its first `=` becomes a blank, and with none the body is 1
abbrev pub definition : List ℕ → List ℕ
definition value = equals_at (position (λ byte. byte == 61) value) value

-- the line of a `-D` or a `-U`
abbrev pub macro_line : Setting → List ℕ
macro_line s =
    if bytes_eq s.option (codes "-D") then codes "#define " ++ one_line (definition s.value) ++ codes " \n"
    else if bytes_eq s.option (codes "-U") then codes "#undef " ++ one_line s.value ++ codes " \n"
    else []

-- the line of an `-include`
abbrev pub include_line : Setting → List ℕ
include_line s = if bytes_eq s.option (codes "-include") then codes "#include \"" ++ one_line s.value ++ codes "\" \n" else []

-- the text that stands before a unit's main file
abbrev pub words_text : List Setting → List ℕ
words_text settings = flat_map macro_line settings ++ flat_map include_line settings

abbrev pub is_c : List ℕ → Option Setting → Bool
is_c file None = ends_with nat_eq file (codes ".c")
is_c file (Some language) = bytes_eq language.value (codes "c")

-- The last `-x` says `c`, or there is none and the file ends in `.c`.
abbrev pub is_c_source : List ℕ → List Setting → Bool
is_c_source file settings = is_c file (find (λ s. bytes_eq s.option (codes "-x")) (reverse settings))

-- the entry with this number, of a directory, a file and the options of a command
abbrev pub entry_at : ℕ → List ℕ → List ℕ → List Setting → Entry
entry_at number home file settings =
    if is_c_source file settings
    then entry.Unit (record {
      number = number;
      main = normalised home file;
      directory = home;
      quote_dirs = directories home (codes "-iquote") settings;
      dirs = directories home (codes "-I") settings;
      system_dirs = directories home (codes "-isystem") settings;
      words = words_text settings;
    })
    else entry.Skipped number (normalised home file)

-- the entry of an object's directory, file and words, of which the first is the compiler
unfoldable pub made_entry : ℕ → List ℕ → List ℕ → List (List ℕ) → Entry
made_entry number directory file words = entry_at number (normalised [] directory) file (settings_of (drop 1 words))
