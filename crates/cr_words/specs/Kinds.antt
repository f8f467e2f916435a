-- The options of the command line, and the form of their values (our own rule).
use Rattle.std.specs.Prelude.{ℕ, Bool, true, false, List, [], ◌∷◌, Option, Some, None, is_some, if◌then◌else◌, ◌==◌, bytes_eq, codes}
use Rattle.cr_words.specs.Numbers.{is_number_in}
use Rattle.cr_words.specs.QualifiedNames.{qualified_name}
use Rattle.cr_words.specs.declared.kind.WordKind.{WordKind}
use Rattle.cr_words.specs.declared.kind.WordKind.TheVariants as k

abbrev pub number : WordKind → ℕ
number k.Database = 0
number k.Offset = 1
number k.QualifiedName = 2
number k.NewName = 3
number k.Root = 4
number k.Workers = 5
number k.Retries = 6
number k.Rehearse = 7
number k.Generate = 8
number k.InPlace = 9
number k.Source = 10
number k.Separator = 11

abbrev pub same_kind : WordKind → WordKind → Bool
same_kind a b = number a == number b

-- a text is a value of an option
abbrev pub is_of_form : WordKind → List ℕ → Bool
is_of_form k.Database value = true
is_of_form k.Offset value = is_number_in 0 4294967295 value
is_of_form k.QualifiedName value = is_some (qualified_name value)
is_of_form k.NewName value = true
is_of_form k.Root value = true
is_of_form k.Workers value = is_number_in 1 16 value
is_of_form k.Retries value = is_number_in 0 8 value
is_of_form k.Rehearse value = is_number_in 0 4294967295 value
is_of_form k.Generate value = is_number_in 1 16384 value
is_of_form k.InPlace value = true
is_of_form k.Source value = true
is_of_form k.Separator value = true

-- the options whose value is a number, but for `--offset`
unfoldable pub number_kind : List ℕ → Option WordKind
number_kind name =
    if bytes_eq name (codes "--workers") then Some k.Workers
    else if bytes_eq name (codes "--retries") then Some k.Retries
    else if bytes_eq name (codes "--rehearse") then Some k.Rehearse
    else if bytes_eq name (codes "--generate") then Some k.Generate
    else None

-- the options that take a value, but for `-p`
unfoldable pub long_kind : List ℕ → Option WordKind
long_kind name =
    if bytes_eq name (codes "--database") then Some k.Database
    else if bytes_eq name (codes "--offset") then Some k.Offset
    else if bytes_eq name (codes "--qualified-name") then Some k.QualifiedName
    else if bytes_eq name (codes "--new-name") then Some k.NewName
    else if bytes_eq name (codes "--root") then Some k.Root
    else number_kind name

-- an option that takes the next word as its value; `-p` is `--database`
unfoldable pub valued_kind : List ℕ → Option WordKind
valued_kind word = if bytes_eq word (codes "-p") then Some k.Database else long_kind word

-- a word that begins with a dash and is longer than one byte
abbrev pub is_option : List ℕ → Bool
is_option [] = false
is_option (first ∷ []) = false
is_option (first ∷ second ∷ rest) = first == 45

abbrev pub begins_with_dash : List ℕ → Bool
begins_with_dash [] = false
begins_with_dash (first ∷ rest) = first == 45
