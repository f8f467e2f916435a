-- Our own rule for which words of a compiler's command are read, and how.
use Rattle.std.specs.Prelude.{ℕ, ◌==◌, ◌&&◌, ◌||◌, Bool, false, List, [], ◌∷◌, ◌++◌, take, drop, Option, None, Some, bytes_eq, codes, nat_eq, nat_lt, if◌then◌else◌}
use Rattle.std.specs.List.{list_any, slice_split, starts_with}
use Rattle.cr_compdb.specs.declared.settings.Setting.{Setting}

-- an option and its value
abbrev pub setting : List ℕ → List ℕ → Setting
setting option value = record { option = option; value = value }

-- the words that take the next one as their value: an option whose own word ends with its name, and `-include`, and
-- four whose value is ignored
unfoldable pub takes_next : List ℕ → Bool
takes_next word = list_any (λ name. bytes_eq name word) (slice_split (λ b. b == 32) (codes "-I -iquote -isystem -D -U -x -include -o -MF -MT -MQ"))

-- `-I`, `-D`, `-U` and `-x`, at the front of a word
abbrev pub is_short : List ℕ → Bool
is_short [] = false
is_short (first ∷ []) = false
is_short (first ∷ second ∷ rest) = first == 45 && (second == 73 || second == 68 || second == 85 || second == 120)

-- how many bytes at the front of a word are the name of an option that takes the rest of it
abbrev pub name_length : List ℕ → ℕ
name_length word =
    if starts_with nat_eq word (codes "-iquote") then 7
    else if starts_with nat_eq word (codes "-isystem") then 8
    else if is_short word then 2
    else 0

-- the option and the value in one word, if it has both
abbrev pub own_setting : List ℕ → List Setting
own_setting word = if nat_lt 0 (name_length word) then setting (take (name_length word) word) (drop (name_length word) word) ∷ [] else []

abbrev mutual
  -- the options of a list of words, in order, with their values
  pub settings_of : List (List ℕ) → List Setting
  settings_of [] = []
  settings_of (word ∷ rest) = if takes_next word then valued word rest else own_setting word ++ settings_of rest

  -- an option whose value is the word behind it, and the options of the words that follow; with no word behind it
  -- the option is ignored
  pub valued : List ℕ → List (List ℕ) → List Setting
  valued option [] = []
  valued option (value ∷ rest) = setting option value ∷ settings_of rest

-- the options of what is still to come, behind an option that waits for its value
abbrev pub settings_behind : List (List ℕ) → Option (List ℕ) → List Setting
settings_behind rest None = settings_of rest
settings_behind rest (Some option) = valued option rest
