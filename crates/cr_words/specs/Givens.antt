-- The words of the command line, each option with its value (our own rule).
use Rattle.std.specs.Prelude.{ℕ, ◌+◌, Bool, true, false, ◌&&◌, not, List, [], ◌∷◌, ◌++◌, map, take, drop, Option, Some, None, is_some, if◌then◌else◌, ◌==◌, bytes_eq, codes}
use Rattle.std.specs.List.{list_any, position}
use Rattle.cr_words.specs.Kinds.{same_kind, is_of_form, long_kind, valued_kind, is_option, begins_with_dash}
use Rattle.cr_words.specs.declared.kind.WordKind.{WordKind}
use Rattle.cr_words.specs.declared.kind.WordKind.TheVariants as k

pub record Setting : Type 0 where
  pub kind : WordKind
  pub value : List ℕ

-- A word, and what it sets: nothing where it is no option of ours, lacks its value, or has one of another form.
pub record Given : Type 0 where
  pub word : List ℕ
  pub setting : Option Setting

abbrev pub given : List ℕ → Option WordKind → List ℕ → Given
given word None value = record { word = word; setting = None }
given word (Some kind) value = record { word = word; setting = if is_of_form kind value then Some (record { kind = kind; value = value }) else None }

abbrev pub plain_word : List ℕ → Given
plain_word word = given word (Some k.Source) word

-- an option with its value behind `=`
abbrev pub with_own_value : List ℕ → Option ℕ → Given
with_own_value word None = given word None []
with_own_value word (Some end) = given word (long_kind (take end word)) (drop (end + 1) word)

-- a plain word, `-i`, or an option with its value behind `=`
abbrev pub whole_word : List ℕ → Given
whole_word word =
    if not (is_option word) then plain_word word
    else if bytes_eq word (codes "-i") then given word (Some k.InPlace) []
    else with_own_value word (position (λ b. b == 61) word)

abbrev mutual
  -- The words with their values, in order. All behind `--` are plain.
  pub givens : List (List ℕ) → List Given
  givens [] = []
  givens (word ∷ rest) =
      if bytes_eq word (codes "--") then given word (Some k.Separator) [] ∷ map plain_word rest
      else if is_some (valued_kind word) then valued word rest
      else whole_word word ∷ givens rest

  -- An option takes the next word, which must be there and not begin with a dash. Else it lacks its value, and what
  -- follows doesn't matter.
  pub valued : List ℕ → List (List ℕ) → List Given
  valued option [] = given option None [] ∷ []
  valued option (word ∷ rest) = if begins_with_dash word then given option None [] ∷ [] else given option (valued_kind option) word ∷ givens rest

-- how the words that follow are read
pub data Reading : Type 0 where
  unbound : Reading
  waiting : List ℕ → Reading
  plain : Reading
  ended : Reading

abbrev pub givens_behind : List (List ℕ) → Reading → List Given
givens_behind words unbound = givens words
givens_behind words (waiting option) = valued option words
givens_behind words plain = map plain_word words
givens_behind words ended = []

abbrev pub is_set_to : WordKind → Option Setting → Bool
is_set_to kind None = false
is_set_to kind (Some setting) = same_kind setting.kind kind

abbrev pub is_of : WordKind → Given → Bool
is_of kind g = is_set_to kind g.setting

abbrev pub is_repeated : List Given → Option Setting → Bool
is_repeated before None = true
is_repeated before (Some setting) = list_any (is_of setting.kind) before

-- it sets nothing, or what is set before
abbrev pub is_fault : List Given → Given → Bool
is_fault before g = is_repeated before g.setting

-- the first word that is a fault behind those before it
abbrev pub first_fault : List Given → List Given → Option (List ℕ)
first_fault before [] = None
first_fault before (g ∷ rest) = if is_fault before g then Some g.word else first_fault (before ++ g ∷ []) rest

abbrev pub value_or : WordKind → Option Setting → Option (List ℕ) → Option (List ℕ)
value_or kind None other = other
value_or kind (Some setting) other = if same_kind setting.kind kind then Some setting.value else other

-- the value of an option, or the plain word
abbrev pub value_of : WordKind → List Given → Option (List ℕ)
value_of kind [] = None
value_of kind (g ∷ rest) = value_or kind g.setting (value_of kind rest)
