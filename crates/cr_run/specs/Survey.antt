-- The files of the translation units, and what each is found to be. Our own rules.
use Rattle.std.specs.Prelude.{ℕ, ◌+◌, ◌*◌, zero, suc, Bool, true, false, not, ◌&&◌, ◌||◌, List, [], ◌∷◌, ◌++◌, length, take, drop, fold, Option, Some, None, is_some, if◌then◌else◌, nat_lt, bytes_eq, codes, decimal}
use Rattle.std.specs.Option.{option_map, option_or}
use Rattle.std.specs.List.{list_any, find, sum_by}
use Rattle.std.specs.Int.{div_ceil}
use Rattle.std.specs.Ordering.{nat_cmp, match_ordering}
use Rattle.std.specs.Cmp.Lexicographic.{slice_cmp}
use Rattle.cr_base.specs.declared.unit.Unit.{Unit as TranslationUnit}
use Rattle.cr_world.specs.Outside.{Files}
use Rattle.cr_lex.specs.Lexing.{Token, Lexed, lexed}
use Rattle.cr_small.specs.SmallForm.{Resolves}
use Rattle.cr_small.specs.Keys.{Key, external, at}
use Rattle.cr_small.specs.Renaming.{places_of, first_unspellable, has_text}
use Rattle.cr_small.specs.declared.binder.Denotation.{Denotation}
use Rattle.cr_run.specs.Goal.{Refused}
use Rattle.cr_run.specs.Units.{mains}

-- what the tokens of each text denote, if it is of the small form
abbrev pub Meaning : Type 0
Meaning = Lexed → Option (List (Option Denotation))

abbrev pub IsMeaning : Meaning → Type 0
IsMeaning meaning = (text : Lexed) → Resolves text (meaning text)

-- a path put where it belongs in the order of bytes
abbrev pub insert_path : List ℕ → List (List ℕ) → List (List ℕ)
insert_path path [] = path ∷ []
insert_path path (first ∷ rest) = match_ordering (slice_cmp nat_cmp path first) (path ∷ first ∷ rest) (first ∷ rest) (first ∷ insert_path path rest)

abbrev pub with_path : List (List ℕ) → List ℕ → List (List ℕ)
with_path paths path = if list_any (bytes_eq path) paths then paths else insert_path path paths

-- the paths, each once, in the order of their bytes
abbrev pub in_order : List (List ℕ) → List (List ℕ)
in_order paths = fold with_path [] paths

-- the files that a run has come to: the source, and the main files of these units
abbrev pub files_so_far : List ℕ → List TranslationUnit → List (List ℕ)
files_so_far source units = in_order (source ∷ mains units)

abbrev pub size_of : Option (List ℕ) → ℕ
size_of None = 0
size_of (Some bytes) = length bytes

abbrev pub size_at : Files → List ℕ → ℕ
size_at files path = size_of (files path)

abbrev pub total_size : Files → List (List ℕ) → ℕ
total_size files paths = sum_by (size_at files) paths

abbrev pub is_too_long : ℕ → Bool
is_too_long size = nat_lt 16777216 size

-- A file, or the text that a unit's command makes, has more than 16,777,216 bytes, or the files have more than
-- 536,870,912 together.
abbrev pub is_over : Files → List ℕ → List TranslationUnit → Bool
is_over files source units =
    list_any (λ unit. is_too_long (length unit.words)) units
    || list_any (λ path. is_too_long (size_at files path)) (files_so_far source units)
    || nat_lt 536870912 (total_size files (files_so_far source units))

-- a text of the small form in which no token is spelled as the new name
abbrev pub is_clear_text : Meaning → List ℕ → Lexed → Bool
is_clear_text meaning new text = is_some (meaning text) && not (has_text new text.tokens)

abbrev pub is_clear_file : Meaning → List ℕ → Option (List ℕ) → Bool
is_clear_file meaning new None = false
is_clear_file meaning new (Some bytes) = is_clear_text meaning new (lexed bytes)

abbrev pub is_empty : List ℕ → Bool
is_empty [] = true
is_empty (byte ∷ rest) = false

-- A unit whose command defines and includes nothing before its main file, which is there and is clear.
abbrev pub is_clear : Meaning → Files → List ℕ → TranslationUnit → Bool
is_clear meaning files new unit = is_empty unit.words && is_clear_file meaning new (files unit.main)

-- what isn't built: the first of these units that isn't clear
abbrev pub first_unbuilt : Meaning → Files → List ℕ → List TranslationUnit → Option Refused
first_unbuilt meaning files new units =
    option_map (λ unit. record { status = 20; text = codes "unbuilt: " ++ unit.main }) (find (λ unit. not (is_clear meaning files new unit)) units)

-- The units go in batches of 64. At the end of a batch the files so far may be over a limit; else its first unit that
-- isn't clear decides.
abbrev pub refusal_of_batch : Meaning → Files → List ℕ → List ℕ → List TranslationUnit → ℕ → Option Refused
refusal_of_batch meaning files source new units n =
    if is_over files source (take (64 * n + 64) units) then Some (record { status = 19; text = codes "limit: files" })
    else first_unbuilt meaning files new (take 64 (drop (64 * n) units))

-- the refusal of the first of the batches below a number that has one
abbrev pub refusal_below : (ℕ → Option Refused) → ℕ → Option Refused
refusal_below refusal zero = None
refusal_below refusal (suc n) = option_or (refusal_below refusal n) (refusal n)

-- how many batches there are
abbrev pub batches : List TranslationUnit → ℕ
batches units = div_ceil (length units) 64

-- the refusal of the units, if there is one
unfoldable pub refusal_of_units : Meaning → Files → List ℕ → List ℕ → List TranslationUnit → Option Refused
refusal_of_units meaning files source new units = refusal_below (refusal_of_batch meaning files source new units) (batches units)

-- the key of an entity of the source, as the key of an entity of a file
abbrev pub key_in : List ℕ → Key → List ℕ → Option Key
key_in source (external name) path = Some (external name)
key_in source (at offset) path = if bytes_eq source path then Some (at offset) else None

-- the offsets of the tokens of a text that denote an entity of this key
abbrev pub places_in_text : Option Key → List Token → Option (List (Option Denotation)) → List ℕ
places_in_text None tokens denotes = []
places_in_text (Some key) tokens None = []
places_in_text (Some key) tokens (Some denotes) = places_of key tokens denotes

abbrev pub places_in_file : Meaning → Option Key → Option (List ℕ) → List ℕ
places_in_file meaning key None = []
places_in_file meaning key (Some bytes) = places_in_text key (lexed bytes).tokens (meaning (lexed bytes))

-- the places, in the file at a path, of an entity of the source with this key
abbrev pub places_at : Meaning → Files → List ℕ → Key → List ℕ → List ℕ
places_at meaning files source key path = places_in_file meaning (key_in source key path) (files path)

abbrev pub unspellable_in_text : List ℕ → List ℕ → Option Key → List Token → Option (List (Option Denotation)) → Option ℕ
unspellable_in_text bytes new None tokens denotes = None
unspellable_in_text bytes new (Some key) tokens None = None
unspellable_in_text bytes new (Some key) tokens (Some denotes) = first_unspellable bytes new key tokens denotes

abbrev pub unspellable_in_file : Meaning → List ℕ → Option Key → Option (List ℕ) → Option ℕ
unspellable_in_file meaning new key None = None
unspellable_in_file meaning new key (Some bytes) = unspellable_in_text bytes new key (lexed bytes).tokens (meaning (lexed bytes))

-- the first of those places at which the new name can't be spelled
abbrev pub unspellable_at : Meaning → Files → List ℕ → List ℕ → Key → List ℕ → Option ℕ
unspellable_at meaning files source new key path = unspellable_in_file meaning new (key_in source key path) (files path)

abbrev pub place_text : List ℕ → ℕ → List ℕ
place_text path offset = path ++ 58 ∷ decimal offset

abbrev pub unspellable : List ℕ → ℕ → Refused
unspellable path offset = record { status = 12; text = codes "spelling: " ++ place_text path offset }

-- the refusal of the first place, in the order of the paths, at which the new name can't be spelled
abbrev pub refusal_of_places : (List ℕ → Option ℕ) → List (List ℕ) → Option Refused
refusal_of_places first [] = None
refusal_of_places first (path ∷ paths) = option_or (option_map (unspellable path) (first path)) (refusal_of_places first paths)
