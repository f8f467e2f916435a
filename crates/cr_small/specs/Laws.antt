-- The laws of a rename in texts of the small form.
use Rattle.std.specs.Prelude.{ℕ, ◌≡◌, ◌⊎◌, ◌<◌, true, false, List, length, slice_get, Option, Some, None, if◌then◌else◌}
use Rattle.std.specs.Option.{option_map}
use Rattle.cr_base.specs.Substitution.{Rise, shifted, substituted}
use Rattle.cr_lex.specs.Lexing.{Token, Lexed, lexed}
use Rattle.cr_small.specs.Terminals.{is_name}
use Rattle.cr_small.specs.Keys.{Key, external, at, key_of, is_key}
use Rattle.cr_small.specs.Renaming.{Target, target_at, places_of, first_unspellable, has_text}
use Rattle.cr_small.specs.SmallForm.{IsSmallForm, Resolves}
use Rattle.cr_small.specs.KeepsMeaning.{KeepsMeaning}
use Rattle.cr_small.specs.declared.binder.Denotation.{Denotation}

-- The name is that of the entity of a key: the key is that name with external linkage, or what stands at some offset
-- of the text has the name and the key.
abbrev pub IsNameOf : List ℕ → Key → List Token → List (Option Denotation) → Type 0
IsNameOf name key tokens denotes =
    (key ≡ external name) ⊎ ((offset : ℕ) × (target : Target) × (target_at offset tokens denotes ≡ Some target) × (target.name ≡ name) × (target.key ≡ key))

-- The places of an entity rise, each by the length of its name at least, up to the end of the text.
abbrev pub PlacesRise : Type 0
PlacesRise =
    (bytes name : List ℕ) (key : Key) (denotes : List (Option Denotation)) → IsSmallForm (lexed bytes) denotes → IsNameOf name key (lexed bytes).tokens denotes
    → Rise 0 (places_of key (lexed bytes).tokens denotes) (length name) (length bytes)

-- What stands at an offset has a place at least,
abbrev pub HasPlace : Type 0
HasPlace = (tokens : List Token) (denotes : List (Option Denotation)) (offset : ℕ) (target : Target) → target_at offset tokens denotes ≡ Some target → 0 < length (places_of target.key tokens denotes)

-- and where its key is that of external linkage, that has its name.
abbrev pub NamesItsKey : Type 0
NamesItsKey =
    (bytes name : List ℕ) (denotes : List (Option Denotation)) (offset : ℕ) (target : Target) → IsSmallForm (lexed bytes) denotes
    → target_at offset (lexed bytes).tokens denotes ≡ Some target → target.key ≡ external name → name ≡ target.name

-- Each token that denotes an entity is a name, and it is that of the entity.
abbrev pub HaveOneName : Type 0
HaveOneName =
    (bytes name : List ℕ) (key : Key) (denotes : List (Option Denotation)) → IsSmallForm (lexed bytes) denotes → IsNameOf name key (lexed bytes).tokens denotes
    → (i : ℕ) (t : Token) (d : Denotation) → slice_get (lexed bytes).tokens i ≡ Some t → slice_get denotes i ≡ Some (Some d) → key_of (lexed bytes).tokens d ≡ Some key
    → (t.text ≡ name) × (is_name name ≡ true)

-- Of each text it is decided what its tokens denote, or that it isn't of the small form.
abbrev pub Decided : Type 0
Decided = (meaning : Lexed → Option (List (Option Denotation))) × ((text : Lexed) → Resolves text (meaning text))

-- the text with the new name at the places of an entity
abbrev pub renamed : List ℕ → List ℕ → Key → List (Option Denotation) → List ℕ → List ℕ
renamed bytes name key denotes new = substituted (places_of key (lexed bytes).tokens denotes) (length name) new bytes

-- In a text of the small form each entity can be renamed to a name that none of the text's tokens has, and that can be
-- spelled at each of its places: the text with the new name there keeps the meaning, also where there is no such place.
abbrev pub RenamingKeepsMeaning : Type 0
RenamingKeepsMeaning =
    (bytes name new : List ℕ) (key : Key) (denotes : List (Option Denotation)) → IsSmallForm (lexed bytes) denotes → IsNameOf name key (lexed bytes).tokens denotes → is_name new ≡ true → has_text new (lexed bytes).tokens ≡ false
    → first_unspellable bytes new key (lexed bytes).tokens denotes ≡ None
    → (kept : KeepsMeaning (lexed bytes) (lexed (renamed bytes name key denotes new)) (places_of key (lexed bytes).tokens denotes) name new) × (kept.denotes ≡ denotes)

-- a key after the rename of another, or of itself
abbrev pub moved_key : Key → List ℕ → List ℕ → List ℕ → Key → Key
moved_key key places name new (external other) = if is_key key (external other) then external new else external other
moved_key key places name new (at offset) = at (shifted places (length name) (length new) offset)

-- After it each token denotes the entity of the moved key.
abbrev pub KeysMove : Type 0
KeysMove =
    (bytes name new : List ℕ) (key : Key) (denotes : List (Option Denotation)) → IsSmallForm (lexed bytes) denotes → IsNameOf name key (lexed bytes).tokens denotes → is_name new ≡ true → has_text new (lexed bytes).tokens ≡ false
    → first_unspellable bytes new key (lexed bytes).tokens denotes ≡ None
    → (i : ℕ) (d : Denotation) → slice_get denotes i ≡ Some (Some d)
    → key_of (lexed (renamed bytes name key denotes new)).tokens d ≡ option_map (moved_key key (places_of key (lexed bytes).tokens denotes) name new) (key_of (lexed bytes).tokens d)
