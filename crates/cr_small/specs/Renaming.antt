-- A rename in a text of the small form: what stands at an offset, and where its entity stands.
use Rattle.std.specs.Prelude.{ℕ, Bool, false, ◌&&◌, List, [], ◌∷◌, map, Option, Some, None, if◌then◌else◌, nat_le, nat_lt, bytes_eq}
use Rattle.std.specs.List.{list_any, filter, zip}
use Rattle.std.specs.Option.{option_map}
use Rattle.cr_lex.specs.Lexing.{Token}
use Rattle.cr_lex.specs.Renaming.{is_refused}
use Rattle.cr_small.specs.Keys.{Key, key_of, is_key}
use Rattle.cr_small.specs.declared.binder.Denotation.{Denotation}

-- some token is spelled so
abbrev pub has_text : List ℕ → List Token → Bool
has_text text tokens = list_any (λ t. bytes_eq t.text text) tokens

-- the byte at this offset is one of the token's, or of a joined line inside it
abbrev pub covers : ℕ → Token → Bool
covers offset token = nat_le token.at offset && nat_lt offset token.end

-- what stands at an offset: a name, the key of the entity that it denotes, and whether that is declared at file scope
pub record Target : Type 0 where
  pub name : List ℕ
  pub key : Key
  pub at_file_scope : Bool

abbrev pub target_of : List Token → Token → Option Denotation → Option Target
target_of tokens token None = None
target_of tokens token (Some d) = option_map (λ key. record { name = token.text; key = key; at_file_scope = d.linked }) (key_of tokens d)

abbrev pub target_among : List Token → ℕ → List (Token × Option Denotation) → Option Target
target_among tokens offset [] = None
target_among tokens offset (one ∷ rest) = if covers offset one.0 then target_of tokens one.0 one.1 else target_among tokens offset rest

-- what stands at an offset of the text, if it is a name
abbrev pub target_at : ℕ → List Token → List (Option Denotation) → Option Target
target_at offset tokens denotes = target_among tokens offset (zip tokens denotes)

abbrev pub has_key : Key → Option Key → Bool
has_key key None = false
has_key key (Some other) = is_key key other

-- a token that denotes this denotes an entity of this key
abbrev pub denotes_key : List Token → Key → Option Denotation → Bool
denotes_key tokens key None = false
denotes_key tokens key (Some d) = has_key key (key_of tokens d)

abbrev pub places_among : List Token → Key → List (Token × Option Denotation) → List ℕ
places_among tokens key pairs = map (λ one. one.0.at) (filter (λ one. denotes_key tokens key one.1) pairs)

-- the offsets of the tokens that denote an entity of this key
abbrev pub places_of : Key → List Token → List (Option Denotation) → List ℕ
places_of key tokens denotes = places_among tokens key (zip tokens denotes)

abbrev pub unspellable_among : List ℕ → List ℕ → List Token → Key → List (Token × Option Denotation) → Option ℕ
unspellable_among bytes new tokens key [] = None
unspellable_among bytes new tokens key (one ∷ rest) =
    if denotes_key tokens key one.1 && is_refused bytes new one.0 then Some one.0.at else unspellable_among bytes new tokens key rest

-- the first place of an entity of this key at which the new name can't be spelled, in a text of these bytes
abbrev pub first_unspellable : List ℕ → List ℕ → Key → List Token → List (Option Denotation) → Option ℕ
first_unspellable bytes new key tokens denotes = unspellable_among bytes new tokens key (zip tokens denotes)
