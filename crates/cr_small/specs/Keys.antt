-- What tells the entities of a text apart, and those of several texts.
use Rattle.std.specs.Prelude.{ℕ, Bool, true, false, not, ◌&&◌, List, Option, ◌==◌, bytes_eq, slice_get}
use Rattle.std.specs.Option.{option_map}
use Rattle.cr_lex.specs.Lexing.{Token}
use Rattle.cr_small.specs.declared.binder.Denotation.{Denotation}

-- The key of an entity: its name where it has external linkage, and else the place of its first declaring token
-- (C11 6.2.2; by our own rule the same for all translation units).
pub data Key : Type 0 where
  external : List ℕ → Key
  at : ℕ → Key

-- what a token denotes has external linkage
abbrev pub has_external_linkage : Denotation → Bool
has_external_linkage d = d.linked && not d.internal

abbrev pub key_of_token : Bool → Token → Key
key_of_token true t = external t.text
key_of_token false t = at t.at

-- the key of what a token denotes
abbrev pub key_of : List Token → Denotation → Option Key
key_of tokens d = option_map (key_of_token (has_external_linkage d)) (slice_get tokens d.token)

-- the two keys are one
abbrev pub is_key : Key → Key → Bool
is_key (external name) (external other) = bytes_eq name other
is_key (external name) (at offset) = false
is_key (at offset) (external name) = false
is_key (at offset) (at other) = offset == other
