-- Files with a new name in the place of an old one.
use Rattle.std.specs.Prelude.{ℕ, ◌≡◌, ◌+◌, ◌-◌, ◌<◌, ◌≤◌, ◌⊎◌, List, [], ◌∷◌, ◌++◌, length, take, drop, map, get_or, Option, if◌then◌else◌, nat_lt, bytes_eq}
use Rattle.std.specs.Option.{option_map}
use Rattle.std.specs.List.{Contains, filter}

-- an offset in the file at a path
pub record FilePlace : Type 0 where
  pub path : List ℕ
  pub offset : ℕ

-- The offsets rise from here to the end, each at least so many bytes behind the one before.
abbrev pub Rise : ℕ → List ℕ → ℕ → ℕ → Type 0
Rise from [] old_len end = from ≤ end
Rise from (offset ∷ offsets) old_len end = (from ≤ offset) × Rise (offset + old_len) offsets old_len end

-- The bytes, of which the first stands at an offset, with the new text in the place of so many bytes at
-- each of the offsets, which rise.
abbrev pub substituted_from : ℕ → List ℕ → ℕ → List ℕ → List ℕ → List ℕ
substituted_from from [] old_len new bytes = bytes
substituted_from from (offset ∷ offsets) old_len new bytes =
    take (offset - from) bytes ++ new ++ substituted_from (offset + old_len) offsets old_len new (drop (offset + old_len - from) bytes)

-- the bytes of a file with the new text in the place of so many bytes at each of the offsets
abbrev pub substituted : List ℕ → ℕ → List ℕ → List ℕ → List ℕ
substituted offsets old_len new bytes = substituted_from 0 offsets old_len new bytes

-- Where the byte at an offset stands afterwards: each place before it moves it by the difference of the lengths.
abbrev pub shifted : List ℕ → ℕ → ℕ → ℕ → ℕ
shifted [] old_len new_len at = at
shifted (offset ∷ offsets) old_len new_len at =
    if nat_lt offset at then shifted offsets old_len new_len at + new_len - old_len else shifted offsets old_len new_len at

-- the byte at an offset is none of those that are replaced
abbrev pub IsKept : List ℕ → ℕ → ℕ → Type 0
IsKept [] old_len at = Unit {0}
IsKept (offset ∷ offsets) old_len at = ((at < offset) ⊎ (offset + old_len ≤ at)) × IsKept offsets old_len at

-- Each byte that isn't replaced stands afterwards where it is shifted to, and at each place stands the new text.
abbrev pub ShiftsToBytes : Type 0
ShiftsToBytes =
    (offsets : List ℕ) (old_len : ℕ) (new bytes : List ℕ) → 0 < old_len → Rise 0 offsets old_len (length bytes)
    → ((at : ℕ) → at < length bytes → IsKept offsets old_len at
    → get_or (substituted offsets old_len new bytes) (shifted offsets old_len (length new) at) 0 ≡ get_or bytes at 0)
    × ((offset : ℕ) → Contains offsets offset
    → take (length new) (drop (shifted offsets old_len (length new) offset) (substituted offsets old_len new bytes)) ≡ new)

-- the offsets of the places in the file at a path
abbrev pub offsets_in : List ℕ → List FilePlace → List ℕ
offsets_in path places = map (λ p. p.offset) (filter (λ p. bytes_eq p.path path) places)

-- the files with the new name in the place of the old one at each place
abbrev pub substituted_files : List FilePlace → List ℕ → List ℕ → (List ℕ → Option (List ℕ)) → List ℕ → Option (List ℕ)
substituted_files places old new files path =
    option_map (substituted (offsets_in path places) (length old) new) (files path)
