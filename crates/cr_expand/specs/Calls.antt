-- Calls of function-like macros among slots (C11 6.10.3p10, p11).
use Rattle.std.specs.Prelude.{◌≡◌, ℕ, zero, suc, ◌+◌, ◌-◌, ◌==◌, ◌&&◌, nat_le, slice_get, Bool, true, if◌then◌else◌, List, [], ◌∷◌, ◌++◌, length, drop, codes, Option, Some, None, ◌≤◌, ◌⊎◌}
use Rattle.std.specs.List.{All}
use Rattle.std.specs.Option.{option_and_then}
use Rattle.cr_expand.specs.declared.held.Held.{Held}
use Rattle.cr_expand.specs.declared.slot.Slot.{Slot}
use Rattle.cr_expand.specs.declared.slot.Slot.TheVariants as slot
use Rattle.cr_expand.specs.declared.closing.Search.{Search}
use Rattle.cr_expand.specs.declared.closing.Close.{Close}
use Rattle.cr_expand.specs.declared.closing.Close.TheVariants as close
use Rattle.cr_macros.specs.Tokens.{Text, Token, token_of, is_mark}
use Rattle.cr_macros.specs.Expansion.{to_close, parted}
use Rattle.cr_expand.specs.HideSets.{Sets}
use Rattle.cr_expand.specs.Held.{held, all_held, all_args}
use Rattle.cr_expand.specs.Slots.{tokens, ended}
use Rattle.cr_expand.specs.Wanted.{all_kept}

abbrev pub one_less : ℕ → Option ℕ
one_less zero = None
one_less (suc depth) = Some depth

-- how many `(` are open behind a token; none where it is the `)` that matches
abbrev pub nested : Token → ℕ → Option ℕ
nested t depth = if is_mark (codes ")") t then one_less depth else Some (if is_mark (codes "(") t then suc depth else depth)

-- a token with its text, from which nothing is hidden
abbrev pub shown : List Text → Held → Token
shown names h = token_of names [] h.token

-- how many `(` are open behind these tokens; none where a `)` among them matches no `(`
abbrev pub depth_after : List Text → List Held → ℕ → Option ℕ
depth_after names [] depth = Some depth
depth_after names (h ∷ hs) depth = option_and_then (λ d. depth_after names hs d) (nested (shown names h) depth)

-- The tokens are what stands between a `(` and its `)`.
abbrev pub IsInside : List Text → List Held → Held → Type 0
IsInside names inside closes = (depth_after names inside 0 ≡ Some 0) × (is_mark (codes ")") (shown names closes) ≡ true)

-- The first two slots are the call's name and `(`. Its `)` is at this place, with these tokens inside; or it is missing
-- before the first end; or there is no end and no `)`.
abbrev pub IsClosed : List Text → Sets → List Slot → Close → Type 0
IsClosed names sets slots (close.At n) =
    (a b : Slot) × (inside : List Held) × (end : Held) × (rest : List Slot)
    × (slots ≡ a ∷ b ∷ (tokens inside ++ slot.Token end ∷ rest)) × (n ≡ 2 + length inside)
    × ((ts : List Token) → to_close 0 (all_held names sets inside ++ held names sets end ∷ ts) ≡ Some (all_held names sets inside, held names sets end, ts))
    × IsInside names inside end
IsClosed names sets slots close.Missing =
    (a b : Slot) × (inside : List Held) × (rest : List Slot)
    × (slots ≡ a ∷ b ∷ (tokens inside ++ slot.End ∷ rest)) × (to_close 0 (all_held names sets inside) ≡ None)
IsClosed names sets slots close.NotYet =
    (a b : Slot) × (inside : List Held) × (slots ≡ a ∷ b ∷ tokens inside) × (to_close 0 (all_held names sets inside) ≡ None)

-- how many `(` are open behind a token; none where it is a comma that parts arguments, of which there may be n more
abbrev pub part_at : ℕ → ℕ → Token → Option ℕ
part_at n depth t =
    if is_mark (codes "(") t then Some (depth + 1)
    else if is_mark (codes ")") t then Some (depth - 1)
    else if is_mark (codes ",") t && depth == 0 && nat_le 1 n then None
    else Some depth

abbrev pub IsTokenAt : List Slot → ℕ → Type 0
IsTokenAt slots i = (h : Held) × (slice_get slots i ≡ Some (slot.Token h))

-- The first two slots are a call's name and `(`, and its last slot is at this place, behind tokens.
abbrev pub IsCallAt : List Slot → ℕ → Type 0
IsCallAt slots n = (a b end : Slot) × (inside : List Held) × (rest : List Slot) × (slots ≡ a ∷ b ∷ (tokens inside ++ end ∷ rest)) × (n ≡ 2 + length inside)

-- The token is one of these.
abbrev pub IsAmong : List Held → Held → Type 0
IsAmong inside h = (k : ℕ) × (slice_get inside k ≡ Some h)

-- a token's slot, or an end where the token is a comma that parts arguments, with what comes behind it
abbrev pub part_slot : Held → List Slot → (ℕ → List Slot) → Option ℕ → List Slot
part_slot h ends stays None = slot.End ∷ ends
part_slot h ends stays (Some depth) = slot.Token h ∷ stays depth

-- tokens as slots, with an end in the place of each comma that parts arguments, of which there are n at most
abbrev pub parted_slots : List Text → ℕ → ℕ → List Held → List Slot
parted_slots names n depth [] = []
parted_slots names n depth (h ∷ hs) =
    part_slot h (parted_slots names (n - 1) depth hs) (λ d. parted_slots names n d hs) (part_at n depth (shown names h))

-- The tokens inside are parted by n commas at most, and each list stands with its end.
abbrev pub ArePartedAt : List Text → ℕ → Slot → Slot → List Held → List Slot → List (List Held) → List Slot → Type 0
ArePartedAt names n a b inside rest lists slots =
    (slots ≡ a ∷ b ∷ (ended lists ++ rest)) × ((sets : Sets) → all_args names sets lists ≡ parted n 0 (all_held names sets inside)) × All (All (IsAmong inside)) lists × (length (ended lists) ≡ suc (length inside))
    × (ended lists ≡ parted_slots names n 0 inside ++ slot.End ∷ [])

-- They are parted, and of each list what is wanted is kept.
abbrev pub AreKeptAt : List Text → ℕ → (ℕ → Bool) → Slot → Slot → List Held → List Slot → List (List Held) → List Slot → Type 0
AreKeptAt names n whole a b inside rest lists slots =
    (all : List (List Held)) × ArePartedAt names n a b inside rest all slots × (lists ≡ all_kept whole 0 all)

-- The slots from a start up to a place are tokens, with this depth behind them.
abbrev pub IsFound : List Text → List Slot → ℕ → ℕ → ℕ → Type 0
IsFound names slots start i depth =
    (inside : List Held) × (rest : List Slot) × (drop start slots ≡ tokens inside ++ rest) × (start + length inside ≡ i) × (depth_after names inside 0 ≡ Some depth)

-- The search behind a call's name and `(` went so far that this is known; or nothing is.
abbrev pub IsSearched : List Text → List Slot → Search → Type 0
IsSearched names slots s = (s.depth ≤ s.at) × (((s.at ≡ 2) × (s.depth ≡ 0)) ⊎ IsFound names slots 2 s.at s.depth)

-- Of the slots from a start on, the `)` that no `(` among them matches is at this place; or it is missing before the first end;
-- or there is no end and no `)`.
abbrev pub IsEndAt : List Text → List Slot → ℕ → Close → Type 0
IsEndAt names slots start (close.At n) =
    (inside : List Held) × (closes : Held) × (rest : List Slot) × (drop start slots ≡ tokens inside ++ slot.Token closes ∷ rest) × (n ≡ start + length inside) × IsInside names inside closes
IsEndAt names slots start close.Missing =
    (inside : List Held) × (depth : ℕ) × (rest : List Slot) × (drop start slots ≡ tokens inside ++ slot.End ∷ rest) × (depth_after names inside 0 ≡ Some depth)
IsEndAt names slots start close.NotYet = (inside : List Held) × (depth : ℕ) × (drop start slots ≡ tokens inside) × (depth_after names inside 0 ≡ Some depth)
