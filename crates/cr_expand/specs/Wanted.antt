-- Which arguments of a call are wanted, and in what number (C11 6.10.3p4).
use Rattle.std.specs.Prelude.{ℕ, ◌+◌, Bool, true, false, not, ◌||◌, ◌==◌, if◌then◌else◌, List, [], ◌∷◌, ◌++◌, length, slice_index_or, Option, Some, None}
use Rattle.std.specs.List.{list_any}
use Rattle.cr_expand.specs.declared.held.Held.{Held}
use Rattle.cr_macros.specs.Tokens.{MacroText}
use Rattle.cr_macros.specs.Substitution.{Item, Stays, Spelt, Bare, Full, CommaRest, Paste, body_items, is_full, is_use}
use Rattle.cr_expand.specs.declared.wanted.Needs.{Needs}

-- the macro's body takes argument i expanded
abbrev pub is_wanted : MacroText → ℕ → Bool
is_wanted m i = list_any (is_full i) (body_items m)

-- the item takes argument i as it is
abbrev pub is_as_is : ℕ → Item → Bool
is_as_is i (Full t j) = false
is_as_is i (CommaRest c v j) = false
is_as_is i (Stays t) = false
is_as_is i (Spelt t j) = i == j
is_as_is i (Bare t j) = i == j
is_as_is i Paste = false

-- All tokens of argument i are needed as they are: the macro's body takes it so, or no copy of it is used, and its tokens
-- are noted. Of another the first is enough, which tells that it isn't empty.
abbrev pub is_whole : MacroText → ℕ → Bool
is_whole m i = list_any (is_as_is i) (body_items m) || not (list_any (is_use i) (body_items m))

-- the same by what is marked
abbrev pub is_marked_whole : Needs → ℕ → Bool
is_marked_whole needs i = slice_index_or needs.as_is.items i false || not (slice_index_or needs.used.items i false)

-- a list, or only its first
abbrev pub kept : {A : Type 0} → Bool → List A → List A
kept true list = list
kept false [] = []
kept false (a ∷ list) = a ∷ []

-- each list from number i on, whole or only its first
abbrev pub all_kept : {A : Type 0} → (ℕ → Bool) → ℕ → List (List A) → List (List A)
all_kept whole i [] = []
all_kept whole i (list ∷ lists) = kept (whole i) list ∷ all_kept whole (i + 1) lists

-- one more, where the list is kept whole or has none
abbrev pub kept_more : {A : Type 0} → Bool → List A → A → List A
kept_more true list a = list ++ a ∷ []
kept_more false [] a = a ∷ []
kept_more false (b ∷ list) a = b ∷ list

abbrev pub is_one_empty : List (List Held) → Bool
is_one_empty ([] ∷ []) = true
is_one_empty _ = false

-- the arguments that these lists are, if their number is right
abbrev pub counted : ℕ → Bool → List (List Held) → Option (List (List Held))
counted count true lists =
    if length lists == count + 1 then Some lists else if length lists == count then Some (lists ++ [] ∷ []) else None
counted count false lists =
    if count == 0 then (if is_one_empty lists then Some [] else None)
    else if length lists == count then Some lists else None
