-- Groups of parentheses among slots, of which it is known where they end.
use Rattle.std.specs.Prelude.{◌≡◌, ℕ, ◌+◌, ◌-◌, min, Bool, true, false, List, [], ◌∷◌, ◌++◌, length, drop, replicate, codes, Option, Some, None, ◌⊎◌}
use Rattle.cr_expand.specs.declared.held.Held.{Held}
use Rattle.cr_expand.specs.declared.slot.Slot.{Slot}
use Rattle.cr_expand.specs.declared.slot.Slot.TheVariants as slot
use Rattle.cr_macros.specs.Tokens.{Text, is_mark}
use Rattle.cr_expand.specs.Slots.{tokens}
use Rattle.cr_expand.specs.Calls.{shown, IsInside}

-- the slot is a `(`
abbrev pub opens : List Text → Option Slot → Bool
opens names None = false
opens names (Some slot.End) = false
opens names (Some (slot.Token h)) = is_mark (codes "(") (shown names h)

-- The slots behind a `(` begin with the rest of its group, whose `)` is this far behind it.
abbrev pub IsGroup : List Text → List Slot → ℕ → Type 0
IsGroup names slots span =
    (inside : List Held) × (closes : Held) × (rest : List Slot) × (slots ≡ tokens inside ++ slot.Token closes ∷ rest) × (span ≡ 1 + length inside) × IsInside names inside closes

-- Where the slot before these slots is a `(`, its `)` is this far behind it, or that isn't known.
abbrev pub IsSpan : List Text → List Slot → ℕ → Slot → Type 0
IsSpan names slots span slot.End = Unit {0}
IsSpan names slots span (slot.Token h) = is_mark (codes "(") (shown names h) ≡ true → (span ≡ 0) ⊎ IsGroup names slots span

-- So it is at each slot that has a number.
abbrev pub AreGroups : List Text → List Slot → List ℕ → Type 0
AreGroups names [] groups = Unit {0}
AreGroups names (s ∷ slots) [] = Unit {0}
AreGroups names (s ∷ slots) (g ∷ groups) = IsSpan names slots g s × AreGroups names slots groups

-- Each slot has one.
abbrev pub AreNoted : List Text → List Slot → List ℕ → Type 0
AreNoted names slots groups = (length groups ≡ length slots) × AreGroups names slots groups

-- A slot is a `(`, and its `)` is this far behind it; or that isn't known.
abbrev pub IsSpanAt : List Text → List Slot → ℕ → ℕ → Type 0
IsSpanAt names slots i span =
    (span ≡ 0) ⊎ ((opens : Held) × (rest : List Slot) × (drop i slots ≡ slot.Token opens ∷ rest) × (is_mark (codes "(") (shown names opens) ≡ true) × IsGroup names rest span)

-- the numbers after a step that left so many slots, where the first slot is used and nothing is known of what was put in
abbrev pub moved : List ℕ → ℕ → ℕ → List ℕ
moved groups before now = let kept = min (before - 1) now in replicate (now - kept) 0 ++ drop (before - kept) groups

-- What is known before a step stays known of the slots that it leaves.
pub record Leaves (names new : List Text) (old now : List Slot) : Type 0 where
  pub at : (groups : List ℕ) → AreNoted names old groups → AreNoted new now (moved groups (length old) (length now))
