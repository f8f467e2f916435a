-- What comes next in an expansion, with names and hide sets by number.
use Rattle.std.specs.Prelude.{◌≡◌, ◌⊎◌, ℕ, ◌+◌, ◌<◌, ◌^◌, Bool, true, false, List, [], ◌∷◌, ◌++◌, length, map, Some}
use Rattle.cr_base.specs.declared.token.Name.{Name}
use Rattle.cr_macros.specs.declared.macros.Macro.{Macro}
use Rattle.cr_expand.specs.declared.held.Held.{Held}
use Rattle.cr_expand.specs.declared.slot.Slot.{Slot}
use Rattle.cr_expand.specs.declared.slot.Slot.TheVariants as slot
use Rattle.cr_expand.specs.declared.turn.Turn.{Turn}
use Rattle.cr_expand.specs.declared.turn.Turn.TheVariants as turn
use Rattle.cr_macros.specs.Tokens.{Text, Token, OpenCall}
use Rattle.cr_macros.specs.Expansion.{Use, Keep, Predefined, Object, Wrong, predefined_token, arguments, counted_call, use_of}
use Rattle.cr_macros.specs.Definition.{text_of}
use Rattle.cr_macros.specs.MacroTables.{Macros, macro_named, macro_text, table_of}
use Rattle.cr_expand.specs.HideSets.{Sets}
use Rattle.cr_expand.specs.Held.{held, all_held}
use Rattle.cr_expand.specs.Slots.{pieces, tokens, ends}
use Rattle.cr_expand.specs.Calls.{IsInside}
use Rattle.cr_expand.specs.Running.{current, before, wants_more}

-- the list that slots begin with, where more comes behind them
abbrev pub list_of : List Text → Sets → List Slot → List Token → List Token
list_of names sets slots more = current (pieces names sets slots ++ before more [])

-- The head is used so. What it means is a function of the list that is behind it.
abbrev pub IsUsed : List Text → Sets → List Slot → List Token → (List Token → Use) → Held → Use → Type 0
IsUsed names sets slots more use_before h u = (rest : List Slot) × (slots ≡ slot.Token h ∷ rest) × (use_before (list_of names sets rest more) ≡ u)

-- A call whose `)` is in slot n.
pub record IsCallUse (names : List Text) (sets : Sets) (slots : List Slot) (more : List Token) (use_before : List Token → Use) (h : Held) (m : Macro) (count n : ℕ) : Type 0 where
  pub params : List Name
  pub opens : Held
  pub inside : List Held
  pub closes : Held
  pub rest : List Slot
  pub macro_params : m.params ≡ Some params
  pub counts : count ≡ length params
  pub slots_are : slots ≡ slot.Token h ∷ slot.Token opens ∷ (tokens inside ++ slot.Token closes ∷ rest)
  pub place : n ≡ 2 + length inside
  pub within : IsInside names inside closes
  pub used : use_before (list_of names sets (slot.Token opens ∷ (tokens inside ++ slot.Token closes ∷ rest)) more)
      ≡ counted_call (held names sets h) (macro_text names m) (held names sets closes) (list_of names sets rest more) (arguments (map (text_of names) params) m.variadic (all_held names sets inside))

-- What comes next, where more comes behind the slots.
abbrev pub IsTurn : List Text → Sets → Text → List Slot → List Token → (List Token → Use) → Turn → Type 0
IsTurn names sets file slots more use_before turn.End = slots ≡ []
IsTurn names sets file slots more use_before turn.Hungry = Unit {0}
IsTurn names sets file slots more use_before turn.ArgumentEnd = (rest : List Slot) × (slots ≡ slot.End ∷ rest)
IsTurn names sets file slots more use_before (turn.Stays h) = IsUsed names sets slots more use_before h Keep
IsTurn names sets file slots more use_before (turn.Predefined h p) =
    IsUsed names sets slots more use_before h (let given = predefined_token file h.token.line p in Predefined given.0 given.1)
IsTurn names sets file slots more use_before (turn.Object h m) = IsUsed names sets slots more use_before h (Object (macro_text names m.now))
IsTurn names sets file slots more use_before (turn.Call h m count n) = IsCallUse names sets slots more use_before h m.now count n
IsTurn names sets file slots more use_before (turn.Unclosed site) = (h : Held) × IsUsed names sets slots more use_before h (Wrong (OpenCall site))

-- The token is at the head, and the macro is the one of its name. Its parameters are no more than memory holds.
abbrev pub IsTurnOf : Macros → Held → Turn → Type 0
IsTurnOf macros head turn.End = ⊥
IsTurnOf macros head turn.Hungry = Unit {0}
IsTurnOf macros head turn.ArgumentEnd = ⊥
IsTurnOf macros head (turn.Stays h) = h ≡ head
IsTurnOf macros head (turn.Predefined h p) = h ≡ head
IsTurnOf macros head (turn.Object h m) = (h ≡ head) × (macro_named head.token.text macros ≡ Some m.now)
IsTurnOf macros head (turn.Call h m count n) = (h ≡ head) × (macro_named head.token.text macros ≡ Some m.now) × (count < 2 ^ 63)
IsTurnOf macros head (turn.Unclosed site) = Unit {0}

-- What comes next by the use of the head.
abbrev pub IsNext : List Text → Sets → Macros → Text → List Slot → List Token → Turn → Type 0
IsNext names sets macros file [] more t = IsTurn names sets file [] more (λ ts. Keep) t
IsNext names sets macros file (slot.End ∷ slots) more t = IsTurn names sets file (slot.End ∷ slots) more (λ ts. Keep) t
IsNext names sets macros file (slot.Token h ∷ slots) more t =
    IsTurn names sets file (slot.Token h ∷ slots) more (use_of (table_of names macros file) (held names sets h)) t × IsTurnOf macros h t

-- More tokens are wanted only where more may come, where nothing is parted, and where the head's use can't be told without
-- them; the end is only where no more come, and a call is open only there or before the end of a part.
abbrev pub IsWanting : List Text → Sets → Bool → List Slot → (Held → List Token → Use) → Turn → Type 0
IsWanting names sets finished [] use_at turn.Hungry = finished ≡ false
IsWanting names sets finished (slot.End ∷ slots) use_at turn.Hungry = ⊥
IsWanting names sets finished (slot.Token h ∷ slots) use_at turn.Hungry =
    (finished ≡ false) × (ends slots ≡ 0) × (wants_more (use_at h) (held names sets h) (list_of names sets slots []) ≡ true)
IsWanting names sets finished slots use_at turn.End = finished ≡ true
IsWanting names sets finished slots use_at turn.ArgumentEnd = Unit {0}
IsWanting names sets finished slots use_at (turn.Stays h) = Unit {0}
IsWanting names sets finished slots use_at (turn.Predefined h p) = Unit {0}
IsWanting names sets finished slots use_at (turn.Object h m) = Unit {0}
IsWanting names sets finished slots use_at (turn.Call h m count n) = Unit {0}
IsWanting names sets finished slots use_at (turn.Unclosed site) = (finished ≡ true) ⊎ (0 < ends slots)
