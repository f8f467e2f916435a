-- What comes next, by the head.
use Rattle.std.proofs.Common.{◌≡◌, ℕ, List, [], ◌∷◌, sym, ap, subst, ◌∙◌, Some, Bor, ◌<◌, ◌^◌}
use Rattle.cr_base.specs.declared.token.Place.{Place}
use Rattle.cr_macros.specs.declared.macros.Macro.{Macro}
use Rattle.cr_macros.specs.declared.words.Predefined.{Predefined as PredefinedMacro}
use Rattle.cr_expand.specs.declared.held.Held.{Held}
use Rattle.cr_expand.specs.declared.slot.Slot.{Slot}
use Rattle.cr_expand.specs.declared.slot.Slot.TheVariants as slot
use Rattle.cr_expand.specs.declared.turn.Turn.TheVariants as turn
use Rattle.cr_macros.specs.Tokens.{Text, Token, OpenCall}
use Rattle.cr_macros.specs.Expansion.{Use, Keep, Predefined, Object, Wrong, predefined_token, use_of}
use Rattle.cr_macros.specs.MacroTables.{Macros, macro_named, macro_text, table_of}
use Rattle.cr_expand.specs.HideSets.{Sets}
use Rattle.cr_expand.specs.Held.{held}
use Rattle.cr_expand.specs.Turns.{IsUsed, IsCallUse, IsNext}

module _ (names : List Text) (sets : Sets) (macros : Macros) (file : Text) (more : List Token) where
  abbrev use_at : Held → List Token → Use
  use_at h = use_of (table_of names macros file) (held names sets h)

  used_at : (slots : List Slot) (h x : Held) (u : Use) → h ≡ x → IsUsed names sets slots more (use_at x) h u → IsUsed names sets slots more (use_at h) h u
  used_at slots h x u e k = subst (λ y. IsUsed names sets slots more (use_at y) h u) (sym e) k

  pub next_stays : (slots : List Slot) (h : Held) → IsNext names sets macros file slots more (turn.Stays h) → IsUsed names sets slots more (use_at h) h Keep
  next_stays [] h k = absurd (let e = k.1 in let q : ⊥ = cc in q)
  next_stays (slot.End ∷ slots) h k = absurd (let e = k.1 in let q : ⊥ = cc in q)
  next_stays (slot.Token x ∷ slots) h k = used_at (slot.Token x ∷ slots) h x Keep k.1 k.0

  pub next_predefined : (slots : List Slot) (h : Held) (p : PredefinedMacro) → IsNext names sets macros file slots more (turn.Predefined h p)
      → IsUsed names sets slots more (use_at h) h (Predefined (predefined_token file h.token.line p).0 (predefined_token file h.token.line p).1)
  next_predefined [] h p k = absurd (let e = k.1 in let q : ⊥ = cc in q)
  next_predefined (slot.End ∷ slots) h p k = absurd (let e = k.1 in let q : ⊥ = cc in q)
  next_predefined (slot.Token x ∷ slots) h p k = used_at (slot.Token x ∷ slots) h x _ k.1 k.0

  pub next_object : (slots : List Slot) (h : Held) (m : Bor Macro) → IsNext names sets macros file slots more (turn.Object h m)
      → IsUsed names sets slots more (use_at h) h (Object (macro_text names m.now)) × (macro_named h.token.text macros ≡ Some m.now)
  next_object [] h m k = absurd (let e = k.1 in let q : ⊥ = cc in q)
  next_object (slot.End ∷ slots) h m k = absurd (let e = k.1 in let q : ⊥ = cc in q)
  next_object (slot.Token x ∷ slots) h m k = (used_at (slot.Token x ∷ slots) h x _ k.1.0 k.0, ap (λ y. macro_named y.token.text macros) k.1.0 ∙ k.1.1)

  pub next_call : (slots : List Slot) (h : Held) (m : Bor Macro) (count n : ℕ) → IsNext names sets macros file slots more (turn.Call h m count n)
      → IsCallUse names sets slots more (use_at h) h m.now count n × (macro_named h.token.text macros ≡ Some m.now) × (count < 2 ^ 63)
  next_call [] h m count n k = absurd (let e = k.slots_are in let q : ⊥ = cc in q)
  next_call (slot.End ∷ slots) h m count n k = absurd (let e = k.slots_are in let q : ⊥ = cc in q)
  next_call (slot.Token x ∷ slots) h m count n k =
      (subst (λ y. IsCallUse names sets (slot.Token x ∷ slots) more (use_at y) h m.now count n) (sym k.1.0) k.0, ap (λ y. macro_named y.token.text macros) k.1.0 ∙ k.1.1, k.1.2)

  pub next_end : (slots : List Slot) → IsNext names sets macros file slots more turn.ArgumentEnd → (rest : List Slot) × (slots ≡ slot.End ∷ rest)
  next_end [] k = k
  next_end (slot.End ∷ slots) k = k
  next_end (slot.Token x ∷ slots) k = absurd k.1

  pub next_unclosed : (slots : List Slot) (site : Place) → IsNext names sets macros file slots more (turn.Unclosed site) → (h : Held) × IsUsed names sets slots more (use_at h) h (Wrong (OpenCall site))
  next_unclosed [] site k = absurd (let e = k.1.1 in let q : ⊥ = cc in q)
  next_unclosed (slot.End ∷ slots) site k = absurd (let e = k.1.1 in let q : ⊥ = cc in q)
  next_unclosed (slot.Token x ∷ slots) site k =
      (k.0.0, used_at (slot.Token x ∷ slots) k.0.0 x _ (same x k.0.0 slots k.0.1.0 k.0.1.1) k.0.1) where
        same : (x h : Held) (ss rest : List Slot) → slot.Token x ∷ ss ≡ slot.Token h ∷ rest → h ≡ x
        same x h ss rest e = cc
