-- Where a token is wanted nothing else comes next.
use Rattle.std.proofs.Common.{◌≡◌, ◌<◌, ℕ, Bool, true, false, true≢false, List, [], ◌∷◌, ◌++◌, drop, refl, sym, ap, subst, ◌∙◌, arith, append-nil, inl, inr, Option, Some, None}
use Rattle.cr_macros.specs.declared.macros.Macro.{Macro}
use Rattle.cr_expand.specs.declared.closing.Close.TheVariants as close
use Rattle.cr_expand.specs.declared.held.Held.{Held}
use Rattle.cr_expand.specs.declared.machine.Machine.{Machine}
use Rattle.cr_expand.specs.declared.slot.Slot.{Slot}
use Rattle.cr_expand.specs.declared.slot.Slot.TheVariants as slot
use Rattle.cr_expand.specs.declared.turn.Turn.{Turn}
use Rattle.cr_expand.specs.declared.turn.Turn.TheVariants as turn
use Rattle.cr_macros.specs.Definition.{text_of}
use Rattle.cr_macros.specs.Substitution.{Args}
use Rattle.cr_macros.specs.Expansion.{Use, Table, counted_call, use_of}
use Rattle.cr_macros.specs.MacroTables.{Macros, macro_text, table_of}
use Rattle.cr_macros.specs.Tokens.{Text, Token, MacroText}
use Rattle.cr_expand.specs.Calls.{IsClosed}
use Rattle.cr_expand.specs.Held.{held}
use Rattle.cr_expand.specs.HideSets.{Sets}
use Rattle.cr_expand.specs.Machines.{total, IsMachine, WantsMore}
use Rattle.cr_expand.specs.Running.{current, is_open, opening, wants_more, needs_more}
use Rattle.cr_expand.specs.Slots.{pieces, tokens, ends}
use Rattle.cr_expand.specs.Turns.{list_of, IsUsed, IsCallUse, IsNext, IsWanting}

ends_behind : (hs : List Held) (rest : List Slot) → ends (tokens hs ++ rest) ≡ ends rest
ends_behind [] rest = refl
ends_behind (h ∷ hs) rest = ends_behind hs rest

-- a call without a `)` before an end has an end behind it
pub missing_ends : (names : List Text) (sets : Sets) (slots : List Slot) → IsClosed names sets slots close.Missing → 0 < ends slots
missing_ends names sets slots (a, b, inside, rest, e, c) = subst (λ ss. 0 < ends ss) (sym e) (by a b) where
  behind : 0 < ends (tokens inside ++ slot.End ∷ rest)
  behind = let h = ends_behind inside (slot.End ∷ rest) in omega (arith, h)

  by : (a b : Slot) → 0 < ends (a ∷ b ∷ (tokens inside ++ slot.End ∷ rest))
  by (slot.Token x) (slot.Token y) = behind
  by (slot.Token x) slot.End = omega (arith, behind)
  by slot.End (slot.Token y) = omega (arith, behind)
  by slot.End slot.End = omega (arith, behind)

counted_closes : (t : Token) (m : MacroText) (close : Token) (after1 : List Token) (args : Option Args) → is_open (counted_call t m close after1 args) ≡ false
counted_closes t m close after1 None = refl
counted_closes t m close after1 (Some args) = refl

abbrev pub is_hungry : Turn → Bool
is_hungry turn.Hungry = true
is_hungry _ = false

-- a use that is no open call, whatever comes behind, wants nothing
settled : (names : List Text) (sets : Sets) (rest : List Slot) (use_before : List Token → Use) (u : Use) (t : Token) → is_open u ≡ false → ends rest ≡ 0 → ((more : List Token) → use_before (list_of names sets rest more) ≡ u)
    → wants_more use_before t (list_of names sets rest []) ≡ true → ⊥
settled names sets [] use_before u t closed e all w = true≢false (sym w ∙ ap is_open (all (opening t ∷ [])) ∙ closed)
settled names sets (slot.Token x ∷ rest) use_before u t closed e all w = true≢false (sym w ∙ ap is_open (all []) ∙ closed)
settled names sets (slot.End ∷ rest) use_before u t closed e all w = absurd (omega (arith, e))

module _ (names : List Text) (sets : Sets) (macros : Macros) (file : Text) where
  abbrev table : Table
  table = table_of names macros file

  -- the use of the head, which stands before this rest
  used : (h : Held) (rest : List Slot) (x : Held) (u : Use) (more : List Token) → IsUsed names sets (slot.Token h ∷ rest) more (use_of table (held names sets h)) x u → use_of table (held names sets h) (list_of names sets rest more) ≡ u
  used h rest x u more (r, e, k) = ap (λ ss. use_of table (held names sets h) (list_of names sets ss more)) (ap (drop 1) e) ∙ k

  called : (h x : Held) (rest : List Slot) (m : Macro) (count n : ℕ) → IsCallUse names sets (slot.Token h ∷ rest) [] (use_of table (held names sets h)) x m count n
      → wants_more (use_of table (held names sets h)) (held names sets h) (list_of names sets rest []) ≡ true → ⊥
  called h x rest m count n k w =
      let now = subst (λ ss. wants_more (use_of table (held names sets h)) (held names sets h) (list_of names sets ss []) ≡ true) (ap (drop 1) k.slots_are) w in
      true≢false (sym now ∙ ap is_open k.used ∙ counted_closes (held names sets x) (macro_text names m) (held names sets k.closes) (list_of names sets k.rest []) _)

  wanted : (h : Held) (ss : List Slot) → needs_more table (current (pieces names sets (slot.Token h ∷ ss))) ≡ true → wants_more (use_of table (held names sets h)) (held names sets h) (list_of names sets ss []) ≡ true
  wanted h ss w = ap (λ ps. wants_more (use_of table (held names sets h)) (held names sets h) (current ps)) (append-nil (pieces names sets ss)) ∙ w

  -- where a token is wanted, nothing else comes next
  no_other : (finished : Bool) (slots : List Slot) (t : Turn) → ((more : List Token) → (finished ≡ true → more ≡ []) → IsNext names sets macros file slots more t) → IsWanting names sets finished slots (λ x. use_of table (held names sets x)) t
      → finished ≡ false → ends slots ≡ 0 → needs_more table (current (pieces names sets slots)) ≡ true → is_hungry t ≡ false → ⊥
  no_other finished slots t next wanting f e w other = by slots t (λ more. next more (λ g. absurd (true≢false (sym g ∙ f)))) wanting e w other where
    by : (slots : List Slot) (t : Turn) → ((more : List Token) → IsNext names sets macros file slots more t) → IsWanting names sets finished slots (λ x. use_of table (held names sets x)) t
        → ends slots ≡ 0 → needs_more table (current (pieces names sets slots)) ≡ true → is_hungry t ≡ false → ⊥
    by slots turn.Hungry next wanting e w other = true≢false other
    by [] turn.End next wanting e w other = true≢false (sym wanting ∙ f)
    by [] turn.ArgumentEnd next wanting e w other = let k = (next []).1 in let no : ⊥ = cc in no
    by [] (turn.Stays x) next wanting e w other = let k = (next []).1 in let no : ⊥ = cc in no
    by [] (turn.Predefined x p) next wanting e w other = let k = (next []).1 in let no : ⊥ = cc in no
    by [] (turn.Object x m) next wanting e w other = let k = (next []).1 in let no : ⊥ = cc in no
    by [] (turn.Call x m count n) next wanting e w other = let k = (next []).slots_are in let no : ⊥ = cc in no
    by [] (turn.Unclosed site) next (inl g) e w other = true≢false (sym g ∙ f)
    by [] (turn.Unclosed site) next (inr g) e w other = absurd (omega (arith, g))
    by (slot.End ∷ ss) t next wanting e w other = absurd (omega (arith, e))
    by (slot.Token h ∷ ss) turn.End next wanting e w other = true≢false (sym wanting ∙ f)
    by (slot.Token h ∷ ss) turn.ArgumentEnd next wanting e w other = absurd (next []).1
    by (slot.Token h ∷ ss) (turn.Stays x) next wanting e w other = settled names sets ss (use_of table (held names sets h)) _ (held names sets h) refl e (λ more. used h ss x _ more (next more).0) (wanted h ss w)
    by (slot.Token h ∷ ss) (turn.Predefined x p) next wanting e w other = settled names sets ss (use_of table (held names sets h)) _ (held names sets h) refl e (λ more. used h ss x _ more (next more).0) (wanted h ss w)
    by (slot.Token h ∷ ss) (turn.Object x m) next wanting e w other = settled names sets ss (use_of table (held names sets h)) _ (held names sets h) refl e (λ more. used h ss x _ more (next more).0) (wanted h ss w)
    by (slot.Token h ∷ ss) (turn.Call x m count n) next wanting e w other = called h x ss m.now count n (next []).0 (wanted h ss w)
    by (slot.Token h ∷ ss) (turn.Unclosed site) next (inl g) e w other = true≢false (sym g ∙ f)
    by (slot.Token h ∷ ss) (turn.Unclosed site) next (inr g) e w other = absurd (omega (arith, e, g))

-- the same of a machine
pub only_hungry : (names : List Text) (macros : Macros) (m : Machine) (t : Turn) → IsMachine names macros m
    → ((more : List Token) → (m.finished ≡ true → more ≡ []) → IsNext names m.sets macros (text_of names m.file) m.slots.items more t)
    → IsWanting names m.sets m.finished m.slots.items (λ x. use_of (table_of names macros (text_of names m.file)) (held names m.sets x)) t
    → WantsMore names macros m → is_hungry t ≡ false → ⊥
only_hungry names macros m t k next wanting w other = no_other names m.sets macros (text_of names m.file) m.finished m.slots.items t next wanting w.0 (k.ends ∙ ap total w.1) w.2 other
