-- A turn of the machine, case by case.
use Rattle.std.proofs.Common.{◌≡◌, ℕ, suc, ◌+◌, ◌-◌, ◌<◌, ◌≤◌, Bool, true, false, List, [], ◌∷◌, ◌++◌, length, refl, sym, ap, subst, arith, length-append, Option, Some, None, inl, inr}
use Rattle.std.specs.Prelude.{slice_index_or}
use Rattle.std.proofs.lemmas.List.Elements.{All-head}
use Rattle.cr_macros.specs.declared.macros.Macro.{Macro}
use Rattle.cr_macros.specs.declared.fault.ExpandFault.{ExpandFault}
use Rattle.cr_expand.specs.declared.held.Held.{Held}
use Rattle.cr_expand.specs.declared.slot.Slot.{Slot}
use Rattle.cr_expand.specs.declared.slot.Slot.TheVariants as slot
use Rattle.cr_expand.specs.declared.machine.Machine.{Machine}
use Rattle.cr_expand.specs.declared.machine.ExpStep.{ExpStep}
use Rattle.cr_expand.specs.declared.machine.ExpStep.TheVariants as step
use Rattle.cr_expand.specs.declared.machine.TheConstants.{LIMIT}
use Rattle.cr_macros.specs.Tokens.{Text, Token, Work}
use Rattle.cr_macros.specs.Definition.{text_of}
use Rattle.cr_macros.specs.Expansion.{Use, use_of}
use Rattle.cr_macros.specs.Laws.{FollowsTheRules}
use Rattle.cr_macros.specs.MacroTables.{Macros, macro_named, macro_text, table_of}
use Rattle.cr_expand.specs.HideSets.{Sets, Grows}
use Rattle.cr_expand.specs.Held.{held, AreTables, IsKnown}
use Rattle.cr_expand.specs.Slots.{tokens, ended, begun, from_end, IsSlotKnown, AreSlotsKnown}
use Rattle.cr_expand.specs.Turns.{IsCallUse}
use Rattle.cr_expand.specs.Wanted.{is_wanted}
use Rattle.cr_expand.specs.Machines.{still, ahead, IsMachine, AreMacros, IsPut, IsAhead, BothFault, IsTurnStep, IsClosedAt, IsEntered, IsArgumentEnd, IsArgumentFault, IsSameRun}
use Rattle.cr_expand.proofs.Kept.{known_later, args_known_later}
use Rattle.cr_expand.proofs.Puttings.{no_memory_at_once}
use Rattle.cr_expand.proofs.Sets.{grows_same}
use Rattle.cr_expand.proofs.Going.{Outermost, expanding, seeking}
use Rattle.cr_expand.proofs.Steps.{same_sets, left_by}
use Rattle.cr_expand.proofs.Calling.{completes, complete_faults}
use Rattle.cr_expand.proofs.Arguments.{next_argument, enters, slots_are_known, raw_is_known, head_is_known}
use Rattle.cr_expand.proofs.Keeping.{slots_later, next_machine, complete_machine, enter_machine}

pub head_known : (names : List Text) (sets : Sets) (slots : List Slot) (h : Held) (rest : List Slot) → slots ≡ slot.Token h ∷ rest → AreSlotsKnown names sets slots → IsKnown names sets h
head_known names sets slots h rest e a = All-head (IsSlotKnown names sets) (slot.Token h) rest (subst (AreSlotsKnown names sets) e a)

pub closed_at : (names : List Text) (sets : Sets) (slots : List Slot) (more : List Token) (f : List Token → Use) (h : Held) (m : Macro) (count n : ℕ) → IsCallUse names sets slots more f h m count n → IsClosedAt slots n
closed_at names sets slots more f h m count n u = (slot.Token h, slot.Token u.opens, u.inside, u.closes, u.rest, u.slots_are, u.place)

-- what is put in with nothing before
pub put_from : (names new : List Text) (old now : Machine) (work : Work (List Token)) (rest rest2 : List Slot) → rest ≡ rest2 → IsPut names new old now work rest → IsPut names new old now work rest2
put_from names new old now work rest rest2 e p = subst (IsPut names new old now work) e p

pub is_more : (names new : List Text) (macros : Macros) (old now : Machine) (more : List Token) (s : ExpStep) → s ≡ step.More → IsAhead names new macros old now more step.More → IsTurnStep names new macros old now more (Some s)
is_more names new macros old now more s e u = subst (λ y. IsTurnStep names new macros old now more (Some y)) (sym e) (u.0, u)

from_end_short : (slots : List Slot) → length (from_end slots) ≤ length slots
from_end_short [] = omega arith
from_end_short (slot.Token h ∷ slots) = let r = from_end_short slots in omega (arith, r)
from_end_short (slot.End ∷ slots) = omega arith

begun_short : (b : Bool) (slots : List Slot) → length (begun b slots) ≤ length slots
begun_short true slots = omega arith
begun_short false slots = from_end_short slots

module _ (law : FollowsTheRules) (names new : List Text) (macros : Macros) (old now : Machine) (mach : IsMachine names macros old) (known : AreMacros names macros) (same : IsSameRun old now) (rest : List Slot) (e : old.slots.items ≡ slot.End ∷ rest) where
  ended_sets : (o : Option ExpStep) → IsArgumentEnd names new macros old now rest o → Grows old.sets now.sets
  ended_sets None (cs, c, f, m, n, s, a, b, u, x) = same_sets old.sets now.sets a
  ended_sets (Some s) (cs, c, f, m, n, p, q) = p.sets_grow

  pub ended_step : (more : List Token) (o : Option ExpStep) → IsArgumentEnd names new macros old now rest o → IsTurnStep names new macros old now more o
  ended_step more None (cs, c, f, m, n, s, a, b, u, x) = (goes (expanding law), b, goes seeking) where
    goes : {A : Type 0} (o : Outermost A) → left_by o.does names macros old more ≡ left_by o.does new macros now more
    goes o = next_argument names new macros old now more mach known (subst (Grows names) (sym x) (grows_same names)) (same_sets old.sets now.sets a) same.2 o law cs c rest e f m n s a u x
  ended_step more (Some s) (cs, c, f, m, n, p, q) =
      is_more names new macros old now more s q (completes names new macros old now more mach known p.names_grow p.sets_grow same.2 law cs c rest e f m n p)

  pub ended_machine : (o : Option ExpStep) → IsArgumentEnd names new macros old now rest o → IsMachine new macros now
  ended_machine None (cs, c, f, m, n, s, a, b, u, x) =
      next_machine names new macros old now mach known (subst (Grows names) (sym x) (grows_same names)) (same_sets old.sets now.sets a) same
      (subst (λ y. AreTables y now.sets) (sym x) (subst (AreTables names) (sym a) mach.tables)) cs c rest (slice_index_or c.wanted (length c.done + 1) false) e f m n s (subst (λ y. y ≤ LIMIT) (sym u) mach.limit)
  ended_machine (Some s) (cs, c, f, m, n, p, q) =
      complete_machine names new macros old now mach known p.names_grow p.sets_grow same p.tables cs c rest p.list e f m n p.slots p.known p.limit

  pub ended_smaller : (o : Option ExpStep) → IsArgumentEnd names new macros old now rest o → o ≡ None → length now.slots.items < length old.slots.items
  ended_smaller None (cs, c, f, m, n, s, a, b, u, x) z =
      let w = ap length s in let v = ap length e in let t = begun_short (slice_index_or c.wanted (length c.done + 1) false) rest in omega (arith, w, v, t)
  ended_smaller (Some s) k z = absurd (let q : ⊥ = cc in q)

  pub ended_fault : (more : List Token) (x : ExpandFault) → IsArgumentFault names macros old x → BothFault names macros old more x
  ended_fault more x f = elim f [
    | inl p ↦ rw p (no_memory_at_once (still names macros old more), no_memory_at_once (ahead names macros old more))
    | inr p ↦ complete_faults names names macros old old more mach known (grows_same names) (grows_same old.sets) refl law p.0 p.1 rest x e p.2 p.3 p.4
  ]

length_tokens : (hs : List Held) → length (tokens hs) ≡ length hs
length_tokens [] = refl
length_tokens (h ∷ hs) = ap suc (length_tokens hs)

pub entered_smaller : (names : List Text) (old now : Machine) (h : Held) (m : Macro) (more : List Token) (count n : ℕ) (f : List Token → Use) (u : IsCallUse names old.sets old.slots.items more f h m count n)
    → IsEntered names old now h m u.params u.inside u.closes u.rest → length now.slots.items < length old.slots.items
entered_smaller names old now h m more count n f u i =
    let a = ap length i.slots in
    let b = begun_short (is_wanted (macro_text names m) 0) (ended i.lists ++ u.rest) in
    let c = length-append (ended i.lists) u.rest in
    let d = i.size in
    let e = ap length u.slots_are in
    let g = length-append (tokens u.inside) (slot.Token u.closes ∷ u.rest) in
    let l = length_tokens u.inside in
    omega (arith, a, b, c, d, e, g, l)

pub entered_step : (names : List Text) (macros : Macros) (old now : Machine) (more : List Token) → IsMachine names macros old → AreMacros names macros → (law : FollowsTheRules) (h : Held) (m : Macro) (count n : ℕ)
    (u : IsCallUse names old.sets old.slots.items more (use_of (table_of names macros (text_of names old.file)) (held names old.sets h)) h m count n) → macro_named h.token.text macros ≡ Some m
    → IsEntered names old now h m u.params u.inside u.closes u.rest → now.file ≡ old.file → now.used ≡ old.used → now.notes.seen.items ≡ old.notes.seen.items → IsTurnStep names names macros old now more None
entered_step names macros old now more mach known law h m count n u looked i file w s = (goes (expanding law), s, goes seeking) where
  goes : {A : Type 0} (o : Outermost A) → left_by o.does names macros old more ≡ left_by o.does names macros now more
  goes o = enters names names macros old now more mach known (grows_same names) i.sets_grow file law h m count n u looked o i refl (ap (λ x. LIMIT - x) w)

pub entered_machine : (names : List Text) (macros : Macros) (old now : Machine) (mach : IsMachine names macros old) (known : AreMacros names macros) (same : IsSameRun old now) (law : FollowsTheRules) (h : Held) (m : Macro) (count n : ℕ)
    (u : IsCallUse names old.sets old.slots.items [] (use_of (table_of names macros (text_of names old.file)) (held names old.sets h)) h m count n) → macro_named h.token.text macros ≡ Some m
    → IsEntered names old now h m u.params u.inside u.closes u.rest → now.used ≡ old.used → IsMachine names macros now
entered_machine names macros old now mach known same law h m count n u looked i w =
    enter_machine names names macros old now mach known (grows_same names) i.sets_grow same i.tables h m u.params u.inside u.closes u.opens u.rest u.slots_are looked i
    (slots_later names names old.sets now.sets (grows_same names) i.sets_grow now.slots.items (slots_are_known names names macros old now [] mach known (grows_same names) i.sets_grow same.2 law h m count n u looked i))
    (args_known_later names names old.sets now.sets i.call.raw (grows_same names) i.sets_grow (raw_is_known names names macros old now [] mach known (grows_same names) i.sets_grow same.2 law h m count n u looked i))
    (known_later names names old.sets now.sets h (grows_same names) i.sets_grow (head_is_known names names macros old now [] mach known (grows_same names) i.sets_grow same.2 law h m count n u looked))
    refl (subst (λ y. y ≤ LIMIT) (sym w) mach.limit)
