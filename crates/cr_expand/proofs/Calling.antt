-- Steps of the machine that put in, enter a call or end an argument.
use Rattle.std.proofs.Common.{◌≡◌, ◌+◌, ◌-◌, ◌<◌, Bool, true, false, List, [], ◌∷◌, ◌++◌, length, refl, sym, ap, subst, ◌∙◌, arith, append_assoc, append-nil, inl, inr}
use Rattle.std.specs.List.{All}
use Rattle.std.proofs.lemmas.List.{map-append}
use Rattle.std.proofs.lemmas.List.Elements.{All-head, All-tail, All-weaker, All-nil, All-cons, All-append, All-get_or}
use Rattle.std.proofs.lemmas.Option.{get_or_from_slice_get, slice_get_within}
use Rattle.cr_macros.specs.declared.macros.Macro.{Macro}
use Rattle.cr_macros.specs.declared.fault.ExpandFault.{ExpandFault}
use Rattle.cr_expand.specs.declared.held.Held.{Held}
use Rattle.cr_expand.specs.declared.slot.Slot.{Slot}
use Rattle.cr_expand.specs.declared.slot.Slot.TheVariants as slot
use Rattle.cr_expand.specs.declared.machine.Machine.{Machine}
use Rattle.cr_expand.specs.declared.machine.ExpStep.TheVariants as step
use Rattle.cr_expand.specs.declared.machine.TheConstants.{LIMIT}
use Rattle.cr_macros.specs.Tokens.{Text, Token, Work, after, then_do, ◌>>=◌, with_name}
use Rattle.cr_macros.specs.Definition.{text_of}
use Rattle.cr_macros.specs.Expansion.{Table, Object, use_of}
use Rattle.cr_macros.specs.Laws.{FollowsTheRules}
use Rattle.cr_macros.specs.MacroTables.{Macros, macro_named, macro_text, table_of}
use Rattle.cr_expand.specs.HideSets.{Sets, Grows}
use Rattle.cr_expand.specs.Held.{held, all_held, all_args, hidden, IsKnown, AreKnown, Faults}
use Rattle.cr_expand.specs.Frames as frames
use Rattle.cr_expand.specs.Running.{Waiting, Stands, Ends, current, behind, before, first_lists, behind_lists, goes_on_by, goes_on, put_for}
use Rattle.cr_expand.specs.Ahead.{next_token}
use Rattle.cr_expand.specs.Slots.{tokens, ended, ends, begun, IsSlotKnown, AreSlotsKnown}
use Rattle.cr_expand.specs.Calls.{IsAmong}
use Rattle.cr_expand.specs.Machines.{means_of, waiting_of, waiting, total, still, ahead, IsCallHeld, IsMachine, AreMacros, IsAhead, FaultsAtOnce, BothFault, IsPut, AreArguments, done_call, put_for_call}
use Rattle.cr_expand.proofs.Puttings.{put_for_at_once, at_once_first}
use Rattle.cr_expand.proofs.Going.{current_before, behind_before, IsDropped, leads_none, goes_object, goes_last, Outermost, expanding, seeking}
use Rattle.cr_expand.proofs.Entering.{AreArguments as AreTextArguments}
use Rattle.cr_expand.proofs.Steps.{all_front, front, front_tokens, left_by, left_old, left_now, waiting_kept, front_kept, front_old, rest_known, calls_old, calls_held}

-- the lists that stand with their ends
pub lists_front : (names : List Text) (sets : Sets) (lists : List (List Held)) (rest : List Slot) (more : List Token)
    → (first_lists (length lists) (front names sets (ended lists ++ rest) more) ≡ all_args names sets lists) × (behind_lists (length lists) (front names sets (ended lists ++ rest) more) ≡ front names sets rest more)
lists_front names sets [] rest more = (refl, refl)
lists_front names sets (l ∷ lists) rest more =
    let r = lists_front names sets lists rest more in
    let e : front names sets (ended (l ∷ lists) ++ rest) more ≡ before (all_held names sets l) (Ends ∷ front names sets (ended lists ++ rest) more) =
    ap (λ s. front names sets s more) (append_assoc (tokens l) (slot.End ∷ ended lists) rest) ∙ front_tokens names sets l (slot.End ∷ (ended lists ++ rest)) more in
    let b : behind (front names sets (ended (l ∷ lists) ++ rest) more) ≡ front names sets (ended lists ++ rest) more = ap behind e ∙ behind_before (all_held names sets l) (Ends ∷ front names sets (ended lists ++ rest) more) in (
      ap (λ c. c ∷ first_lists (length lists) (behind (front names sets (ended (l ∷ lists) ++ rest) more))) (ap current e ∙ current_before (all_held names sets l) (Ends ∷ front names sets (ended lists ++ rest) more) ∙ append-nil (all_held names sets l))
          ∙ ap (λ p. all_held names sets l ∷ first_lists (length lists) p) b ∙ ap (λ a. all_held names sets l ∷ a) r.0,
      ap (behind_lists (length lists)) b ∙ r.1,
    )

-- a list that isn't wanted is dropped
pub front_begun : (names : List Text) (sets : Sets) (more : List Token) (b : Bool) (slots : List Slot) → 0 < ends slots → IsDropped b (front names sets slots more) (front names sets (begun b slots) more)
front_begun names sets more true slots h = refl
front_begun names sets more false [] h = absurd (omega arith)
front_begun names sets more false (slot.Token t ∷ slots) h = front_begun names sets more false slots h
front_begun names sets more false (slot.End ∷ slots) h = refl

ends_append : (xs ys : List Slot) → ends (xs ++ ys) ≡ ends xs + ends ys
ends_append [] ys = omega arith
ends_append (slot.Token h ∷ xs) ys = ends_append xs ys
ends_append (slot.End ∷ xs) ys = let r = ends_append xs ys in omega (arith, r)

ends_tokens : (hs : List Held) → ends (tokens hs) ≡ 0
ends_tokens [] = refl
ends_tokens (h ∷ hs) = ends_tokens hs

ends_ended : (lists : List (List Held)) → ends (ended lists) ≡ length lists
ends_ended [] = refl
ends_ended (l ∷ lists) = let a = ends_append (tokens l) (slot.End ∷ ended lists) in let t = ends_tokens l in let r = ends_ended lists in omega (arith, a, t, r)

total_append : (xs ys : List frames.Call) → total (xs ++ ys) ≡ total xs + total ys
total_append [] ys = omega arith
total_append (x ∷ xs) ys = let r = total_append xs ys in omega (arith, r)

pub total_last : (xs : List frames.Call) (x : frames.Call) → total (xs ++ x ∷ []) ≡ total xs + (1 + x.more)
total_last xs x = let r = total_append xs (x ∷ []) in omega (arith, r)

pub ends_begun : (b : Bool) (slots : List Slot) → ends (begun b slots) ≡ ends slots
ends_begun true slots = refl
ends_begun false [] = refl
ends_begun false (slot.Token h ∷ slots) = ends_begun false slots
ends_begun false (slot.End ∷ slots) = refl

pub ends_lists : (lists : List (List Held)) (rest : List Slot) → ends (ended lists ++ rest) ≡ length lists + ends rest
ends_lists lists rest = ends_append (ended lists) rest ∙ ap (λ n. n + ends rest) (ends_ended lists)

pub ends_inside : (inside : List Held) (s : Slot) (rest : List Slot) → ends (tokens inside ++ s ∷ rest) ≡ ends (s ∷ rest)
ends_inside inside s rest = let a = ends_append (tokens inside) (s ∷ rest) in let t = ends_tokens inside in omega (arith, a, t)

pub begun_known : (names : List Text) (sets : Sets) (b : Bool) (slots : List Slot) → AreSlotsKnown names sets slots → AreSlotsKnown names sets (begun b slots)
begun_known names sets true slots h = h
begun_known names sets false [] h = h
begun_known names sets false (slot.Token t ∷ slots) h = begun_known names sets false slots (All-tail (IsSlotKnown names sets) (slot.Token t) slots h)
begun_known names sets false (slot.End ∷ slots) h = h

-- the tokens of lists are known, where those inside are
among_known : (names : List Text) (sets : Sets) (inside : List Held) → AreKnown names sets inside → (h : Held) → IsAmong inside h → IsKnown names sets h
among_known names sets inside a h (k, e) =
    subst (IsKnown names sets) (get_or_from_slice_get inside k h h e) (All-get_or (IsKnown names sets) inside k h (slice_get_within inside k h e) a)

pub lists_known : (names : List Text) (sets : Sets) (inside : List Held) (lists : List (List Held)) → AreKnown names sets inside → All (All (IsAmong inside)) lists → All (AreKnown names sets) lists
lists_known names sets inside lists a h =
    All-weaker (All (IsAmong inside)) (AreKnown names sets) (λ l q. All-weaker (IsAmong inside) (IsKnown names sets) (among_known names sets inside a) l q) lists h

pub raw_known : (names : List Text) (sets : Sets) (inside : List Held) (lists raw : List (List Held)) → AreKnown names sets inside → All (All (IsAmong inside)) lists → AreArguments raw lists → All (AreKnown names sets) raw
raw_known names sets inside lists raw a h r =
    let l = lists_known names sets inside lists a h in
    elim r [
      | inl e ↦ subst (All (AreKnown names sets)) (sym e) l
      | inr (inl e) ↦ subst (All (AreKnown names sets)) (sym e) (All-append (AreKnown names sets) lists ([] ∷ []) l (All-cons (AreKnown names sets) [] [] (All-nil (IsKnown names sets)) (All-nil (AreKnown names sets))))
      | inr (inr p) ↦ subst (All (AreKnown names sets)) (sym p.0) (All-nil (AreKnown names sets))
    ]

pub ended_known : (names : List Text) (sets : Sets) (lists : List (List Held)) → All (AreKnown names sets) lists → AreSlotsKnown names sets (ended lists)
ended_known names sets [] h = All-nil (IsSlotKnown names sets)
ended_known names sets (l ∷ lists) h =
    All-append (IsSlotKnown names sets) (tokens l) (slot.End ∷ ended lists) (tokens_known l (All-head (AreKnown names sets) l lists h))
    (All-cons (IsSlotKnown names sets) slot.End (ended lists) tt (ended_known names sets lists (All-tail (AreKnown names sets) l lists h))) where
      tokens_known : (hs : List Held) → AreKnown names sets hs → AreSlotsKnown names sets (tokens hs)
      tokens_known [] k = All-nil (IsSlotKnown names sets)
      tokens_known (x ∷ hs) k = All-cons (IsSlotKnown names sets) (slot.Token x) (tokens hs) (All-head (IsKnown names sets) x hs k) (tokens_known hs (All-tail (IsKnown names sets) x hs k))

pub tokens_known : (names : List Text) (sets : Sets) (hs : List Held) → AreKnown names sets hs → AreSlotsKnown names sets (tokens hs)
tokens_known names sets [] k = All-nil (IsSlotKnown names sets)
tokens_known names sets (x ∷ hs) k = All-cons (IsSlotKnown names sets) (slot.Token x) (tokens hs) (All-head (IsKnown names sets) x hs k) (tokens_known names sets hs (All-tail (IsKnown names sets) x hs k))

pub inside_known : (names : List Text) (sets : Sets) (inside : List Held) (rest : List Slot) → AreSlotsKnown names sets (tokens inside ++ rest) → AreKnown names sets inside × AreSlotsKnown names sets rest
inside_known names sets [] rest h = (All-nil (IsKnown names sets), h)
inside_known names sets (x ∷ inside) rest h =
    let r = inside_known names sets inside rest (All-tail (IsSlotKnown names sets) (slot.Token x) (tokens inside ++ rest) h) in
    (All-cons (IsKnown names sets) x inside (All-head (IsSlotKnown names sets) (slot.Token x) (tokens inside ++ rest) h) r.0, r.1)

pub texts_arguments : (names : List Text) (sets : Sets) (raw lists : List (List Held)) → AreArguments raw lists → AreTextArguments (all_args names sets raw) (all_args names sets lists)
texts_arguments names sets raw lists r = elim r [
  | inl e ↦ inl (ap (all_args names sets) e)
  | inr (inl e) ↦ inr (inl (ap (all_args names sets) e ∙ map-append (all_held names sets) lists ([] ∷ [])))
  | inr (inr p) ↦ inr (inr (ap (all_args names sets) p.0, ap (all_args names sets) p.1))
]

module _ (names new : List Text) (macros : Macros) (old now : Machine) (more : List Token) (mach : IsMachine names macros old) (known : AreMacros names macros) (g : Grows names new) (k : Grows old.sets now.sets) (file : now.file ≡ old.file) where
  abbrev T : Table
  T = table_of names macros (text_of names old.file)

  -- what is put in goes on before the rest
  puts_on : {A : Type 0} (o : Outermost A) (ws : List Waiting) (work : Work (List Token)) (rest : List Slot)
      → left_by o.does names macros old more ≡ (work >>= λ ts. goes_on_by (o.does T) T ws (before ts (front names old.sets rest more))) (LIMIT - old.used)
      → (p : IsPut names new old now work rest) → waiting new macros now.sets now.frames.items ≡ ws → AreSlotsKnown names old.sets rest → left_by o.does names macros old more ≡ after p.events (left_by o.does new macros now more)
  puts_on o ws work rest e p w a =
      e ∙ ap (λ r. then_do r (λ ts. goes_on_by (o.does T) T ws (before ts (front names old.sets rest more)))) p.gives
      ∙ ap (after p.events) (sym (left_now names new macros old now more mach known g k file o ws (before (all_held new now.sets p.list) (front names old.sets rest more)) (LIMIT - now.used) w
      (ap (λ s. front new now.sets s more) p.slots ∙ front_tokens new now.sets p.list rest more ∙ ap (before (all_held new now.sets p.list)) (front_kept names new macros old now more mach known g k file rest a)) refl))

  puts : (law : FollowsTheRules) (ws : List Waiting) (work : Work (List Token)) (rest : List Slot)
      → still names macros old more ≡ (work >>= λ ts. goes_on T ws (before ts (front names old.sets rest more))) (LIMIT - old.used)
      → ahead names macros old more ≡ (work >>= λ ts. goes_on_by (next_token T) T ws (before ts (front names old.sets rest more))) (LIMIT - old.used)
      → IsPut names new old now work rest → waiting new macros now.sets now.frames.items ≡ ws → AreSlotsKnown names old.sets rest → IsAhead names new macros old now more step.More
  puts law ws work rest e f p w a = (
    record { events = p.events; one = p.one; last = p.last; goes = puts_on (expanding law) ws work rest e p w a ∙ leads_none p.events (still new macros now more); seen = p.seen },
    puts_on seeking ws work rest f p w a,
  )

  pub all_kept : waiting new macros now.sets old.frames.items ≡ waiting names macros old.sets old.frames.items
  all_kept = waiting_kept names new macros old now more mach known g k file old.frames.items (calls_held names new macros old now more mach known g k file)

  object_goes : {A : Type 0} (o : Outermost A) (law : FollowsTheRules) (h : Held) (m : Macro) (rest : List Slot) → old.slots.items ≡ slot.Token h ∷ rest → use_of T (held names old.sets h) (current (front names old.sets rest more)) ≡ Object (macro_text names m)
      → left_by o.does names macros old more ≡ (put_for (held names old.sets h) (macro_text names m) [] [] (with_name (text_of names h.token.text) (hidden names old.sets h.hide.0))
      >>= λ ts. goes_on_by (o.does T) T (waiting names macros old.sets old.frames.items) (before ts (front names old.sets rest more))) (LIMIT - old.used)
  object_goes o law h m rest e u =
      left_old names new macros old now more mach known g k file o _ (Stands (held names old.sets h) ∷ front names old.sets rest more) refl (front_old names new macros old now more mach known g k file (slot.Token h) rest e)
      ∙ goes_object T law (o.does T) (o.rules T) (waiting names macros old.sets old.frames.items) (held names old.sets h) (macro_text names m) (front names old.sets rest more) (LIMIT - old.used) u

  pub objects : (law : FollowsTheRules) (h : Held) (m : Macro) (rest : List Slot) → old.slots.items ≡ slot.Token h ∷ rest → use_of T (held names old.sets h) (current (front names old.sets rest more)) ≡ Object (macro_text names m)
      → IsPut names new old now (put_for (held names old.sets h) (macro_text names m) [] [] (with_name (text_of names h.token.text) (hidden names old.sets h.hide.0))) rest → now.frames.items ≡ old.frames.items
      → IsAhead names new macros old now more step.More
  objects law h m rest e u p f =
      puts law (waiting names macros old.sets old.frames.items) _ rest (object_goes (expanding law) law h m rest e u) (object_goes seeking law h m rest e u) p
      (ap (waiting new macros now.sets) f ∙ all_kept) (rest_known names new macros old now more mach known g k file (slot.Token h) rest e)

  pub object_faults : (law : FollowsTheRules) (h : Held) (m : Macro) (rest : List Slot) (x : ExpandFault) → old.slots.items ≡ slot.Token h ∷ rest → use_of T (held names old.sets h) (current (front names old.sets rest more)) ≡ Object (macro_text names m)
      → Faults (put_for (held names old.sets h) (macro_text names m) [] [] (with_name (text_of names h.token.text) (hidden names old.sets h.hide.0)) (LIMIT - old.used)) x → BothFault names macros old more x
  object_faults law h m rest x e u p = (one (expanding law), one seeking) where
    one : {A : Type 0} (o : Outermost A) → FaultsAtOnce (left_by o.does names macros old more) x
    one o = rw (object_goes o law h m rest e u) (at_once_first _ (λ ts. goes_on_by (o.does T) T (waiting names macros old.sets old.frames.items) (before ts (front names old.sets rest more))) x
        (put_for_at_once (held names old.sets h) (macro_text names m) [] [] (with_name (text_of names h.token.text) (hidden names old.sets h.hide.0)) (LIMIT - old.used) x p))

  -- the last argument of a call ends
  last_goes : {A : Type 0} (o : Outermost A) (law : FollowsTheRules) (cs : List frames.Call) (c : frames.Call) (rest : List Slot) → old.slots.items ≡ slot.End ∷ rest → old.frames.items ≡ cs ++ c ∷ [] → c.more ≡ 0
      → left_by o.does names macros old more ≡ (put_for_call names macros old.sets (done_call c) >>= λ ts. goes_on_by (o.does T) T (waiting names macros old.sets cs) (before ts (front names old.sets rest more))) (LIMIT - old.used)
  last_goes o law cs c rest e f m =
      left_old names new macros old now more mach known g k file o (waiting_of names macros old.sets c ∷ waiting names macros old.sets cs) (Ends ∷ front names old.sets rest more) (calls_old names new macros old now more mach known g k file cs c f)
      (front_old names new macros old now more mach known g k file slot.End rest e)
      ∙ goes_last T law (o.does T) (o.rules T) (waiting names macros old.sets cs) (waiting_of names macros old.sets c) (front names old.sets rest more) (LIMIT - old.used) m
      ∙ ap (λ d. (put_for (held names old.sets c.name) (means_of names (macro_named c.name.token.text macros)) (all_args names old.sets c.raw) d (hidden names old.sets c.hide)
      >>= λ ts. goes_on_by (o.does T) T (waiting names macros old.sets cs) (before ts (front names old.sets rest more))) (LIMIT - old.used))
      (sym (map-append (all_held names old.sets) c.done (c.out ∷ [])))

  pub front_calls : (cs : List frames.Call) (c : frames.Call) → old.frames.items ≡ cs ++ c ∷ [] → All (IsCallHeld names macros old.sets) cs
  front_calls cs c f = all_front (IsCallHeld names macros old.sets) cs c (subst (All (IsCallHeld names macros old.sets)) f (calls_held names new macros old now more mach known g k file))

  pub completes : (law : FollowsTheRules) (cs : List frames.Call) (c : frames.Call) (rest : List Slot) → old.slots.items ≡ slot.End ∷ rest → old.frames.items ≡ cs ++ c ∷ [] → c.more ≡ 0 → now.frames.items ≡ cs
      → IsPut names new old now (put_for_call names macros old.sets (done_call c)) rest → IsAhead names new macros old now more step.More
  completes law cs c rest e f m n p =
      puts law (waiting names macros old.sets cs) (put_for_call names macros old.sets (done_call c)) rest (last_goes (expanding law) law cs c rest e f m) (last_goes seeking law cs c rest e f m) p
      (ap (waiting new macros now.sets) n ∙ waiting_kept names new macros old now more mach known g k file cs (front_calls cs c f)) (rest_known names new macros old now more mach known g k file slot.End rest e)

  pub complete_faults : (law : FollowsTheRules) (cs : List frames.Call) (c : frames.Call) (rest : List Slot) (x : ExpandFault) → old.slots.items ≡ slot.End ∷ rest → old.frames.items ≡ cs ++ c ∷ [] → c.more ≡ 0
      → Faults (put_for_call names macros old.sets (done_call c) (LIMIT - old.used)) x → BothFault names macros old more x
  complete_faults law cs c rest x e f m p = (one (expanding law), one seeking) where
    one : {A : Type 0} (o : Outermost A) → FaultsAtOnce (left_by o.does names macros old more) x
    one o = rw (last_goes o law cs c rest e f m) (at_once_first _ (λ ts. goes_on_by (o.does T) T (waiting names macros old.sets cs) (before ts (front names old.sets rest more))) x
        (put_for_at_once (held names old.sets c.name) (means_of names (macro_named c.name.token.text macros)) (all_args names old.sets c.raw) (all_args names old.sets (done_call c).done) (hidden names old.sets c.hide) (LIMIT - old.used) x p))
