-- What a machine holds stays known.
use Rattle.std.proofs.Common.{◌≡◌, ◌<◌, ◌≤◌, Bool, List, [], ◌∷◌, ◌++◌, length, drop, refl, sym, ap, subst, ◌∙◌, arith, length-append, Option, Some, None}
use Rattle.std.specs.List.{All}
use Rattle.std.proofs.lemmas.List.Elements.{All-tail, All-weaker, All-nil, All-cons, All-append}
use Rattle.cr_base.specs.declared.token.Name.{Name}
use Rattle.cr_macros.specs.declared.macros.Macro.{Macro}
use Rattle.cr_expand.specs.declared.held.Held.{Held}
use Rattle.cr_expand.specs.declared.slot.Slot.{Slot}
use Rattle.cr_expand.specs.declared.slot.Slot.TheVariants as slot
use Rattle.cr_expand.specs.declared.machine.Machine.{Machine}
use Rattle.cr_expand.specs.declared.machine.ExpStep.{ExpStep}
use Rattle.cr_expand.specs.declared.machine.ExpStep.TheVariants as step
use Rattle.cr_expand.specs.declared.machine.TheConstants.{LIMIT}
use Rattle.cr_macros.specs.Tokens.{Text}
use Rattle.cr_macros.specs.MacroTables.{Macros, macro_named, macro_text}
use Rattle.cr_expand.specs.HideSets.{Sets, Grows}
use Rattle.cr_expand.specs.Held.{IsNamed, IsKnown, AreKnown, AreTables}
use Rattle.cr_expand.specs.Items.{IsTokenNamed, AreNamed}
use Rattle.cr_expand.specs.Frames.{Call}
use Rattle.cr_expand.specs.Slots.{tokens, ended, ends, begun, IsSlotKnown, AreSlotsKnown}
use Rattle.cr_expand.specs.Wanted.{is_wanted}
use Rattle.cr_expand.specs.Machines.{means_of, total, IsCallKnown, IsMachine, AreMacros, IsGiven, IsSameRun, IsEntered, next_call}
use Rattle.cr_expand.proofs.Kept.{named_later, known_later, all_known_later, args_known_later, longer}
use Rattle.cr_expand.proofs.KeptMachine.{means_kept}
use Rattle.cr_expand.proofs.Looked.{found_known}
use Rattle.cr_expand.proofs.Steps.{all_front, all_last}
use Rattle.cr_expand.proofs.Calling.{total_last, ends_begun, ends_lists, ends_inside, tokens_known, begun_known}

slot_later : (names new : List Text) (sets more : Sets) → Grows names new → Grows sets more → (s : Slot) → IsSlotKnown names sets s → IsSlotKnown new more s
slot_later names new sets more g k (slot.Token h) a = known_later names new sets more h g k a
slot_later names new sets more g k slot.End a = tt

pub slots_later : (names new : List Text) (sets more : Sets) → Grows names new → Grows sets more → (slots : List Slot) → AreSlotsKnown names sets slots → AreSlotsKnown new more slots
slots_later names new sets more g k slots a = All-weaker (IsSlotKnown names sets) (IsSlotKnown new more) (slot_later names new sets more g k) slots a

params_later : (names new : List Text) → Grows names new → (params : Option (List Name)) → AreNamed names params → AreNamed new params
params_later names new g None a = tt
params_later names new g (Some ns) a = All-weaker (IsNamed names) (IsNamed new) (λ n h. named_later names new n g h) ns a

pub macros_later : (names new : List Text) → Grows names new → (macros : Macros) → AreMacros names macros → AreMacros new macros
macros_later names new g macros a = record {
  known = λ n m e.
      let k = a.known n m e in (
        named_later names new n g k.0,
        (
          record {
            name = named_later names new m.name g k.1.0.name;
            params = params_later names new g m.params k.1.0.params;
            body = All-weaker (IsTokenNamed names) (IsTokenNamed new) (λ t b. named_later names new t.text g b) m.body k.1.0.body;
          },
          k.1.1,
        ),
      );
}

module _ (names new : List Text) (macros : Macros) (sets more : Sets) (g : Grows names new) (k : Grows sets more) (known : AreMacros names macros) where
  pub call_later : (c : Call) → IsCallKnown names macros sets c → IsCallKnown new macros more c
  call_later c h = record {
    holds = record {
      name = known_later names new sets more c.name g k h.holds.name;
      hide = (let l = longer sets more k in let m = h.holds.hide in omega (arith, l, m));
      raw = args_known_later names new sets more c.raw g k h.holds.raw;
      done = args_known_later names new sets more c.done g k h.holds.done;
      out = all_known_later names new sets more c.out g k h.holds.out;
      macro = h.holds.macro;
    };
    wanted = λ i l. h.wanted i l ∙ ap (λ m. is_wanted m i) (sym (means_kept names new g macros (macro_named c.name.token.text macros) (λ m e. found_known names macros c.name.token.text m known e)));
  }

  pub calls_later : (cs : List Call) → All (IsCallKnown names macros sets) cs → All (IsCallKnown new macros more) cs
  calls_later cs a = All-weaker (IsCallKnown names macros sets) (IsCallKnown new macros more) call_later cs a

-- a token is given to the calls
pub given_calls : (names : List Text) (macros : Macros) (sets : Sets) (old : List Call) (h : Held) (now : List Call) (s : ExpStep) → IsGiven old h now s → IsKnown names sets h → All (IsCallKnown names macros sets) old
    → All (IsCallKnown names macros sets) now × (total now ≡ total old)
given_calls names macros sets old h now (step.Out t) i a b = (subst (All (IsCallKnown names macros sets)) (sym i.1) (All-nil (IsCallKnown names macros sets)), ap total i.1 ∙ sym (ap total i.0))
given_calls names macros sets old h now step.More (cs, c, e, f) a b =
    let all = subst (All (IsCallKnown names macros sets)) e b in
    let one = all_last (IsCallKnown names macros sets) cs c all in (
      subst (All (IsCallKnown names macros sets)) (sym f) (All-append (IsCallKnown names macros sets) cs (record c { out = c.out ++ h ∷ [] } ∷ []) (all_front (IsCallKnown names macros sets) cs c all)
          (All-cons (IsCallKnown names macros sets) (record c { out = c.out ++ h ∷ [] }) [] (record {
            holds = record {
              name = one.holds.name;
              hide = one.holds.hide;
              raw = one.holds.raw;
              done = one.holds.done;
              out = All-append (IsKnown names sets) c.out (h ∷ []) one.holds.out (All-cons (IsKnown names sets) h [] a (All-nil (IsKnown names sets)));
              macro = one.holds.macro;
            };
            wanted = one.wanted;
          }) (All-nil (IsCallKnown names macros sets)))),
      ap total f ∙ total_last cs (record c { out = c.out ++ h ∷ [] }) ∙ sym (total_last cs c) ∙ sym (ap total e),
    )
given_calls names macros sets old h now step.Hungry i a b = absurd i
given_calls names macros sets old h now step.End i a b = absurd i

module _ (names new : List Text) (macros : Macros) (old now : Machine) (mach : IsMachine names macros old) (known : AreMacros names macros) (g : Grows names new) (k : Grows old.sets now.sets) (same : IsSameRun old now) (tables : AreTables new now.sets) where
  machine : AreSlotsKnown new now.sets now.slots.items → All (IsCallKnown new macros now.sets) now.frames.items → ends now.slots.items ≡ total now.frames.items → now.used ≤ LIMIT → IsMachine new macros now
  machine s c e l = record {
    tables = tables;
    slots = s;
    calls = c;
    watched = (subst (IsNamed new) (sym same.0) (named_later names new old.notes.from g mach.watched.0), subst (IsNamed new) (sym same.1) (named_later names new old.notes.to g mach.watched.1));
    file = subst (IsNamed new) (sym same.2) (named_later names new old.file g mach.file);
    ends = e;
    limit = l;
  }

  rest_later : (s : Slot) (rest : List Slot) → old.slots.items ≡ s ∷ rest → AreSlotsKnown new now.sets rest
  rest_later s rest e = slots_later names new old.sets now.sets g k rest (All-tail (IsSlotKnown names old.sets) s rest (subst (AreSlotsKnown names old.sets) e mach.slots))

  all_later : All (IsCallKnown new macros now.sets) old.frames.items
  all_later = calls_later names new macros old.sets now.sets g k known old.frames.items mach.calls

  -- a token is given
  pub gives_machine : (h one : Held) (rest : List Slot) (s : ExpStep) → old.slots.items ≡ slot.Token h ∷ rest → now.slots.items ≡ drop 1 old.slots.items → IsGiven old.frames.items one now.frames.items s → IsKnown new now.sets one → now.used ≤ LIMIT
      → IsMachine new macros now
  gives_machine h one rest s e d i a l =
      let c = given_calls new macros now.sets old.frames.items one now.frames.items s i a all_later in
      let r : now.slots.items ≡ rest = d ∙ ap (drop 1) e in
      machine (subst (AreSlotsKnown new now.sets) (sym r) (rest_later (slot.Token h) rest e)) c.0 (ap ends r ∙ sym (ap ends e) ∙ mach.ends ∙ sym c.1) l

  put_slots : (list : List Held) (rest : List Slot) → now.slots.items ≡ tokens list ++ rest → AreKnown new now.sets list → AreSlotsKnown new now.sets rest → AreSlotsKnown new now.sets now.slots.items
  put_slots list rest e a b = subst (AreSlotsKnown new now.sets) (sym e) (All-append (IsSlotKnown new now.sets) (tokens list) rest (tokens_known new now.sets list a) b)

  ends_put : (list : List Held) (rest : List Slot) → now.slots.items ≡ tokens list ++ rest → ends now.slots.items ≡ ends rest
  ends_put list rest e = ap ends e ∙ ends_front list rest where
    ends_front : (hs : List Held) (r : List Slot) → ends (tokens hs ++ r) ≡ ends r
    ends_front [] r = refl
    ends_front (x ∷ hs) r = ends_front hs r

  pub object_machine : (h : Held) (rest : List Slot) (list : List Held) → old.slots.items ≡ slot.Token h ∷ rest → now.slots.items ≡ tokens list ++ rest → AreKnown new now.sets list → now.frames.items ≡ old.frames.items → now.used ≤ LIMIT → IsMachine new macros now
  object_machine h rest list e s a f l =
      machine (put_slots list rest s a (rest_later (slot.Token h) rest e)) (subst (All (IsCallKnown new macros now.sets)) (sym f) all_later)
      (ends_put list rest s ∙ sym (ap ends e) ∙ mach.ends ∙ sym (ap total f)) l

  pub complete_machine : (cs : List Call) (c : Call) (rest : List Slot) (list : List Held) → old.slots.items ≡ slot.End ∷ rest → old.frames.items ≡ cs ++ c ∷ [] → c.more ≡ 0 → now.frames.items ≡ cs → now.slots.items ≡ tokens list ++ rest → AreKnown new now.sets list
      → now.used ≤ LIMIT → IsMachine new macros now
  complete_machine cs c rest list e f m n s a l =
      let all = subst (All (IsCallKnown new macros now.sets)) f all_later in
      machine (put_slots list rest s a (rest_later slot.End rest e)) (subst (All (IsCallKnown new macros now.sets)) (sym n) (all_front (IsCallKnown new macros now.sets) cs c all))
      (ends_put list rest s ∙ (let t1 = mach.ends in let t2 = ap ends e in let t3 = ap total f in let t4 = total_last cs c in let q : ends rest ≡ total cs = omega (arith, t1, t2, t3, t4, m) in q) ∙ sym (ap total n)) l

  pub next_machine : (cs : List Call) (c : Call) (rest : List Slot) (b : Bool) → old.slots.items ≡ slot.End ∷ rest → old.frames.items ≡ cs ++ c ∷ [] → 0 < c.more → now.frames.items ≡ cs ++ next_call c ∷ [] → now.slots.items ≡ begun b rest
      → now.used ≤ LIMIT → IsMachine new macros now
  next_machine cs c rest b e f m n s l =
      let all = subst (All (IsCallKnown new macros now.sets)) f all_later in
      let one = all_last (IsCallKnown new macros now.sets) cs c all in
      let ld = length-append c.done (c.out ∷ []) in
      machine (subst (AreSlotsKnown new now.sets) (sym s) (begun_known new now.sets b rest (rest_later slot.End rest e)))
      (subst (All (IsCallKnown new macros now.sets)) (sym n) (All-append (IsCallKnown new macros now.sets) cs (next_call c ∷ []) (all_front (IsCallKnown new macros now.sets) cs c all)
      (All-cons (IsCallKnown new macros now.sets) (next_call c) [] (record {
        holds = record {
          name = one.holds.name;
          hide = one.holds.hide;
          raw = one.holds.raw;
          done = All-append (AreKnown new now.sets) c.done (c.out ∷ []) one.holds.done (All-cons (AreKnown new now.sets) c.out [] one.holds.out (All-nil (AreKnown new now.sets)));
          out = All-nil (IsKnown new now.sets);
          macro = one.holds.macro;
        };
        wanted = λ i h. one.wanted i (omega (arith, h, ld, m));
      }) (All-nil (IsCallKnown new macros now.sets)))))
      (ap ends s ∙ ends_begun b rest
      ∙ (let t1 = mach.ends in let t2 = ap ends e in let t3 = ap total f in let t4 = total_last cs c in let t5 = total_last cs (next_call c) in let q : ends rest ≡ total (cs ++ next_call c ∷ []) = omega (arith, t1, t2, t3, t4, t5, m) in q)
      ∙ sym (ap total n)) l

  pub enter_machine : (h : Held) (m : Macro) (params : List Name) (inside : List Held) (closes opens : Held) (rest : List Slot) → old.slots.items ≡ slot.Token h ∷ slot.Token opens ∷ (tokens inside ++ slot.Token closes ∷ rest)
      → macro_named h.token.text macros ≡ Some m → (i : IsEntered names old now h m params inside closes rest) → AreSlotsKnown new now.sets now.slots.items → All (AreKnown new now.sets) i.call.raw → IsKnown new now.sets h → new ≡ names → now.used ≤ LIMIT
      → IsMachine new macros now
  enter_machine h m params inside closes opens rest e looked i sk rk hk x l =
      machine sk
      (subst (All (IsCallKnown new macros now.sets)) (sym i.frames) (All-append (IsCallKnown new macros now.sets) old.frames.items (i.call ∷ []) all_later
      (All-cons (IsCallKnown new macros now.sets) i.call [] (record {
        holds = record {
          name = subst (IsKnown new now.sets) (sym i.name) hk;
          hide = i.hide_known;
          raw = rk;
          done = subst (All (AreKnown new now.sets)) (sym i.done) (All-nil (AreKnown new now.sets));
          out = subst (AreKnown new now.sets) (sym i.out) (All-nil (IsKnown new now.sets));
          macro = (m, here);
        };
        wanted = λ j q. i.wanted j (let z = ap length i.done in omega (arith, q, z)) ∙ ap (λ y. is_wanted (macro_text y m) j) (sym x) ∙ ap (λ o. is_wanted (means_of new o) j) (sym here);
      }) (All-nil (IsCallKnown new macros now.sets)))))
      (ap ends i.slots ∙ ends_begun (is_wanted (macro_text names m) 0) (ended i.lists ++ rest)
      ∙ (let t1 = mach.ends in let t2 = ap ends e in let t3 = ends_inside inside (slot.Token closes) rest in let t4 = ends_lists i.lists rest in let t5 = total_last old.frames.items i.call in let t6 = i.count in
      let q : ends (ended i.lists ++ rest) ≡ total (old.frames.items ++ i.call ∷ []) = omega (arith, t1, t2, t3, t4, t5, t6) in q)
      ∙ sym (ap total i.frames)) l where
        here : macro_named i.call.name.token.text macros ≡ Some m
        here = ap (λ z. macro_named z.token.text macros) i.name ∙ looked
