-- Steps of the machine inside a call.
use Rattle.std.proofs.Common.{◌≡◌, ℕ, suc, ◌+◌, ◌-◌, ◌<◌, Bool, false, List, [], ◌∷◌, ◌++◌, length, refl, sym, ap, subst, ◌∙◌, arith, Some, ◌⊎◌, inl, inr}
use Rattle.std.specs.Prelude.{slice_index_or}
use Rattle.std.specs.List.{All}
use Rattle.std.proofs.lemmas.List.{map-append}
use Rattle.std.proofs.lemmas.List.Elements.{All-head, All-tail, All-append}
use Rattle.cr_base.specs.declared.token.Place.{Place}
use Rattle.cr_base.specs.declared.token.PpKind.{PpKind}
use Rattle.cr_base.specs.declared.cause.Role.TheVariants.{MacroName}
use Rattle.cr_macros.specs.declared.macros.Macro.{Macro}
use Rattle.cr_macros.specs.declared.fault.ExpandFault.{ExpandFault}
use Rattle.cr_macros.specs.declared.fault.ExpandFault.TheVariants as fault
use Rattle.cr_expand.specs.declared.held.Held.{Held}
use Rattle.cr_expand.specs.declared.slot.Slot.{Slot}
use Rattle.cr_expand.specs.declared.slot.Slot.TheVariants as slot
use Rattle.cr_expand.specs.declared.machine.Machine.{Machine}
use Rattle.cr_expand.specs.declared.machine.TheConstants.{LIMIT}
use Rattle.cr_macros.specs.Tokens.{Text, Token, MacroText, Stopped, ◌>>=◌, takes, with_name, both, Cause, ArgCount, OpenCall}
use Rattle.cr_macros.specs.Definition.{text_of}
use Rattle.cr_macros.specs.Substitution.{body_items}
use Rattle.cr_macros.specs.Expansion.{Table, Predefined, Wrong, use_of, counted_call, expand, expanded}
use Rattle.cr_macros.specs.Laws.{FollowsTheRules}
use Rattle.cr_macros.specs.MacroTables.{Macros, macro_named, macro_text, table_of}
use Rattle.cr_expand.specs.HideSets.{Grows}
use Rattle.cr_expand.specs.Held.{held, all_held, all_args, hidden, IsKnown, AreKnown, IsCause}
use Rattle.cr_expand.specs.Frames as frames
use Rattle.cr_expand.specs.Running.{Waiting, Piece, Stands, Ends, current, behind, before, first_lists, behind_lists, goes_on_by, put_for}
use Rattle.cr_expand.specs.Slots.{tokens, ended, ends, begun, IsSlotKnown, AreSlotsKnown}
use Rattle.cr_expand.specs.Turns.{list_of, IsCallUse}
use Rattle.cr_expand.specs.Wanted.{is_wanted, is_whole}
use Rattle.cr_expand.specs.Machines.{means_of, waiting_of, waiting, total, still, ahead, uses, FaultsAtOnce, BothFault, IsCallKnown, IsMachine, AreMacros, IsEntered, IsMiscounted, next_call}
use Rattle.cr_expand.proofs.Quiet.{uses_append, takes_none}
use Rattle.cr_expand.proofs.Puttings.{no_memory_at_once}
use Rattle.cr_expand.proofs.Kept.{held_kept, all_args_kept}
use Rattle.cr_expand.proofs.Sets.{grows_same}
use Rattle.cr_expand.proofs.Counting.{length_map}
use Rattle.cr_expand.proofs.Going.{behind_before, with_done, IsDropped, goes_call, goes_wrong, predefined_over, Outermost, expanding, seeking}
use Rattle.cr_expand.proofs.Entering.{arguments_same, entered, goes_first, goes_next}
use Rattle.cr_expand.proofs.Steps.{all_last, waiting_more, front, front_tokens, left_by, left_old, left_now, front_old, calls_old}
use Rattle.cr_expand.proofs.Wholes.{all_kept_all, all_kept_text, put_kept_then}
use Rattle.cr_expand.proofs.Calling.{lists_front, front_begun, texts_arguments, all_kept, total_last, raw_known, lists_known, ended_known, begun_known, inside_known, ends_lists}
use Rattle.cr_expand.proofs.KeptMachine.{pieces_kept}

is_dropped_as : (a b : Bool) (ps qs : List Piece) → a ≡ b → IsDropped a ps qs → IsDropped b ps qs
is_dropped_as a b ps qs e h = subst (λ x. IsDropped x ps qs) e h

module _ (names new : List Text) (macros : Macros) (old now : Machine) (more : List Token) (mach : IsMachine names macros old) (known : AreMacros names macros) (g : Grows names new) (k : Grows old.sets now.sets) (file : now.file ≡ old.file) where
  abbrev T : Table
  T = table_of names macros (text_of names old.file)

  pub wrong_use : {A : Type 0} (o : Outermost A) (law : FollowsTheRules) (h : Held) (rest : List Slot) (cause : Cause) → old.slots.items ≡ slot.Token h ∷ rest → use_of T (held names old.sets h) (current (front names old.sets rest more)) ≡ Wrong cause
      → left_by o.does names macros old more ≡ Stopped cause []
  wrong_use o law h rest cause e u =
      left_old names new macros old now more mach known g k file o _ (Stands (held names old.sets h) ∷ front names old.sets rest more) refl (front_old names new macros old now more mach known g k file (slot.Token h) rest e)
      ∙ goes_wrong T law (o.does T) (o.rules T) (waiting names macros old.sets old.frames.items) (held names old.sets h) (front names old.sets rest more) cause (LIMIT - old.used) u

  wrong_faults : (law : FollowsTheRules) (h : Held) (rest : List Slot) (cause : Cause) (x : ExpandFault) → old.slots.items ≡ slot.Token h ∷ rest → use_of T (held names old.sets h) (current (front names old.sets rest more)) ≡ Wrong cause
      → IsCause cause x → BothFault names macros old more x
  wrong_faults law h rest cause x e u i = (one (expanding law), one seeking) where
    one : {A : Type 0} (o : Outermost A) → FaultsAtOnce (left_by o.does names macros old more) x
    one o = rw (wrong_use o law h rest cause e u) (inl (i, refl))

  no_memory_both : BothFault names macros old more fault.OutOfMemory
  no_memory_both = (no_memory_at_once (still names macros old more), no_memory_at_once (ahead names macros old more))

  pub unclosed : (law : FollowsTheRules) (h : Held) (rest : List Slot) (site : Place) → old.slots.items ≡ slot.Token h ∷ rest → use_of T (held names old.sets h) (current (front names old.sets rest more)) ≡ Wrong (OpenCall site)
      → BothFault names macros old more (fault.OpenCall site)
  unclosed law h rest site e u = wrong_faults law h rest (OpenCall site) (fault.OpenCall site) e u refl

  pub predefined_fault : (law : FollowsTheRules) (h : Held) (kind : PpKind) (text : Text) (rest : List Slot) (x : ExpandFault) → old.slots.items ≡ slot.Token h ∷ rest
      → use_of T (held names old.sets h) (current (front names old.sets rest more)) ≡ Predefined kind text
      → (x ≡ fault.OutOfMemory) ⊎ ((x ≡ fault.LimitMacros) × (LIMIT < old.used + 2)) → BothFault names macros old more x
  predefined_fault law h kind text rest x e u f = elim f [
    | inl m ↦ rw m no_memory_both
    | inr p ↦ (one (expanding law) p, one seeking p)
  ] where
    one : {A : Type 0} (o : Outermost A) → (x ≡ fault.LimitMacros) × (LIMIT < old.used + 2) → FaultsAtOnce (left_by o.does names macros old more) x
    one o p = rw (
      p.0,
      left_old names new macros old now more mach known g k file o _ (Stands (held names old.sets h) ∷ front names old.sets rest more) refl (front_old names new macros old now more mach known g k file (slot.Token h) rest e),
      predefined_over T law (o.does T) (o.rules T) (waiting names macros old.sets old.frames.items) (held names old.sets h) kind text (front names old.sets rest more) (LIMIT - old.used) u (omega (arith, p.1)),
    ) (inl (refl, none)) where
      none : uses (takes MacroName (held names old.sets h) ++ []) ≡ 0
      none = let a = uses_append (takes MacroName (held names old.sets h)) [] in let b = takes_none MacroName (held names old.sets h) in omega (arith, a, b)

  -- the next argument is begun
  pub next_argument : {A : Type 0} (o : Outermost A) (law : FollowsTheRules) (cs : List frames.Call) (c : frames.Call) (rest : List Slot) → old.slots.items ≡ slot.End ∷ rest → old.frames.items ≡ cs ++ c ∷ [] → 0 < c.more
      → now.frames.items ≡ cs ++ next_call c ∷ [] → now.slots.items ≡ begun (slice_index_or c.wanted (length c.done + 1) false) rest → now.sets ≡ old.sets → now.used ≡ old.used → new ≡ names
      → left_by o.does names macros old more ≡ left_by o.does new macros now more
  next_argument o law cs c rest e f m n s a b x =
      let ck : IsCallKnown names macros old.sets c = all_last (IsCallKnown names macros old.sets) cs c (subst (All (IsCallKnown names macros old.sets)) f mach.calls) in
      let wd : slice_index_or c.wanted (length c.done + 1) false ≡ is_wanted (means_of names (macro_named c.name.token.text macros)) (length c.done + 1) = ck.wanted (length c.done + 1) (omega arith) in
      let ld = length_map (all_held names old.sets) c.done in
      let le : length c.done + 1 ≡ suc (length (all_args names old.sets c.done)) = omega (arith, ld) in
      let some : 0 < ends rest = (let t1 = mach.ends in let t2 = ap ends e in let t3 = ap total f in let t4 = total_last cs c in omega (arith, t1, t2, t3, t4, m)) in
      left_old names new macros old now more mach known g k file o (waiting_of names macros old.sets c ∷ waiting names macros old.sets cs) (Ends ∷ front names old.sets rest more) (calls_old names new macros old now more mach known g k file cs c f)
      (front_old names new macros old now more mach known g k file slot.End rest e)
      ∙ goes_next T law (o.does T) (waiting names macros old.sets cs) (waiting_of names macros old.sets c) (front names old.sets rest more) (front names old.sets now.slots.items more) (c.more - 1) (LIMIT - old.used) (omega arith)
      (is_dropped_as _ _ (front names old.sets rest more) (front names old.sets now.slots.items more) (wd ∙ ap (is_wanted (means_of names (macro_named c.name.token.text macros))) le)
      (subst (λ l. IsDropped (slice_index_or c.wanted (length c.done + 1) false) (front names old.sets rest more) (front names old.sets l more)) (sym s) (front_begun names old.sets more (slice_index_or c.wanted (length c.done + 1) false) rest some)))
      ∙ sym (left_now names new macros old now more mach known g k file o (with_done (waiting_of names macros old.sets c) (c.more - 1) ∷ waiting names macros old.sets cs) (front names old.sets now.slots.items more) (LIMIT - old.used)
      (ap (λ l. waiting l macros now.sets now.frames.items) x ∙ ap (λ z. waiting names macros z now.frames.items) a ∙ ap (waiting names macros old.sets) n ∙ waiting_more names macros old.sets cs (next_call c)
      ∙ ap (λ d. record (waiting_of names macros old.sets c) { done = d; out = []; more = c.more - 1 } ∷ waiting names macros old.sets cs) (map-append (all_held names old.sets) c.done (c.out ∷ [])))
      (ap (λ l. front l now.sets now.slots.items more) x ∙ ap (λ z. front names z now.slots.items more) a) (ap (λ u. LIMIT - u) b))

  -- a call is entered
  module _ (law : FollowsTheRules) (h : Held) (m : Macro) (count n : ℕ) (u : IsCallUse names old.sets old.slots.items more (use_of T (held names old.sets h)) h m count n) (looked : macro_named h.token.text macros ≡ Some m) where
    abbrev H : List Text
    H = with_name (text_of names h.token.text) (both (hidden names old.sets h.hide.0) (hidden names old.sets u.closes.hide.0))

    abbrev behind_name : List Slot
    behind_name = slot.Token u.opens ∷ (tokens u.inside ++ slot.Token u.closes ∷ u.rest)

    behind_same : behind (front names old.sets u.rest more) ≡ behind (front names old.sets behind_name more)
    behind_same = sym (ap behind (front_tokens names old.sets u.inside (slot.Token u.closes ∷ u.rest) more) ∙ behind_before (all_held names old.sets u.inside) (front names old.sets (slot.Token u.closes ∷ u.rest) more))

    pub miscounts : (x : ExpandFault) → IsMiscounted names m u.params u.inside h x → BothFault names macros old more x
    miscounts x f = elim f [
      | inl p ↦ rw p no_memory_both
      | inr p ↦ wrong_faults law h behind_name (ArgCount h.token.site) x u.slots_are
          (u.used ∙ ap (counted_call (held names old.sets h) (macro_text names m) (held names old.sets u.closes) (list_of names old.sets u.rest more)) (p.1 old.sets)) p.0
    ]

    slots_here : AreSlotsKnown names old.sets (slot.Token h ∷ behind_name)
    slots_here = subst (AreSlotsKnown names old.sets) u.slots_are mach.slots

    pub head_is_known : IsKnown names old.sets h
    head_is_known = All-head (IsSlotKnown names old.sets) (slot.Token h) behind_name slots_here

    parts_known : AreKnown names old.sets u.inside × AreSlotsKnown names old.sets (slot.Token u.closes ∷ u.rest)
    parts_known = inside_known names old.sets u.inside (slot.Token u.closes ∷ u.rest) (All-tail (IsSlotKnown names old.sets) (slot.Token u.opens) (tokens u.inside ++ slot.Token u.closes ∷ u.rest)
        (All-tail (IsSlotKnown names old.sets) (slot.Token h) behind_name slots_here))

    pub rest_is_known : AreSlotsKnown names old.sets u.rest
    rest_is_known = All-tail (IsSlotKnown names old.sets) (slot.Token u.closes) u.rest parts_known.1

    pub raw_is_known : (i : IsEntered names old now h m u.params u.inside u.closes u.rest) → All (AreKnown names old.sets) i.call.raw
    raw_is_known i = subst (All (AreKnown names old.sets)) (sym i.raw) (all_kept_all (IsKnown names old.sets) (is_whole (macro_text names m)) 0 i.all (raw_known names old.sets u.inside i.lists i.all parts_known.0 i.among i.all_are))

    pub slots_are_known : (i : IsEntered names old now h m u.params u.inside u.closes u.rest) → AreSlotsKnown names old.sets now.slots.items
    slots_are_known i =
        subst (AreSlotsKnown names old.sets) (sym i.slots) (begun_known names old.sets (is_wanted (macro_text names m) 0) (ended i.lists ++ u.rest)
        (All-append (IsSlotKnown names old.sets) (ended i.lists) u.rest (ended_known names old.sets i.lists (lists_known names old.sets u.inside i.lists parts_known.0 i.among)) rest_is_known))

    pub enters : {A : Type 0} (o : Outermost A) (i : IsEntered names old now h m u.params u.inside u.closes u.rest) → new ≡ names → LIMIT - now.used ≡ LIMIT - old.used
        → left_by o.does names macros old more ≡ left_by o.does new macros now more
    enters o i x l =
        let t = held names old.sets h in
        let M = macro_text names m in
        let args = all_args names old.sets i.all in
        let raw = all_args names old.sets i.call.raw in
        let ps = front names old.sets (ended i.lists ++ u.rest) more in
        let qs = front names old.sets now.slots.items more in
        let lf = lists_front names old.sets i.lists u.rest more in
        let some : 0 < ends (ended i.lists ++ u.rest) = some_ends i.lists u.rest i.call.more i.count in
        let ws = waiting names macros old.sets old.frames.items in
        left_old names new macros old now more mach known g k file o ws (Stands t ∷ front names old.sets behind_name more) refl (front_old names new macros old now more mach known g k file (slot.Token h) behind_name u.slots_are)
        ∙ goes_call T law (o.does T) (o.rules T) ws t M args (held names old.sets u.closes) (front names old.sets behind_name more) (front names old.sets u.rest more) (LIMIT - old.used)
        (u.used ∙ ap (counted_call t M (held names old.sets u.closes) (list_of names old.sets u.rest more)) i.args) behind_same
        ∙ put_kept_then t M args raw H (expanded (expand T) (body_items M) 0 args (LIMIT - old.used)) (λ ts. goes_on_by (o.does T) T ws (before ts (front names old.sets u.rest more))) (ap (all_args names old.sets) i.raw ∙ all_kept_text names old.sets (is_whole M) 0 i.all)
        ∙ arguments_same T law t M raw args (all_args names old.sets i.lists) H (λ ts. goes_on_by (o.does T) T ws (before ts (front names old.sets u.rest more))) (LIMIT - old.used) (texts_arguments names old.sets i.all i.lists i.all_are)
        ∙ ap (λ a. (expanded (expand T) (body_items M) 0 a >>= λ fulls. put_for t M raw fulls H >>= λ ts. goes_on_by (o.does T) T ws (before ts (front names old.sets u.rest more))) (LIMIT - old.used)) (sym lf.0 ∙ ap (λ z. first_lists z ps) i.count)
        ∙ ap (λ q. (expanded (expand T) (body_items M) 0 (first_lists (suc i.call.more) ps) >>= λ fulls. put_for t M raw fulls H >>= λ ts. goes_on_by (o.does T) T ws (before ts q)) (LIMIT - old.used)) (sym lf.1 ∙ ap (λ z. behind_lists z ps) i.count)
        ∙ goes_first T law (o.does T) ws t M raw H i.call.more ps qs (LIMIT - old.used)
        (subst (λ s. IsDropped (is_wanted M 0) ps (front names old.sets s more)) (sym i.slots) (front_begun names old.sets more (is_wanted M 0) (ended i.lists ++ u.rest) some))
        ∙ sym (left_now names new macros old now more mach known g k file o (entered t M raw H i.call.more ∷ ws) qs (LIMIT - old.used)
        (ap (λ y. waiting y macros now.sets now.frames.items) x ∙ ap (waiting names macros now.sets) i.frames ∙ waiting_more names macros now.sets old.frames.items i.call
        ∙ ap (λ w. w ∷ waiting names macros now.sets old.frames.items) call_is
        ∙ ap (λ w. entered t M raw H i.call.more ∷ w) (sym (ap (λ y. waiting y macros now.sets old.frames.items) x) ∙ all_kept names new macros old now more mach known g k file))
        (ap (λ y. front y now.sets now.slots.items more) x ∙ slots_same) l) where
          some_ends : (lists : List (List Held)) (rest : List Slot) (mo : ℕ) → length lists ≡ suc mo → 0 < ends (ended lists ++ rest)
          some_ends lists rest mo e = let a = ends_lists lists rest in omega (arith, a, e)

          call_is : waiting_of names macros now.sets i.call ≡ entered (held names old.sets h) (macro_text names m) (all_args names old.sets i.call.raw) H i.call.more
          call_is =
              same _ _ _ _ _ _ _ _ _ _ _ _
              (ap (held names now.sets) i.name ∙ held_kept names names old.sets now.sets h (grows_same names) k mach.tables.named head_is_known)
              (ap (λ z. means_of names (macro_named z.token.text macros)) i.name ∙ ap (means_of names) looked)
              i.hide
              (all_args_kept names names old.sets now.sets i.call.raw (grows_same names) k mach.tables.named (raw_is_known i))
              (ap (all_args names now.sets) i.done)
              (ap (all_held names now.sets) i.out) where
                same : (n1 n2 : Token) (m1 m2 : MacroText) (h1 h2 : List Text) (r1 r2 d1 d2 : List (List Token)) (o1 o2 : List Token) → n1 ≡ n2 → m1 ≡ m2 → h1 ≡ h2 → r1 ≡ r2 → d1 ≡ d2 → o1 ≡ o2
                    → ◌≡◌ {A = Waiting} (record { name = n1; means = m1; hide = h1; raw = r1; done = d1; out = o1; more = i.call.more }) (record { name = n2; means = m2; hide = h2; raw = r2; done = d2; out = o2; more = i.call.more })
                same n1 n2 m1 m2 h1 h2 r1 r2 d1 d2 o1 o2 a b c d e f = cc

          slots_same : front names now.sets now.slots.items more ≡ front names old.sets now.slots.items more
          slots_same = ap (λ ps. ps ++ before more []) (pieces_kept names names (grows_same names) macros old.sets now.sets k mach.tables.named known now.slots.items (slots_are_known i))
