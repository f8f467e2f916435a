-- Steps of the machine, by the use of the head.
use Rattle.std.proofs.Common.{◌≡◌, ℕ, ◌+◌, ◌-◌, ◌≤◌, List, [], ◌∷◌, ◌++◌, map, drop, reverse, refl, sym, ap, subst, ◌∙◌, arith, append-nil, Some}
use Rattle.std.specs.List.{All}
use Rattle.std.proofs.lemmas.List.{map-append, reverse-append}
use Rattle.std.proofs.lemmas.List.Elements.{All-head, All-tail, All-weaker, All-nil, All-cons}
use Rattle.cr_base.specs.declared.token.PpKind.{PpKind}
use Rattle.cr_base.specs.declared.cause.Role.TheVariants.{MacroName}
use Rattle.cr_macros.specs.declared.macros.Seen.{Seen}
use Rattle.cr_expand.specs.declared.held.Held.{Held}
use Rattle.cr_expand.specs.declared.slot.Slot.{Slot}
use Rattle.cr_expand.specs.declared.slot.Slot.TheVariants as slot
use Rattle.cr_expand.specs.declared.machine.Machine.{Machine}
use Rattle.cr_expand.specs.declared.machine.ExpStep.{ExpStep}
use Rattle.cr_expand.specs.declared.machine.ExpStep.TheVariants as step
use Rattle.cr_expand.specs.declared.machine.TheConstants.{LIMIT}
use Rattle.cr_macros.specs.Tokens.{Text, Token, token_of, Event, Rule, Answer, Work, after, takes}
use Rattle.cr_macros.specs.Substitution.{made}
use Rattle.cr_macros.specs.Definition.{text_of}
use Rattle.cr_macros.specs.Expansion.{Table, Keep, Predefined, use_of}
use Rattle.cr_macros.specs.Laws.{FollowsTheRules}
use Rattle.cr_macros.specs.MacroTables.{Macros, table_of}
use Rattle.cr_expand.specs.HideSets.{Sets, Grows}
use Rattle.cr_expand.specs.Held.{held, all_held, hidden, noted, watch_of}
use Rattle.cr_expand.specs.Frames.{Call}
use Rattle.cr_expand.specs.Ahead.{next_token}
use Rattle.cr_expand.specs.Running.{Waiting, Piece, Stands, current, before, goes_on_by, goes_on, leads}
use Rattle.cr_expand.specs.Slots.{piece, pieces, tokens, IsSlotKnown, AreSlotsKnown}
use Rattle.cr_expand.specs.Machines.{waiting_of, waiting, still, ahead, IsCallHeld, IsCallKnown, IsMachine, AreMacros, IsGiven, IsUse, IsTurnStep, IsPredefinedUse, uses}
use Rattle.cr_expand.proofs.Noted.{noted_append}
use Rattle.cr_expand.proofs.Sets.{grows_same}
use Rattle.cr_expand.proofs.Quiet.{uses_append, takes_none}
use Rattle.cr_expand.proofs.Going.{leads_none, with_out, predefined_events, outer_keeps, inner_keeps, outer_predefined, inner_predefined, next_keeps, next_predefined, Outermost, expanding, seeking, gave_next}
use Rattle.cr_expand.proofs.KeptMachine.{table_kept, all_waiting_kept, waiting_of_kept, pieces_kept}

pub all_front : {A : Type 0} (P : A → Type 0) (xs : List A) (x : A) → All P (xs ++ x ∷ []) → All P xs
all_front P [] x h = All-nil P
all_front P (y ∷ xs) x h = All-cons P y xs (All-head P y (xs ++ x ∷ []) h) (all_front P xs x (All-tail P y (xs ++ x ∷ []) h))

pub all_last : {A : Type 0} (P : A → Type 0) (xs : List A) (x : A) → All P (xs ++ x ∷ []) → P x
all_last P [] x h = All-head P x [] h
all_last P (y ∷ xs) x h = all_last P xs x (All-tail P y (xs ++ x ∷ []) h)

-- the innermost call comes first
pub waiting_more : (names : List Text) (macros : Macros) (sets : Sets) (cs : List Call) (c : Call) → waiting names macros sets (cs ++ c ∷ []) ≡ waiting_of names macros sets c ∷ waiting names macros sets cs
waiting_more names macros sets cs c =
    ap reverse (map-append (waiting_of names macros sets) cs (c ∷ [])) ∙ reverse-append (map {A = Call} (waiting_of names macros sets) cs) (waiting_of names macros sets c ∷ [])

-- the call with one more token in its argument's expansion
pub waiting_out : (names : List Text) (macros : Macros) (sets : Sets) (c : Call) (h : Held) → waiting_of names macros sets (record c { out = c.out ++ h ∷ [] }) ≡ with_out (waiting_of names macros sets c) (held names sets h)
waiting_out names macros sets c h =
    ap {B = Waiting} (λ o. record (waiting_of names macros sets c) { out = o }) (map-append (λ x. held names sets x) c.out (h ∷ []))

-- what the slots and more tokens are
abbrev pub front : List Text → Sets → List Slot → List Token → List Piece
front names sets slots more = pieces names sets slots ++ before more []

pub front_tokens : (names : List Text) (sets : Sets) (hs : List Held) (rest : List Slot) (more : List Token) → front names sets (tokens hs ++ rest) more ≡ before (all_held names sets hs) (front names sets rest more)
front_tokens names sets [] rest more = refl
front_tokens names sets (h ∷ hs) rest more = ap (λ ps. Stands (held names sets h) ∷ ps) (front_tokens names sets hs rest more)

-- What a machine gives, by what is done with the list that no call waits for.
abbrev pub left_by : {A : Type 0} → (Table → List Token → Work A) → List Text → Macros → Machine → List Token → Answer A
left_by does names macros m more =
    goes_on_by (does (table_of names macros (text_of names m.file))) (table_of names macros (text_of names m.file)) (waiting names macros m.sets m.frames.items) (front names m.sets m.slots.items more) (LIMIT - m.used)

pub goes_same : {A : Type 0} (o : Outermost A) (table table2 : Table) (ws ws2 : List Waiting) (ps ps2 : List Piece) (left left2 : ℕ) → table ≡ table2 → ws ≡ ws2 → ps ≡ ps2 → left ≡ left2
    → goes_on_by (o.does table) table ws ps left ≡ goes_on_by (o.does table2) table2 ws2 ps2 left2
goes_same o table table2 ws ws2 ps ps2 left left2 a b c d = rw (a, b, c, d) refl

pub same_sets : (old new : Sets) → new ≡ old → Grows old new
same_sets old new e = subst (λ s. Grows old s) (sym e) (grows_same old)

with_rule : (names : List Text) (m : Machine) (s0 s1 : List Seen) (events : List Event) → s1 ≡ s0 ++ noted (watch_of names m.notes) events → s1 ≡ s0 ++ noted (watch_of names m.notes) (events ++ Rule ∷ [])
with_rule names m s0 s1 events e = e ∙ ap (λ l. s0 ++ l) (sym (noted_append (watch_of names m.notes) events (Rule ∷ []) ∙ append-nil (noted (watch_of names m.notes) events)))

one_predefined : (t : Token) → uses (predefined_events t) ≡ 1
one_predefined t = let a = uses_append (takes MacroName t) (Rule ∷ []) in let b = takes_none MacroName t in omega (arith, a, b)

module _ (names new : List Text) (macros : Macros) (old now : Machine) (more : List Token) (mach : IsMachine names macros old) (known : AreMacros names macros) (g : Grows names new) (k : Grows old.sets now.sets) (file : now.file ≡ old.file) where
  abbrev pub table_of_old : Table
  table_of_old = table_of names macros (text_of names old.file)

  pub calls_held : All (IsCallHeld names macros old.sets) old.frames.items
  calls_held = All-weaker (IsCallKnown names macros old.sets) (IsCallHeld names macros old.sets) (λ c h. h.holds) old.frames.items mach.calls

  table_now : table_of new macros (text_of new now.file) ≡ table_of_old
  table_now = ap (λ f. table_of new macros (text_of new f)) file ∙ table_kept names new g macros old.file known mach.file

  pub left_old : {A : Type 0} (o : Outermost A) (ws : List Waiting) (ps : List Piece) → waiting names macros old.sets old.frames.items ≡ ws → front names old.sets old.slots.items more ≡ ps
      → left_by o.does names macros old more ≡ goes_on_by (o.does table_of_old) table_of_old ws ps (LIMIT - old.used)
  left_old o ws ps a b = goes_same o _ _ _ _ _ _ _ _ refl a b refl

  pub left_now : {A : Type 0} (o : Outermost A) (ws : List Waiting) (ps : List Piece) (left : ℕ) → waiting new macros now.sets now.frames.items ≡ ws → front new now.sets now.slots.items more ≡ ps → LIMIT - now.used ≡ left
      → left_by o.does new macros now more ≡ goes_on_by (o.does table_of_old) table_of_old ws ps left
  left_now o ws ps left a b c = goes_same o _ _ _ _ _ _ _ _ table_now a b c

  pub waiting_kept : (cs : List Call) → All (IsCallHeld names macros old.sets) cs → waiting new macros now.sets cs ≡ waiting names macros old.sets cs
  waiting_kept cs h = ap reverse (all_waiting_kept names new g macros old.sets now.sets k mach.tables.named known cs h)

  pub front_kept : (slots : List Slot) → AreSlotsKnown names old.sets slots → front new now.sets slots more ≡ front names old.sets slots more
  front_kept slots h = ap (λ ps. ps ++ before more []) (pieces_kept names new g macros old.sets now.sets k mach.tables.named known slots h)

  -- the head at the front
  pub front_old : (s : Slot) (rest : List Slot) → old.slots.items ≡ s ∷ rest → front names old.sets old.slots.items more ≡ piece names old.sets s ∷ front names old.sets rest more
  front_old s rest e = ap (λ l. front names old.sets l more) e

  pub rest_known : (s : Slot) (rest : List Slot) → old.slots.items ≡ s ∷ rest → AreSlotsKnown names old.sets rest
  rest_known s rest e = All-tail (IsSlotKnown names old.sets) s rest (subst (AreSlotsKnown names old.sets) e mach.slots)

  front_now : (s : Slot) (rest : List Slot) → old.slots.items ≡ s ∷ rest → now.slots.items ≡ drop 1 old.slots.items → front new now.sets now.slots.items more ≡ front names old.sets rest more
  front_now s rest e d = ap (λ l. front new now.sets l more) (d ∙ ap (drop 1) e) ∙ front_kept rest (rest_known s rest e)

  -- a call with one more token, where the calls were these
  out_now : (cs : List Call) (c : Call) (h : Held) (t : Token) → old.frames.items ≡ cs ++ c ∷ [] → now.frames.items ≡ cs ++ (record c { out = c.out ++ h ∷ [] }) ∷ [] → held new now.sets h ≡ t
      → waiting new macros now.sets now.frames.items ≡ with_out (waiting_of names macros old.sets c) t ∷ waiting names macros old.sets cs
  out_now cs c h t e f a =
      let all : All (IsCallHeld names macros old.sets) (cs ++ c ∷ []) = subst (All (IsCallHeld names macros old.sets)) e calls_held in
      ap (waiting new macros now.sets) f ∙ waiting_more new macros now.sets cs (record c { out = c.out ++ h ∷ [] })
      ∙ ap (λ w. w ∷ waiting new macros now.sets cs) (waiting_out new macros now.sets c h
      ∙ ap (with_out (waiting_of new macros now.sets c)) a
      ∙ ap (λ w. with_out w t) (waiting_of_kept names new g macros old.sets now.sets k mach.tables.named known c (all_last (IsCallHeld names macros old.sets) cs c all)))
      ∙ ap (λ ws. with_out (waiting_of names macros old.sets c) t ∷ ws) (waiting_kept cs (all_front (IsCallHeld names macros old.sets) cs c all))

  pub calls_old : (cs : List Call) (c : Call) → old.frames.items ≡ cs ++ c ∷ [] → waiting names macros old.sets old.frames.items ≡ waiting_of names macros old.sets c ∷ waiting names macros old.sets cs
  calls_old cs c e = ap (waiting names macros old.sets) e ∙ waiting_more names macros old.sets cs c

  -- the next token is given
  given_ahead : (h : Held) (rest : List Slot) (one t : Token) (left : ℕ) (events : List Event) → old.slots.items ≡ slot.Token h ∷ rest → old.frames.items ≡ []
      → next_token table_of_old (held names old.sets h ∷ current (front names old.sets rest more)) (LIMIT - old.used) ≡ gave_next one (current (front names old.sets rest more)) left events
      → one ≡ t → left ≡ LIMIT - now.used → ahead names macros old more ≡ gave_next t (current (front names old.sets rest more)) (LIMIT - now.used) events
  given_ahead h rest one t left events e f n a b =
      left_old seeking [] (Stands (held names old.sets h) ∷ front names old.sets rest more) (ap (waiting names macros old.sets) f) (front_old (slot.Token h) rest e)
      ∙ n ∙ ap (λ y. gave_next y (current (front names old.sets rest more)) left events) a ∙ ap (λ y. gave_next t (current (front names old.sets rest more)) y events) b

  -- and what is behind it comes next
  behind_ahead : (h : Held) (rest : List Slot) → old.slots.items ≡ slot.Token h ∷ rest → now.slots.items ≡ drop 1 old.slots.items → now.frames.items ≡ []
      → ahead new macros now more ≡ next_token (table_of new macros (text_of new now.file)) (current (front names old.sets rest more)) (LIMIT - now.used)
  behind_ahead h rest e d f = goes_same seeking _ _ _ _ _ _ _ _ refl (ap (waiting new macros now.sets) f) (front_now (slot.Token h) rest e d) refl

  -- a token that stays inside a call
  inner_stays : {A : Type 0} (o : Outermost A) (law : FollowsTheRules) (h : Held) (rest : List Slot) (cs : List Call) (c : Call) → old.slots.items ≡ slot.Token h ∷ rest
      → use_of table_of_old (held names old.sets h) (current (front names old.sets rest more)) ≡ Keep
      → now.slots.items ≡ drop 1 old.slots.items → LIMIT - now.used ≡ LIMIT - old.used → held new now.sets h ≡ held names old.sets h
      → old.frames.items ≡ cs ++ c ∷ [] → now.frames.items ≡ cs ++ (record c { out = c.out ++ h ∷ [] }) ∷ [] → left_by o.does names macros old more ≡ after (Rule ∷ []) (left_by o.does new macros now more)
  inner_stays o law h rest cs c e u d l a f f2 =
      left_old o (waiting_of names macros old.sets c ∷ waiting names macros old.sets cs) (Stands (held names old.sets h) ∷ front names old.sets rest more) (calls_old cs c f) (front_old (slot.Token h) rest e)
      ∙ inner_keeps table_of_old law (o.does table_of_old) (o.rules table_of_old) (waiting names macros old.sets cs) (waiting_of names macros old.sets c) (held names old.sets h) (front names old.sets rest more) (LIMIT - old.used) u
      ∙ ap (after (Rule ∷ [])) (sym (left_now o (with_out (waiting_of names macros old.sets c) (held names old.sets h) ∷ waiting names macros old.sets cs) (front names old.sets rest more) (LIMIT - old.used)
      (out_now cs c h (held names old.sets h) f f2 a) (front_now (slot.Token h) rest e d) l))

  -- a token that stays is given
  pub keeps : (law : FollowsTheRules) (h : Held) (rest : List Slot) (s : ExpStep) (t : Token) → old.slots.items ≡ slot.Token h ∷ rest → use_of table_of_old (held names old.sets h) (current (front names old.sets rest more)) ≡ Keep
      → now.slots.items ≡ drop 1 old.slots.items → LIMIT - now.used ≡ LIMIT - old.used → now.notes.seen.items ≡ old.notes.seen.items → held new now.sets h ≡ held names old.sets h
      → IsGiven old.frames.items h now.frames.items s → IsTurnStep names new macros old now more (Some s)
  keeps law h rest (step.Out t) x e u d l n a i =
      let hide = hidden new now.sets h.hide.0 in
      let same : held names old.sets h ≡ token_of new hide t = sym a ∙ ap (token_of new hide) (sym i.2) in
      let used : IsUse names new macros old now more (token_of new hide t ∷ []) = record {
        events = Rule ∷ [];
        one = refl;
        last = ([], refl);
        goes = left_old (expanding law) [] (Stands (held names old.sets h) ∷ front names old.sets rest more) (ap (waiting names macros old.sets) i.0) (front_old (slot.Token h) rest e)
            ∙ outer_keeps table_of_old law (held names old.sets h) (front names old.sets rest more) (LIMIT - old.used) u
            ∙ ap (λ y. leads (y ∷ []) (Rule ∷ []) (goes_on table_of_old [] (front names old.sets rest more) (LIMIT - old.used))) same
            ∙ ap (leads (token_of new hide t ∷ []) (Rule ∷ [])) (sym (left_now (expanding law) [] (front names old.sets rest more) (LIMIT - old.used) (ap (waiting new macros now.sets) i.1) (front_now (slot.Token h) rest e d) l));
        seen = with_rule names old old.notes.seen.items now.notes.seen.items [] (n ∙ sym (append-nil old.notes.seen.items));
      } in (
        (hide, used),
        (
          hide,
          used,
          current (front names old.sets rest more),
          given_ahead h rest (held names old.sets h) (token_of new hide t) (LIMIT - old.used) (Rule ∷ []) e i.0 (next_keeps table_of_old (held names old.sets h) (current (front names old.sets rest more)) (LIMIT - old.used) u) same (sym l),
          behind_ahead h rest e d i.1,
        ),
      )
  keeps law h rest step.More x e u d l n a (cs, c, f, f2) =
      let used : IsUse names new macros old now more [] = record {
        events = Rule ∷ [];
        one = refl;
        last = ([], refl);
        goes = inner_stays (expanding law) law h rest cs c e u d l a f f2 ∙ leads_none (Rule ∷ []) (still new macros now more);
        seen = with_rule names old old.notes.seen.items now.notes.seen.items [] (n ∙ sym (append-nil old.notes.seen.items));
      } in
      (used, (used, inner_stays seeking law h rest cs c e u d l a f f2))
  keeps law h rest step.Hungry x e u d l n a i = absurd i
  keeps law h rest step.End x e u d l n a i = absurd i

  -- a predefined macro's token, inside a call
  inner_gives : {A : Type 0} (o : Outermost A) (law : FollowsTheRules) (h : Held) (kind : PpKind) (text : Text) (rest : List Slot) (cs : List Call) (c : Call) (one : Held) → old.slots.items ≡ slot.Token h ∷ rest
      → use_of table_of_old (held names old.sets h) (current (front names old.sets rest more)) ≡ Predefined kind text
      → now.slots.items ≡ drop 1 old.slots.items → now.used ≡ old.used + 2 → now.used ≤ LIMIT → held new now.sets one ≡ made (held names old.sets h) kind text h.token.space []
      → old.frames.items ≡ cs ++ c ∷ [] → now.frames.items ≡ cs ++ (record c { out = c.out ++ one ∷ [] }) ∷ [] → left_by o.does names macros old more ≡ after (predefined_events (held names old.sets h)) (left_by o.does new macros now more)
  inner_gives o law h kind text rest cs c one e u d w m a f f2 =
      left_old o (waiting_of names macros old.sets c ∷ waiting names macros old.sets cs) (Stands (held names old.sets h) ∷ front names old.sets rest more) (calls_old cs c f) (front_old (slot.Token h) rest e)
      ∙ inner_predefined table_of_old law (o.does table_of_old) (o.rules table_of_old) (waiting names macros old.sets cs) (waiting_of names macros old.sets c) (held names old.sets h) kind text (front names old.sets rest more) (LIMIT - old.used) u (omega (arith, w, m))
      ∙ ap (after (predefined_events (held names old.sets h)))
      (sym (left_now o (with_out (waiting_of names macros old.sets c) (made (held names old.sets h) kind text h.token.space []) ∷ waiting names macros old.sets cs) (front names old.sets rest more) (LIMIT - old.used - 2)
      (out_now cs c one (made (held names old.sets h) kind text h.token.space []) f f2 a) (front_now (slot.Token h) rest e d) (omega (arith, w))))

  -- a predefined macro's token is given
  pub predefines : (law : FollowsTheRules) (h : Held) (kind : PpKind) (text : Text) (rest : List Slot) (s : ExpStep) → old.slots.items ≡ slot.Token h ∷ rest
      → use_of table_of_old (held names old.sets h) (current (front names old.sets rest more)) ≡ Predefined kind text
      → now.slots.items ≡ drop 1 old.slots.items → now.sets ≡ old.sets → IsPredefinedUse names new old now h (kind, text) s → IsTurnStep names new macros old now more (Some s)
  predefines law h kind text rest (step.Out t) e u d b p =
      let hide = hidden new now.sets p.one.hide.0 in
      let same : made (held names old.sets h) kind text h.token.space [] ≡ token_of new hide t = sym (ap (λ z. held new z p.one) b ∙ p.made) ∙ ap (token_of new hide) (sym p.gives.2) in
      let used : IsUse names new macros old now more (token_of new hide t ∷ []) = record {
        events = predefined_events (held names old.sets h);
        one = one_predefined (held names old.sets h);
        last = (takes MacroName (held names old.sets h), refl);
        goes = left_old (expanding law) [] (Stands (held names old.sets h) ∷ front names old.sets rest more) (ap (waiting names macros old.sets) p.gives.0) (front_old (slot.Token h) rest e)
            ∙ outer_predefined table_of_old law (held names old.sets h) kind text (front names old.sets rest more) (LIMIT - old.used) u (omega (arith, p.used, p.limit))
            ∙ ap (λ y. leads (y ∷ []) (predefined_events (held names old.sets h)) (goes_on table_of_old [] (front names old.sets rest more) (LIMIT - old.used - 2))) same
            ∙ ap (leads (token_of new hide t ∷ []) (predefined_events (held names old.sets h)))
            (sym (left_now (expanding law) [] (front names old.sets rest more) (LIMIT - old.used - 2) (ap (waiting new macros now.sets) p.gives.1) (front_now (slot.Token h) rest e d) (omega (arith, p.used))));
        seen = with_rule names old old.notes.seen.items now.notes.seen.items (takes MacroName (held names old.sets h)) p.seen;
      } in (
        (hide, used),
        (
          hide,
          used,
          current (front names old.sets rest more),
          given_ahead h rest (made (held names old.sets h) kind text h.token.space []) (token_of new hide t) (LIMIT - old.used - 2) (predefined_events (held names old.sets h)) e p.gives.0
              (next_predefined table_of_old (held names old.sets h) kind text (current (front names old.sets rest more)) (LIMIT - old.used) u (omega (arith, p.used, p.limit))) same (omega (arith, p.used)),
          behind_ahead h rest e d p.gives.1,
        ),
      )
  predefines law h kind text rest step.More e u d b p = by p.gives where
    by : IsGiven old.frames.items p.one now.frames.items step.More → IsTurnStep names new macros old now more (Some step.More)
    by (cs, c, f, f2) =
        let same = ap (λ z. held new z p.one) b ∙ p.made in
        let used : IsUse names new macros old now more [] = record {
          events = predefined_events (held names old.sets h);
          one = one_predefined (held names old.sets h);
          last = (takes MacroName (held names old.sets h), refl);
          goes = inner_gives (expanding law) law h kind text rest cs c p.one e u d p.used p.limit same f f2 ∙ leads_none (predefined_events (held names old.sets h)) (still new macros now more);
          seen = with_rule names old old.notes.seen.items now.notes.seen.items (takes MacroName (held names old.sets h)) p.seen;
        } in
        (used, (used, inner_gives seeking law h kind text rest cs c p.one e u d p.used p.limit same f f2))
  predefines law h kind text rest step.Hungry e u d b p = absurd p.gives
  predefines law h kind text rest step.End e u d b p = absurd p.gives
