-- What a conditional directive leads to.
use Rattle.std.proofs.Common.{◌≡◌, Bool, true, false, cond, not, List, [], ◌∷◌, ◌++◌, map, length, drop, get_or, ◌≤◌, refl, ap, sym, ◌∙◌, subst, append-nil, arith}
use Rattle.std.specs.Prelude.{flat_map, codes, bytes_eq}
use Rattle.std.specs.List.{list_any}
use Rattle.cr_base.specs.NameTable.{with_text}
use Rattle.cr_base.specs.declared.cause.IllCause.TheVariants as cause
use Rattle.cr_base.specs.declared.cause.Role.TheVariants as role
use Rattle.cr_base.specs.declared.token.Place.{Place}
use Rattle.cr_base.specs.declared.token.PpTok.{PpTok}
use Rattle.cr_macros.specs.Definition.{text_of}
use Rattle.cr_macros.specs.Tokens.{Text, Token, is_ident, token_of, tokens_of}
use Rattle.cr_expand.specs.GoodMacros.{KeepsMacros}
use Rattle.cr_expand.specs.HideSets.{Grows}
use Rattle.cr_preproc.specs.declared.conditional.Decision.{Decision}
use Rattle.cr_preproc.specs.declared.conditional.Decision.TheVariants as decision
use Rattle.cr_preproc.specs.declared.open_ifs.Elif.TheVariants as elifs
use Rattle.cr_preproc.specs.OpenIfs.{by_elif}
use Rattle.cr_preproc.specs.declared.conditional.Led.{Led}
use Rattle.cr_preproc.specs.declared.conditional.Led.TheVariants as led
use Rattle.cr_preproc.specs.declared.expansion.Fault.{Fault}
use Rattle.cr_phase4.specs.declared.conditionals.Word.{Word}
use Rattle.cr_phase4.specs.declared.conditionals.Word.TheVariants.{If, Ifdef, Ifndef}
use Rattle.cr_phase4.specs.declared.conditionals.OpenIf.{OpenIf}
use Rattle.cr_preproc.specs.declared.progress.Progress.{Progress}
use Rattle.cr_preproc.specs.declared.trace.Trace.{Trace as KeptTrace}
use Rattle.cr_phase4.specs.Tasks.{Ill, Event, State, Reply, Goes, Ends, Task, Nothing, Done, behind, go_on, ◌>>>◌, only, ends, tell, look, marks, in_directive}
use Rattle.cr_phase4.specs.Runs.{expands}
use Rattle.cr_phase4.specs.Conditionals.{group_if, opened, is_live, is_macro, Piece, Other, Asks, pieces, answered, asking, condition, is_true, list_value, is_named, begun, elif, conditional}
use Rattle.cr_preproc.specs.Seen.{AreNamed, macros_of, answered_list}
use Rattle.cr_phase4.specs.Traces.{all_events_seen}
use Rattle.cr_preproc.specs.Expanding.{end_by}
use Rattle.cr_preproc.specs.Progressing.{state_of, kept, IsProgress, IsSeen, IsNotOpaque, IsTold, Did}
use Rattle.cr_preproc.specs.Leading.{Leads, IsLed, chosen, decided}
use Rattle.cr_preproc.proofs.Frames.{behind_then, then_assoc}
use Rattle.cr_preproc.proofs.NamesGrow.{tokens_later, grows_none, grows_more}
use Rattle.cr_preproc.proofs.Progresses.{joined_none, AreTaking, taking_both, taking_marks}
use Rattle.cr_preproc.proofs.Notings.{seen_did}
use Rattle.cr_preproc.proofs.Expandings.{more, state_more}
use Rattle.cr_preproc.proofs.Leadings.{behind_none, leads_same, leads_then, leads_from, did_leads, same_on, tell_state}

module _ (path : Text) (hash : Place) (cs ds : List OpenIf) where
  -- only what comes of the state matters
  pub led_as : (p q : Progress) (m n : Task (List OpenIf)) (l : Led) → m (state_of p) ≡ n (state_of p) → IsLed path hash p q cs ds n l → IsLed path hash p q cs ds m l
  led_as p q m n led.Goes e h = leads_from 0 p q _ _ _ e h
  led_as p q m n (led.Fails f) e h = (leads_from 0 p q _ _ _ e h.0, h.1, h.2)
  led_as p q m n (led.Asks d list) e h = (leads_from 0 p q _ _ _ e h.0, h.1, h.2, h.3)

  -- behind a task that was done and left the state as it was
  pub led_behind : {A : Type 0} (p q r : Progress) (m : Task A) (f : A → Task (List OpenIf)) (a : A) (l : Led) → IsProgress p → Did 0 p q m a → state_of q ≡ state_of p
      → IsLed path hash q r cs ds (f a) l → IsLed path hash p r cs ds (m >>> f) l
  led_behind p q r m f a led.Goes good d e h = leads_then 0 0 p q r _ _ _ good (did_leads 0 p q m f a d) h
  led_behind p q r m f a (led.Fails x) good d e h = (leads_then 0 0 p q r _ _ _ good (did_leads 0 p q m f a d) h.0, h.1, h.2 ∙ e)
  led_behind p q r m f a (led.Asks x list) good d e h = (leads_then 0 0 p q r _ _ _ good (did_leads 0 p q m f a d) h.0, h.1, h.2 ∙ e, h.3)

  -- where nothing was noted
  pub goes_led : (p : Progress) (m : Task (List OpenIf)) → m (state_of p) ≡ Goes ds (state_of p) [] → IsLed path hash p p cs ds m led.Goes
  goes_led p m e = leads_from 0 p p _ _ _ e (leads_same p (Goes ds (state_of p) []))

  pub fails_led : (p : Progress) (m : Task (List OpenIf)) (f : Fault) → m (state_of p) ≡ Ends (end_by f) [] → ds ≡ cs → IsLed path hash p p cs ds m (led.Fails f)
  fails_led p m f e h = (leads_from 0 p p _ _ _ e (leads_same p (Ends (end_by f) [])), h, refl)

  -- an `else` or an `endif` that is carried out or stands wrong
  pub ended_led : (p : Progress) (good : Bool) (m : Task (List OpenIf)) (l : Led) → l ≡ cond good led.Goes (led.Fails (record { cause = cause.StrayElse; place = hash }))
      → m (state_of p) ≡ cond good (only ds (state_of p)) (ends (Ill cause.StrayElse hash) (state_of p)) → (good ≡ false → ds ≡ cs) → IsLed path hash p p cs ds m l
  ended_led p true m l k e h = subst (IsLed path hash p p cs ds m) (sym k) (goes_led p m e)
  ended_led p false m l k e h = subst (IsLed path hash p p cs ds m) (sym k) (fails_led p m (record { cause = cause.StrayElse; place = hash }) e (h refl))

  pub at_word : (p q : Progress) (ts : List Token) (word k : Word) (l : Led) → word ≡ k → IsLed path hash p q cs ds (conditional path hash ts cs k) l → IsLed path hash p q cs ds (conditional path hash ts cs word) l
  at_word p q ts word k l e h = subst (λ x. IsLed path hash p q cs ds (conditional path hash ts cs x) l) (sym e) h

  -- a conditional directive, whose word is noted first where it is live
  pub word_noted : (p q r : Progress) (noted live : Bool) (t : Token) (ts us : List Token) (word : Word) (l : Led) → IsProgress p → Did 0 p q (tell (cond noted (marks role.Directive t) [])) Done → noted ≡ live → us ≡ ts
      → IsLed path hash q r cs ds (conditional path hash us cs word) l → IsLed path hash p r cs ds (tell (cond live (marks role.Directive t) []) >>> λ d. conditional path hash ts cs word) l
  word_noted p q r noted live t ts us word l good did e f h =
      subst (λ b. IsLed path hash p r cs ds (tell (cond b (marks role.Directive t) []) >>> λ d. conditional path hash ts cs word) l) e
      (led_behind p q r (tell (cond noted (marks role.Directive t) [])) (λ d. conditional path hash ts cs word) Done l good did (tell_state 0 p q (cond noted (marks role.Directive t) []) did) (subst (λ x. IsLed path hash q r cs ds (conditional path hash x cs word) l) f h))

pub live_if : (path : Text) (hash : Place) (ts : List Token) (cs : List OpenIf) (s : State) → is_live cs ≡ true → conditional path hash ts cs If s ≡ (condition path hash ts >>> λ b. only (opened hash (group_if b) cs)) s
live_if path hash ts cs s e = ap (λ b. begun hash cs b (condition path hash ts) s) e

-- what an `ifdef` or an `ifndef` on a live line does
abbrev pub opens_named : Bool → Place → List OpenIf → List Token → Task (List OpenIf)
opens_named true hash cs ts = is_named hash ts >>> λ b. only (opened hash (group_if b) cs)
opens_named false hash cs ts = (is_named hash ts >>> λ b. only (not b)) >>> λ b. only (opened hash (group_if b) cs)

pub live_named : (wanted : Bool) (path : Text) (hash : Place) (ts : List Token) (cs : List OpenIf) (s : State) → is_live cs ≡ true → conditional path hash ts cs (cond wanted Ifdef Ifndef) s ≡ opens_named wanted hash cs ts s
live_named true path hash ts cs s e = ap (λ b. begun hash cs b (is_named hash ts) s) e
live_named false path hash ts cs s e = ap (λ b. begun hash cs b (is_named hash ts >>> λ b. only (not b)) s) e

pub live_if_led : (path : Text) (hash : Place) (ts : List Token) (cs : List OpenIf) (p q : Progress) (l : Led) → is_live cs ≡ true
    → IsLed path hash p q cs cs (condition path hash ts >>> λ b. only (chosen decision.If hash cs b)) l → IsLed path hash p q cs cs (conditional path hash ts cs If) l
live_if_led path hash ts cs p q l e h = led_as path hash cs cs p q (conditional path hash ts cs If) (condition path hash ts >>> λ b. only (chosen decision.If hash cs b)) l (live_if path hash ts cs (state_of p) e) h

pub asks_led : (path : Text) (hash : Place) (ts : List Token) (cs : List OpenIf) (p q : Progress) (l : Led) → elif path hash ts cs (state_of p) ≡ by_elif path hash ts cs elifs.Asks (state_of p)
    → IsLed path hash p q cs cs (condition path hash ts >>> λ b. only (chosen decision.Elif hash cs b)) l → IsLed path hash p q cs cs (elif path hash ts cs) l
asks_led path hash ts cs p q l e h = led_as path hash cs cs p q (elif path hash ts cs) (by_elif path hash ts cs elifs.Asks) l e h

abbrev answers : Token → Nothing → Task Bool
answers t d = look >>> λ s. only (is_macro s t)

named_at : (b : Bool) (hash : Place) (t : Token) (ts : List Token) (s : State) → is_ident t.kind ≡ b → is_named hash (t ∷ ts) s ≡ cond b ((tell (marks role.Directive t) >>> answers t) s) (ends (Ill cause.BadDirective hash) s)
named_at true hash t ts s e = ap {A = Bool} (λ b. cond b (tell (marks role.Directive t) >>> answers t) (ends (Ill cause.BadDirective hash)) s) e
named_at false hash t ts s e = ap {A = Bool} (λ b. cond b (tell (marks role.Directive t) >>> answers t) (ends (Ill cause.BadDirective hash)) s) e

-- the token is no name
pub not_named : (wanted : Bool) (hash : Place) (t : Token) (ts : List Token) (cs : List OpenIf) (s : State) → is_ident t.kind ≡ false → opens_named wanted hash cs (t ∷ ts) s ≡ Ends (Ill cause.BadDirective hash) []
not_named true hash t ts cs s e = ap (λ r. go_on r (λ b. only (opened hash (group_if b) cs))) (named_at false hash t ts s e)
not_named false hash t ts cs s e = ap (λ r. go_on (go_on r (λ b. only (not b))) (λ b. only (opened hash (group_if b) cs))) (named_at false hash t ts s e)

pub not_named_led : (wanted : Bool) (path : Text) (hash : Place) (t : Token) (ts : List Token) (cs : List OpenIf) (p : Progress) (l : Led) → l ≡ led.Fails (record { cause = cause.BadDirective; place = hash }) → is_live cs ≡ true → is_ident t.kind ≡ false
    → IsLed path hash p p cs cs (conditional path hash (t ∷ ts) cs (cond wanted Ifdef Ifndef)) l
not_named_led wanted path hash t ts cs p l k live e =
    subst (IsLed path hash p p cs cs (conditional path hash (t ∷ ts) cs (cond wanted Ifdef Ifndef))) (sym k)
    (fails_led path hash cs cs p (conditional path hash (t ∷ ts) cs (cond wanted Ifdef Ifndef)) (record { cause = cause.BadDirective; place = hash })
    (live_named wanted path hash (t ∷ ts) cs (state_of p) live ∙ not_named wanted hash t ts cs (state_of p) e) refl)

-- a list begins with its first token
pub head_named : (names : List Text) (tokens : List PpTok) (d : PpTok) → 1 ≤ length tokens → ◌≡◌ {A = List Token} (token_of names [] (get_or tokens 0 d) ∷ tokens_of names (drop 1 tokens)) (tokens_of names tokens)
head_named names [] d h = absurd (omega arith)
head_named names (t ∷ tokens) d h = refl

asking_taken : (ps : List Piece) → AreTaking IsNotOpaque (flat_map asking ps)
asking_taken [] = tt
asking_taken (Other t ∷ ps) = asking_taken ps
asking_taken (Asks t name ∷ ps) =
    taking_both IsNotOpaque (marks role.Directive t ++ marks role.Directive name) (flat_map asking ps)
    (taking_both IsNotOpaque (marks role.Directive t) (marks role.Directive name) (taking_marks IsNotOpaque role.Directive t tt) (taking_marks IsNotOpaque role.Directive name tt))
    (asking_taken ps)

abbrev answers_list : State → List Token → List Token
answers_list s ts = map (answered (is_macro s)) (pieces 0 ts)

abbrev tests : Place → List Token → Task Bool
tests hash us = tell (flat_map (marks role.Controlling) us) >>> λ d. is_true hash (list_value us)

pub condition_asks : (path : Text) (hash : Place) (ts : List Token) (d : Decision) (cs : List OpenIf) (s : State)
    → (condition path hash ts >>> λ b. only (chosen d hash cs b)) s
    ≡ behind (flat_map asking (pieces 0 ts)) ((in_directive hash (expands path (answers_list s ts)) >>> λ us. decided d hash cs us) s)
condition_asks path hash ts d cs s =
    ap (λ r. go_on r choice) (behind_none (behind asks (go_on list (λ us. tests hash us))))
    ∙ behind_then asks (go_on list (λ us. tests hash us)) choice
    ∙ ap (behind asks)
    (then_assoc list (λ us. tests hash us) choice
    ∙ same_on list (λ us. tests hash us >>> choice) (λ us. decided d hash cs us) (λ us s1. then_assoc (tell (flat_map (marks role.Controlling) us) s1) (λ n. is_true hash (list_value us)) choice)) where
      asks : List Event
      asks = flat_map asking (pieces 0 ts)

      list : Reply (List Token)
      list = in_directive hash (expands path (answers_list s ts)) s

      choice : Bool → Task (List OpenIf)
      choice b = only (chosen d hash cs b)

names_told : (p : Progress) (names : List Text) (trace : KeptTrace) → trace ≡ p.trace → IsProgress p → Grows p.names names → IsTold p (more p names trace) []
names_told p names trace e good g = record {
  tokens = tokens_later p.names names p.tokens.items g good.tokens ∙ sym (append-nil (tokens_of p.names p.tokens.items));
  trace = ap kept e ∙ sym (joined_none (text_of p.names p.renaming.old) (text_of p.names p.renaming.new) (kept p.trace));
  renaming = refl;
  names = g;
}

grows_text : (names : List Text) (text : Text) → Grows names (with_text names text)
grows_text names text = go (list_any (bytes_eq text) names) where
  go : (b : Bool) → Grows names (cond b names (names ++ text ∷ []))
  go true = grows_none names
  go false = (text ∷ [], refl)

-- the table of names grows by `0` and `1`
pub grows_digits : (names new : List Text) → new ≡ with_text (with_text names (codes "0")) (codes "1") → Grows names new
grows_digits names new e =
    subst (λ n. Grows names n) (sym e)
    (grows_more names (with_text names (codes "0")) (with_text (with_text names (codes "0")) (codes "1")) (grows_text names (codes "0")) (grows_text (with_text names (codes "0")) (codes "1")))

pub asked_led : (p : Progress) (names : List Text) (trace : KeptTrace) (list made : List PpTok) (path : Text) (hash : Place) (d : Decision) (cs : List OpenIf)
    → KeepsMacros → IsProgress p → AreNamed p.names list → Grows p.names names
    → IsSeen p (record p { trace = trace }) (all_events_seen (text_of p.names p.renaming.old) (text_of p.names p.renaming.new) (flat_map asking (pieces 0 (tokens_of p.names list))))
    → tokens_of names made ≡ answered_list (macros_of names p.macros) (tokens_of names list)
    → Leads 0 p (more p names trace) ((condition path hash (tokens_of p.names list) >>> λ b. only (chosen d hash cs b)) (state_of p)) ((in_directive hash (expands path (tokens_of names made)) >>> λ us. decided d hash cs us) (state_of (more p names trace)))
asked_led p names trace list made path hash d cs law good named g seen e =
    leads_then 0 0 p q (more p names trace) _ _ _ good
    (leads_from 0 p q _ _ _ (condition_asks path hash ts d cs (state_of p)) (did_leads 0 p q (tell asks) (λ n. left (answers_list (state_of p) ts)) Done did))
    (record {
      events = [];
      size = refl;
      goes =
          ap (λ us. left us (state_of p)) (sym same) ∙ ap (left (tokens_of names made)) (sym (state_more p names trace law good g))
          ∙ sym (behind_none (left (tokens_of names made) (state_of (more p names trace))));
      told = names_told q names trace refl did.good g;
    }) where
      ts : List Token
      ts = tokens_of p.names list

      asks : List Event
      asks = flat_map asking (pieces 0 ts)

      q : Progress
      q = record p { trace = trace }

      did : Did 0 p q (tell asks) Done
      did = seen_did p q asks good (asking_taken (pieces 0 ts)) seen

      left : List Token → State → Reply (List OpenIf)
      left us = in_directive hash (expands path us) >>> λ vs. decided d hash cs vs

      same : tokens_of names made ≡ answers_list (state_of p) ts
      same =
          e ∙ ap (λ m. answered_list m (tokens_of names list)) (ap (λ s. s.macro) (state_more p names trace law good g))
          ∙ ap (answered_list (macros_of p.names p.macros)) (tokens_later p.names names list g named)
