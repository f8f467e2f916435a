-- What is left of the list of a conditional, use by use, and what it decides.
use Rattle.std.proofs.Common.{◌≡◌, ◌≤◌, ℕ, ◌+◌, ◌-◌, List, [], ◌∷◌, ◌++◌, length, map, refl, sym, ap, ◌∙◌, arith, append-nil, append_assoc, Bool, cond, Ok, Err}
use Rattle.std.specs.Prelude.{flat_map}
use Rattle.std.proofs.lemmas.List.{map-append}
use Rattle.std.proofs.lemmas.List.Sums.{sum_by-cons}
use Rattle.cr_base.specs.declared.cause.Role.{Role}
use Rattle.cr_base.specs.declared.cause.Role.TheVariants.{Controlling}
use Rattle.cr_base.specs.declared.token.Place.{Place}
use Rattle.cr_base.specs.declared.token.PpTok.{PpTok}
use Rattle.cr_base.specs.declared.unit.Unit.{Unit}
use Rattle.cr_cond.specs.Value.{value_of, numbered}
use Rattle.cr_macros.specs.Tokens.{Text, Token, token_of, tokens_of, Event as Telling, Rule, Taken, Answer, Gave, Stopped}
use Rattle.cr_expand.specs.GoodMacros.{KeepsMacros}
use Rattle.cr_expand.specs.Expanders.{plain}
use Rattle.cr_expand.specs.Machines.{uses, EndsWithRule}
use Rattle.cr_expand.specs.Running.{leads}
use Rattle.cr_expand.specs.declared.machine.TheConstants.{LIMIT}
use Rattle.cr_preproc.specs.declared.conditional.Decision.{Decision}
use Rattle.cr_preproc.specs.declared.expansion.Fault.{Fault}
use Rattle.cr_phase4.specs.declared.conditionals.OpenIf.{OpenIf}
use Rattle.cr_preproc.specs.declared.progress.Progress.{Progress}
use Rattle.cr_preproc.specs.declared.progress.TheConstants.{MOST_TOKENS}
use Rattle.cr_phase4.specs.Tasks.{End, Told, State, Reply, Ends, Task, Nothing, behind, go_on, ◌>>>◌, only, tell, marks, at_place, from_answer, end_of, told_by_uses, moved, events_of}
use Rattle.cr_phase4.specs.PreprocessingRun.{is_step, steps}
use Rattle.cr_phase4.specs.Search.{World}
use Rattle.cr_phase4.specs.Runs.{runs, earlier}
use Rattle.cr_phase4.specs.Conditionals.{lexeme_of, is_true, list_value}
use Rattle.cr_preproc.specs.OpenFiles.{Reading, reads_file}
use Rattle.cr_preproc.specs.Progressing.{state_of, IsProgress}
use Rattle.cr_preproc.specs.Seen.{macros_of, IsNamed, AreNamed}
use Rattle.cr_preproc.specs.Expanding.{IsOneUse, IsNoted, end_by}
use Rattle.cr_preproc.specs.Leading.{Leads, list_left, decided, chosen, IsDecided}
use Rattle.cr_preproc.specs.Turning.{file_goes, decision_left}
use Rattle.cr_preproc.proofs.Frames.{behind_behind, then_assoc}
use Rattle.cr_preproc.proofs.ToldByUses.{told_uses}
use Rattle.cr_preproc.proofs.Leadings.{behind_none, leads_from, leads_to, leads_go, leads_inside, same_on}

-- what was told and given comes first
list_leads : {A : Type 0} (hash : Place) (s : State) (given ts : List Token) (told : List Telling) (a : Answer (List Token)) (k : List Token → Task A) → EndsWithRule told
    → list_left hash s given (leads ts told a) k ≡ behind (map Told told) (list_left hash s (given ++ ts) a k)
list_leads hash s given ts told (Gave us left more) k h =
    ap (λ es. behind es (k (given ++ (ts ++ us)) (record s { work = left }))) (map-append Told told more)
    ∙ sym (behind_behind (map Told told) (map Told more) (k (given ++ (ts ++ us)) (record s { work = left })))
    ∙ ap (λ l. behind (map Told told) (behind (map Told more) (k l (record s { work = left })))) (sym (append_assoc given ts us))
list_leads hash s given ts told (Stopped why more) k h = ap (Ends (moved hash (end_of why))) (ap (map Told) (told_uses told more h) ∙ map-append Told told (told_by_uses more))

-- hide sets are not read where a list decides

marks_plain : (role : Role) (us : List Token) → flat_map (marks role) (map plain us) ≡ flat_map (marks role) us
marks_plain role [] = refl
marks_plain role (u ∷ us) = ap (λ l. marks role u ++ l) (marks_plain role us)

lexemes_plain : (us : List Token) → map {A = Token} lexeme_of (map plain us) ≡ map {A = Token} lexeme_of us
lexemes_plain [] = refl
lexemes_plain (u ∷ us) = ap (λ l. lexeme_of u ∷ l) (lexemes_plain us)

decided_plain : (d : Decision) (hash : Place) (cs : List OpenIf) (us : List Token) (s : State) → decided d hash cs (map plain us) s ≡ decided d hash cs us s
decided_plain d hash cs us s =
    ap (λ es. (tell es >>> λ n. is_true hash (list_value (map plain us)) >>> λ b. only (chosen d hash cs b)) s) (marks_plain Controlling us)
    ∙ ap (λ l. (tell (flat_map (marks Controlling) us) >>> λ n. is_true hash (numbered (value_of l)) >>> λ b. only (chosen d hash cs b)) s) (lexemes_plain us)

decided_same : (d : Decision) (hash : Place) (cs : List OpenIf) (us vs : List Token) (s : State) → map plain us ≡ map plain vs → decided d hash cs us s ≡ decided d hash cs vs s
decided_same d hash cs us vs s e = sym (decided_plain d hash cs us s) ∙ ap (λ l. decided d hash cs l s) e ∙ decided_plain d hash cs vs s

list_same : {A : Type 0} (hash : Place) (s : State) (us vs : List Token) (a : Answer (List Token)) (k : List Token → Task A)
    → ((xs ys : List Token) (s1 : State) → map plain xs ≡ map plain ys → k xs s1 ≡ k ys s1) → map plain us ≡ map plain vs → list_left hash s us a k ≡ list_left hash s vs a k
list_same hash s us vs a k h e =
    same_on (at_place hash (from_answer s a)) (λ more. k (us ++ more)) (λ more. k (vs ++ more))
    (λ more s1. h (us ++ more) (vs ++ more) s1 (map-append plain us more ∙ ap (λ l. l ++ map plain more) e ∙ sym (map-append plain vs more)))

tokens_put : (names : List Text) (xs : List PpTok) (t : PpTok) → tokens_of names (xs ++ t ∷ []) ≡ tokens_of names xs ++ token_of names [] t ∷ []
tokens_put names [] t = refl
tokens_put names (x ∷ xs) t = ap {A = List Token} (λ l. token_of names [] x ∷ l) (tokens_put names xs t)

-- a token that was given, with whatever is hidden from it
pub given_plain : (names : List Text) (given : List Token) (xs : List PpTok) (hide : List Text) (t : PpTok) → given ≡ tokens_of names xs
    → map plain (given ++ token_of names hide t ∷ []) ≡ map plain (tokens_of names (xs ++ t ∷ []))
given_plain names given xs hide t e =
    ap (λ l. map plain (l ++ token_of names hide t ∷ [])) e
    ∙ map-append plain (tokens_of names xs) (token_of names hide t ∷ [])
    ∙ sym (map-append plain (tokens_of names xs) (token_of names [] t ∷ []))
    ∙ ap (map plain) (sym (tokens_put names xs t))

-- each use that is told is a step

zero_more : (n : ℕ) → 0 + n ≡ n
zero_more n = omega arith

pub steps_told : (told : List Telling) → steps (map Told told) ≡ uses told
steps_told [] = refl
steps_told (Rule ∷ told) = sum_by-cons (λ e. cond (is_step e) 1 0) (Told Rule) (map Told told) ∙ ap (λ n. 1 + n) (steps_told told)
steps_told (Taken text place role ∷ told) =
    sum_by-cons (λ e. cond (is_step e) 1 0) (Told (Taken text place role)) (map Told told) ∙ zero_more (steps (map Told told)) ∙ steps_told told

-- The state stays where only names were added and roles noted.
pub noted_state : (p q : Progress) (told : List Telling) → KeepsMacros → IsProgress p → IsNoted p q told → state_of q ≡ state_of p
noted_state p q told law good n =
    ap (λ m. record (state_of q) { macro = macros_of q.names m }) n.macros
    ∙ ap (λ t. record (state_of q) { macro = t.macro }) (law.same p.names q.names p.macros [] n.told.names good.macros)
    ∙ ap (λ o. record (state_of q) { macro = macros_of p.names p.macros; once = o }) n.once
    ∙ ap (λ o. record (state_of q) { macro = macros_of p.names p.macros; once = p.once; work = LIMIT - o }) n.used
    ∙ ap (λ o. record (state_of q) { macro = macros_of p.names p.macros; once = p.once; work = LIMIT - p.used; reading = o }) n.reading
    ∙ ap (λ o. record (state_of p) { room = MOST_TOKENS - length o.items }) n.tokens

-- what is left of the list of a conditional
abbrev pub decides_left : World → Unit → Reading → Task Nothing → Decision → Place → State → List Token → Answer (List Token) → Reply Nothing
decides_left w u r k d hash s given answer = decision_left w u r k s (list_left hash s given answer (decided d hash r.open_ifs))

-- A use of a rule was made in the list.
pub decides_on : (w : World) (u : Unit) (r : Reading) (k : Task Nothing) (d : Decision) (hash : Place) (p q : Progress) (s : State) (given now ts : List Token) (told : List Telling) (a b : Answer (List Token))
    → IsNoted p q told → IsOneUse told → a ≡ leads ts told b → map plain (given ++ ts) ≡ map plain now
    → Leads 1 p q (decides_left w u r k d hash s given a) (decides_left w u r k d hash s now b)
decides_on w u r k d hash p q s given now ts told a b noted one e same = leads_go 1 p q _ _ (λ cs. file_goes w u r cs r.run >>> λ n. k) (leads_inside 1 p q r.path r.run s _ _ list) where
  list : Leads 1 p q (list_left hash s given a (decided d hash r.open_ifs)) (list_left hash s now b (decided d hash r.open_ifs))
  list = record {
    events = map Told told;
    size = steps_told told ∙ one.0;
    goes =
        ap (λ x. list_left hash s given x (decided d hash r.open_ifs)) e
        ∙ list_leads hash s given ts told b (decided d hash r.open_ifs) one.1
        ∙ ap (behind (map Told told)) (list_same hash s (given ++ ts) now b (decided d hash r.open_ifs) (decided_same d hash r.open_ifs) same);
    told = noted.told;
  }

-- the same from a file and a state that are the same
pub decides_same : (w : World) (u : Unit) (r r1 : Reading) (k : Task Nothing) (d : Decision) (hash : Place) (s s1 : State) (given : List Token) (a : Answer (List Token)) → r1 ≡ r → s1 ≡ s
    → decides_left w u r k d hash s given a ≡ decides_left w u r1 k d hash s1 given a
decides_same w u r r1 k d hash s s1 given a e h =
    ap (λ x. decides_left w u x k d hash s given a) (sym e) ∙ ap (λ x. decides_left w u r1 k d hash x given a) (sym h)

-- the list is at its end, with so much work left
pub decides_end : (w : World) (u : Unit) (r : Reading) (k : Task Nothing) (d : Decision) (hash : Place) (s : State) (given : List Token) (a : Answer (List Token)) (left : ℕ) → a ≡ Gave [] left []
    → decides_left w u r k d hash s given a ≡ decision_left w u r k s (decided d hash r.open_ifs given (record s { work = left }))
decides_end w u r k d hash s given a left e =
    ap (decides_left w u r k d hash s given) e
    ∙ ap (decision_left w u r k s) (behind_none (decided d hash r.open_ifs (given ++ []) (record s { work = left })) ∙ ap (λ l. decided d hash r.open_ifs l (record s { work = left })) (append-nil given))

-- what was led so is led so whatever work was used before and after
pub leads_used : {A : Type 0} (n : ℕ) (p q : Progress) (x y : ℕ) (r s : Reply A) → Leads n p q r s → Leads n (record p { used = x }) (record q { used = y }) r s
leads_used n p q x y r s h = record {
  events = h.events;
  size = h.size;
  goes = h.goes;
  told = record { tokens = h.told.tokens; trace = h.told.trace; renaming = h.told.renaming; names = h.told.names };
}

module _ (w : World) (u : Unit) (r : Reading) (k : Task Nothing) (d : Decision) (hash : Place) (p q : Progress) (before : ℕ) (us : List Token) where
  -- the unit as it was before the list was expanded
  abbrev first : Progress
  first = record p { used = before }

  abbrev tests : Task Bool
  tests = tell (flat_map (marks Controlling) us) >>> λ n. is_true hash (list_value us)

  apart : decided d hash r.open_ifs us (state_of p) ≡ go_on (tests (state_of p)) (λ b. only (chosen d hash r.open_ifs b))
  apart = sym (then_assoc (tell (flat_map (marks Controlling) us) (state_of p)) (λ n. is_true hash (list_value us)) (λ b. only (chosen d hash r.open_ifs b)))

  pub decided_ok : (b : Bool) → IsDecided hash p q us (Ok b)
      → Leads 0 first q (decision_left w u r k (state_of first) (decided d hash r.open_ifs us (state_of p))) ((file_goes w u r (chosen d hash r.open_ifs b) r.run >>> λ n. k) (state_of q))
  decided_ok b h = leads_used 0 p q before q.used _ _ (leads_to 0 p q _ _ _
      (behind_none ((file_goes w u r (chosen d hash r.open_ifs b) r.run >>> λ n. k) (state_of q)))
      (leads_go 0 p q _ _ (λ cs. file_goes w u r cs r.run >>> λ n. k) (leads_inside 0 p q r.path r.run (state_of first) _ _
      (leads_from 0 p q _ _ _ apart (leads_go 0 p q _ _ (λ b. only (chosen d hash r.open_ifs b)) h.0)))))

  pub decided_fails : (f : Fault) → IsDecided hash p q us (Err f)
      → Leads {A = Nothing} 0 first (record q { used = before }) (decision_left w u r k (state_of first) (decided d hash r.open_ifs us (state_of p)))
      (Ends (earlier (end_by f) (runs r.path r.run (state_of first))) (events_of (runs r.path r.run (state_of first))))
  decided_fails f h = leads_used 0 p q before before _ _
      (leads_go 0 p q _ _ (λ cs. file_goes w u r cs r.run >>> λ n. k) (leads_inside 0 p q r.path r.run (state_of first) _ _
      (leads_from 0 p q _ _ _ apart (leads_go 0 p q _ _ (λ b. only (chosen d hash r.open_ifs b)) h.0))))

-- the file goes on behind its line with these conditionals
pub goes_chosen : (w : World) (u : Unit) (r r1 : Reading) (cs : List OpenIf) (k : Task Nothing) (s : State) → r1 ≡ record r { open_ifs = cs; taken = [] }
    → (file_goes w u r cs r.run >>> λ n. k) s ≡ (reads_file w u r1 >>> λ n. k) s
goes_chosen w u r r1 cs k s e = ap (λ x. (reads_file w u x >>> λ n. k) s) (sym e)

-- the unit ends in the same way from the same run and state
pub fails_same : (end : End) (path : Text) (run run1 : List Token) (s s1 : State) → run1 ≡ run → s1 ≡ s
    → ◌≡◌ {A = Reply Nothing} (Ends (earlier end (runs path run s)) (events_of (runs path run s))) (Ends (earlier end (runs path run1 s1)) (events_of (runs path run1 s1)))
fails_same end path run run1 s s1 e h =
    ap {A = List Token} {B = Reply Nothing} (λ x. Ends (earlier end (runs path x s)) (events_of (runs path x s))) (sym e)
    ∙ ap {A = State} {B = Reply Nothing} (λ x. Ends (earlier end (runs path run1 x)) (events_of (runs path run1 x))) (sym h)

-- the state where the work is that again
pub again : (p q : Progress) (work : ℕ) → state_of q ≡ state_of p → state_of (record q { used = work }) ≡ state_of (record p { used = work })
again p q work e = ap {A = State} {B = State} (λ s. record s { work = LIMIT - work }) e

pub good_used : (p : Progress) (work : ℕ) → IsProgress p → work ≤ LIMIT → IsProgress (record p { used = work })
good_used p work good h = record {
  distinct = good.distinct;
  old = good.old;
  new = good.new;
  macros = good.macros;
  macro_names = good.macro_names;
  tokens = good.tokens;
  used = h;
  reading = good.reading;
  room = good.room;
}

pub named_put : (names : List Text) (ts : List PpTok) (t : PpTok) → AreNamed names ts → IsNamed names t → AreNamed names (ts ++ t ∷ [])
named_put names [] t h k = (k, tt)
named_put names (x ∷ xs) t h k = (h.0, named_put names xs t h.1 k)
