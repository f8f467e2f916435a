-- Turns in an open file: a run begins, tokens are taken, and lines are carried out.
use Rattle.std.proofs.Common.{◌≡◌, ◌<◌, ◌≤◌, ◌-◌, ◌+◌, ℕ, Bool, true, false, cond, List, [], ◌∷◌, ◌++◌, length, refl, sym, ap, subst, ◌∙◌, arith, append-nil, length-append, Option, Some, None, Result, Ok, Err}
use Rattle.std.proofs.lemmas.List.{length-map}
use Rattle.std.proofs.lemmas.Bool.Decides.{nat_tests}
use Rattle.std.specs.Prelude.{◌&&◌, nat_lt, IfOk}
use Rattle.cr_base.specs.declared.cause.IllCause.TheVariants as cause
use Rattle.cr_base.specs.declared.cause.Role.TheVariants.{Directive as InDirective}
use Rattle.cr_base.specs.declared.token.Place.{Place}
use Rattle.cr_base.specs.declared.unit.Unit.{Unit}
use Rattle.cr_base.specs.declared.token.PpTok.{PpTok}
use Rattle.cr_base.specs.NameTable.{IsDistinct}
use Rattle.cr_lex.specs.Lexing.{Lexed, stop}
use Rattle.cr_lex.specs.Lexing as lexing
use Rattle.cr_macros.specs.Definition.{text_of}
use Rattle.cr_macros.specs.Expansion.{expand}
use Rattle.cr_macros.specs.MacroTables.{table_of}
use Rattle.cr_macros.specs.Tokens.{Text, Token, token_of, tokens_of}
use Rattle.cr_snapshot.specs.declared.known.KnownFile.{KnownFile}
use Rattle.cr_expand.specs.Ahead.{next_token}
use Rattle.cr_expand.specs.GoodMacros.{KeepsMacros}
use Rattle.cr_expand.specs.HideSets.{Grows}
use Rattle.cr_expand.specs.declared.machine.TheConstants.{LIMIT}
use Rattle.cr_preproc.specs.declared.conditional.Led.{Led}
use Rattle.cr_preproc.specs.declared.conditional.Led.TheVariants as led
use Rattle.cr_preproc.specs.declared.expansion.Expansion.{Expansion}
use Rattle.cr_preproc.specs.declared.expansion.Fault.{Fault}
use Rattle.cr_phase4.specs.declared.conditionals.Word.{Word}
use Rattle.cr_preproc.specs.declared.open_file.OpenFile.{OpenFile}
use Rattle.cr_phase4.specs.declared.conditionals.OpenIf.{OpenIf}
use Rattle.cr_preproc.specs.declared.progress.Progress.{Progress}
use Rattle.cr_preproc.specs.declared.reader.Coming.TheVariants as coming
use Rattle.cr_preproc.specs.declared.turning.Then.{Then}
use Rattle.cr_preproc.specs.declared.turning.Then.TheVariants as then
use Rattle.cr_phase4.specs.Tasks.{Ill, Over, Reading as OfReading, Took, State, Reply, Goes, Ends, Task, Nothing, Done, behind, go_on, ◌>>>◌, only, ends, tell, marks, reads, in_directive, events_of}
use Rattle.cr_phase4.specs.Lines.{Line, Plain, Conditional, Directive, Empty, Wordless, line_of, fault_of, token_in}
use Rattle.cr_phase4.specs.Search.{World}
use Rattle.cr_phase4.specs.Runs.{runs, run_in, expands, earlier, after_run}
use Rattle.cr_phase4.specs.Conditionals.{is_live, is_word_live, conditional}
use Rattle.cr_preproc.specs.OpenIfs.{first_of}
use Rattle.cr_phase4.specs.Directives.{directive}
use Rattle.cr_phase4.specs.Preprocessing.{Ahead, ahead, does_file, by_line, at_end, is_plain, run_with, where_live}
use Rattle.cr_preproc.specs.OpenFiles.{Reading, reads_behind, reads_file, reading_of, IsOpen}
use Rattle.cr_preproc.specs.OpenFileSteps.{HasLine, LacksLine, TellsNext, Takes}
use Rattle.cr_preproc.specs.Progressing.{state_of, IsProgress, IsTold}
use Rattle.cr_preproc.specs.Expanding.{end_by, still_in, ahead_in, table_for}
use Rattle.cr_preproc.specs.Leading.{Leads, run_left, list_left, decided, IsLed}
use Rattle.cr_preproc.specs.Turning.{carried, then_left, file_goes, led_left, AreAsked}
use Rattle.cr_preproc.proofs.Expandings.{progress_more, state_more}
use Rattle.cr_preproc.proofs.Frames.{behind_then, then_assoc}
use Rattle.cr_preproc.proofs.Leadings.{behind_none, leads_to, leads_go, leads_inside, same_on}
use Rattle.cr_preproc.proofs.OpenLater.{tokens_later}
use Rattle.cr_preproc.proofs.Progresses.{told_none}
use Rattle.cr_preproc.proofs.ReadingKept.{KeepsReading, kept_behind}
use Rattle.cr_preproc.proofs.ReadingOn.{takes_one, line_done, file_done}
use Rattle.cr_preproc.proofs.RunsAhead.{run_is}

-- The run of a file begins.
pub run_begins : (p : Progress) (files : List KnownFile) (f : OpenFile) (e : Expansion) → IsOpen p.names files f → e.expander.machine.file ≡ f.literal
    → ahead_in p e ≡ next_token (table_of p.names p.macros (text_of p.names f.literal)) (tokens_of p.names f.run.items) (LIMIT - p.used)
    → run_left (table_for p e) (state_of p) (ahead_in p e) ≡ runs f.path (tokens_of p.names f.run.items) (state_of p)
run_begins p files f e o lit a =
    ap (λ n. run_left (table_of p.names p.macros (text_of p.names n)) (state_of p) (ahead_in p e)) lit
    ∙ ap (run_left (table_of p.names p.macros (text_of p.names f.literal)) (state_of p)) a
    ∙ run_is (table_of p.names p.macros (text_of p.names f.literal)) (tokens_of p.names f.run.items) (state_of p)
    ∙ ap (λ x. run_in (table_of p.names p.macros x) (tokens_of p.names f.run.items) (state_of p)) o.literal_text

-- The list of a directive begins.
pub list_begins : {A : Type 0} (p : Progress) (files : List KnownFile) (f : OpenFile) (e : Expansion) (hash : Place) (list : List Token) (given : List PpTok) (k : List Token → Task A) → IsOpen p.names files f → given ≡ []
    → still_in p e ≡ expand (table_of p.names p.macros (text_of p.names f.literal)) list (LIMIT - p.used)
    → list_left hash (state_of p) (tokens_of p.names given) (still_in p e) k ≡ (in_directive hash (expands f.path list) >>> k) (state_of p)
list_begins p files f e hash list given k o none a =
    ap (λ g. list_left hash (state_of p) (tokens_of p.names g) (still_in p e) k) none
    ∙ ap (λ x. list_left hash (state_of p) [] x k) (a ∙ ap (λ x. expand (table_of p.names p.macros x) list (LIMIT - p.used)) o.literal_text)

-- the end of a file

pub closes : (w : World) (u : Unit) (r : Reading) (k : Task Nothing) (path : Text) (run : List Token) (s : State) (cs : List OpenIf) → first_of cs ≡ None
    → (at_end path run None cs >>> λ d. k) s ≡ then_left w u r k then.Close (runs path run s)
closes w u r k path run s [] h = refl
closes w u r k path run s (c ∷ cs) h = absurd (let no : ⊥ = cc in no)

pub closes_in : (w : World) (u : Unit) (r : Reading) (k : Task Nothing) (path : Text) (run : List Token) (s : State) (c : OpenIf) (cs : List OpenIf) → first_of cs ≡ Some c
    → (at_end path run None cs >>> λ d. k) s ≡ then_left w u r k (then.Fails (record { cause = cause.OpenIf; place = c.hash })) (runs path run s)
closes_in w u r k path run s c [] h = absurd (let no : ⊥ = cc in no)
closes_in w u r k path run s c (d ∷ cs) h = ap (λ (x : OpenIf). then_left w u r k (then.Fails (record { cause = cause.OpenIf; place = x.hash })) (runs path run s)) (let e : d ≡ c = cc in e)

file_left : (w : World) (u : Unit) (r : Reading) (f : Option lexing.Fault) (s : State) → LacksLine r → r.left ≡ record { tokens = []; fault = f }
    → reads_file w u r s ≡ at_end r.path r.run (fault_of r.number f) r.open_ifs s
file_left w u r f s lacks e = ap (λ ts. reads_behind w u r ts s) (lacks.1 (ap (λ l. l.tokens) e)) ∙ file_done w u r f s e

pub faults : (w : World) (u : Unit) (r : Reading) (k : Task Nothing) (x : lexing.Fault) (f : Fault) (s : State) → LacksLine r → r.left ≡ stop x → fault_of r.number (Some x) ≡ Some (end_by f)
    → (reads_file w u r >>> λ d. k) s ≡ then_left w u r k (then.Fails f) (runs r.path r.run s)
faults w u r k x f s lacks e h =
    ap (λ y. go_on y (λ d. k)) (file_left w u r (Some x) s lacks e ∙ ap (λ o. at_end r.path r.run o r.open_ifs s) h)

pub file_ends : (w : World) (u : Unit) (r : Reading) (k : Task Nothing) (t : Then) (s : State) → LacksLine r → r.left ≡ record { tokens = []; fault = None }
    → (at_end r.path r.run None r.open_ifs >>> λ d. k) s ≡ then_left w u r k t (runs r.path r.run s)
    → (reads_file w u r >>> λ d. k) s ≡ then_left w u r k t (runs r.path r.run s)
file_ends w u r k t s lacks e h = ap (λ y. go_on y (λ d. k)) (file_left w u r None s lacks e) ∙ h

-- a token is taken

some_read : (n : ℕ) → 0 < n → nat_lt n 1 ≡ false
some_read n h = grind (arith, nat_tests)

none_read : (s : State) → s.reading ≡ 0 → reads 1 (Took ∷ []) s ≡ Ends (Over OfReading) []
none_read s h = ap (λ n. cond (nat_lt n 1) (Ends (Over OfReading) []) (Goes Done (record s { reading = s.reading - 1 }) (Took ∷ []))) h

one_read : (s : State) → 0 < s.reading → reads 1 (Took ∷ []) s ≡ Goes Done (record s { reading = s.reading - 1 }) (Took ∷ [])
one_read s h = ap (λ b. cond b (Ends (Over OfReading) []) (Goes Done (record s { reading = s.reading - 1 }) (Took ∷ []))) (some_read s.reading h)

pub limit_left : (w : World) (u : Unit) (r : Reading) (k : Task Nothing) (place : Place) (s : State) → LacksLine r → TellsNext r coming.Token → s.reading ≡ 0
    → (reads_file w u r >>> λ d. k) s ≡ then_left w u (record r { run = run_with r.open_ifs r.run r.taken }) k (then.Fails (record { cause = cause.LimitReading; place = place })) (runs r.path (run_with r.open_ifs r.run r.taken) s)
limit_left w u r k place s lacks next h =
    ap (λ y. go_on y (λ d. k))
    (takes_one w u r r.taken next.0 next.1 s next.2 (lacks.0 next.0 next.1 next.2)
    ∙ ap (λ y. go_on (after_run r.path (run_with r.open_ifs r.run r.taken) s y) (λ d. reads_behind w u (record r { left = next.1 }) (r.taken ++ token_in r.number next.0 ∷ []))) (none_read s h))

taken_aside : (w : World) (u : Unit) (r : Reading) (taken ts : List Token) (s : State) → reads_behind w u (record r { taken = taken }) ts s ≡ reads_behind w u r ts s
taken_aside w u r taken [] s = refl
taken_aside w u r taken (t ∷ ts) s = refl

pub takes_left : (w : World) (u : Unit) (r new : Reading) (k : Task Nothing) (s : State) → LacksLine r → TellsNext r coming.Token → Takes r new → 0 < s.reading
    → (reads_file w u r >>> λ d. k) s ≡ behind (Took ∷ []) ((reads_file w u new >>> λ d. k) (record s { reading = s.reading - 1 }))
takes_left w u r new k s lacks next takes h =
    ap (λ y. go_on y (λ d. k))
    (takes_one w u r r.taken next.0 next.1 s next.2 (lacks.0 next.0 next.1 next.2)
    ∙ ap (λ y. go_on (after_run r.path (run_with r.open_ifs r.run r.taken) s y) (λ d. reads_behind w u less taken)) (one_read s h))
    ∙ behind_then (Took ∷ []) (reads_behind w u less taken (record s { reading = s.reading - 1 })) (λ d. k)
    ∙ ap (λ y. behind (Took ∷ []) (go_on y (λ d. k))) (sym same) where
      less : Reading
      less = record r { left = next.1 }

      taken : List Token
      taken = r.taken ++ token_in r.number next.0 ∷ []

      same : reads_file w u new (record s { reading = s.reading - 1 }) ≡ reads_behind w u less taken (record s { reading = s.reading - 1 })
      same = ap (λ x. reads_file w u x (record s { reading = s.reading - 1 })) (takes next.0 next.1 next.2) ∙ taken_aside w u less taken taken (record s { reading = s.reading - 1 })

-- with one less to be read, and names added
abbrev pub took : Progress → List Text → Progress
took p names = record p { reading = p.reading - 1; names = names }

pub took_state : (p q : Progress) (names : List Text) → KeepsMacros → IsProgress q → q ≡ record p { reading = p.reading - 1 } → Grows p.names names
    → state_of (record q { names = names }) ≡ record (state_of p) { reading = p.reading - 1 }
took_state p q names law good e g = state_more q names q.trace law good (subst (λ n. Grows n names) (sym (ap (λ x. x.names) e)) g) ∙ ap state_of e

pub took_told : (p q : Progress) (names : List Text) → IsProgress p → q ≡ record p { reading = p.reading - 1 } → Grows p.names names → IsTold p (record q { names = names }) (Took ∷ [])
took_told p q names good e g = subst (λ x. IsTold p (record x { names = names }) (Took ∷ [])) (sym e) told where
  told : IsTold p (took p names) (Took ∷ [])
  told = let t = told_none p in record {
    tokens = tokens_later p.names names p.tokens.items g good.tokens ∙ t.tokens;
    trace = t.trace;
    renaming = refl;
    names = g;
  }

pub took_good : (q : Progress) (names : List Text) → KeepsMacros → IsProgress q → Grows q.names names → IsDistinct names → IsProgress (record q { names = names })
took_good q names law good g d = progress_more q names q.trace law good g d

took_length : (names new : List Text) (xs ys : List PpTok) (t : Token) → tokens_of new ys ≡ tokens_of names xs ++ t ∷ [] → length ys ≡ length xs + 1
took_length names new xs ys t e =
    let a = sym (length-map ys (token_of new [])) ∙ ap length e in
    let b = length-append (tokens_of names xs) (t ∷ []) in
    let c = length-map xs (token_of names []) in
    omega (arith, a, b, c)

pub took_fits : (files : List KnownFile) (names new : List Text) (f g : OpenFile) (old now most : ℕ) → TellsNext (reading_of names files f) coming.Token → Takes (reading_of names files f) (reading_of new files g)
    → 0 < old → now ≡ old - 1 → length f.line.items + old ≤ most → length g.line.items + now ≤ most
took_fits files names new f g old now most next takes some e h =
    let n = took_length names new f.line.items g.line.items (token_in f.number.0 next.0) (ap (λ r. r.taken) (takes next.0 next.1 next.2)) in
    omega (arith, n, some, e, h)

-- a line is carried out

abbrev goes_ahead : World → Unit → Reading → Ahead → Task Nothing
goes_ahead w u r a = reads_behind w u (record r { open_ifs = a.open_ifs; run = a.run }) []

abbrev line_by : World → Unit → Reading → Line → State → Reply Ahead
line_by w u r line s = by_line w u (does_file w u r.levels) r.path r.open_ifs r.run r.taken line s

line_goes : (w : World) (u : Unit) (r : Reading) (k : Task Nothing) (line : Line) (s : State) → HasLine r → line ≡ line_of r.taken
    → (reads_file w u r >>> λ d. k) s ≡ go_on (go_on (line_by w u r line s) (goes_ahead w u r)) (λ d. k)
line_goes w u r k line s h e =
    ap (λ y. go_on y (λ d. k)) (line_done w u r r.taken s h.0 h.1 ∙ ap (λ l. go_on (line_by w u r l s) (goes_ahead w u r)) (sym e))

plain_run : (b : Bool) (xs ys : List Token) → cond (b && true) xs ys ≡ cond b xs ys
plain_run true xs ys = refl
plain_run false xs ys = refl

pub plain_left : (w : World) (u : Unit) (r : Reading) (k : Task Nothing) (s : State) → HasLine r → Plain ≡ line_of r.taken
    → (reads_file w u r >>> λ d. k) s ≡ (reads_file w u (record r { run = run_with r.open_ifs r.run r.taken; taken = [] }) >>> λ d. k) s
plain_left w u r k s h e =
    line_goes w u r k Plain s h e
    ∙ ap (λ y. go_on y (λ d. k)) (behind_none (file_goes w u r r.open_ifs text s))
    ∙ ap (λ run. (file_goes w u r r.open_ifs run >>> λ d. k) s) (sym same) where
      text : List Token
      text = cond (is_live r.open_ifs) (r.run ++ r.taken) r.run

      same : run_with r.open_ifs r.run r.taken ≡ text
      same = ap (λ l. cond (is_live r.open_ifs && is_plain l) (r.run ++ r.taken) r.run) (sym e) ∙ plain_run (is_live r.open_ifs) (r.run ++ r.taken) r.run

-- a directive that isn't conditional
abbrev pub IsOther : Line → Type 0
IsOther Plain = ⊥
IsOther (Conditional hash t word ts) = ⊥
IsOther (Directive hash t ts) = Prim.Unit {0}
IsOther Empty = Prim.Unit {0}
IsOther (Wordless hash) = Prim.Unit {0}

not_live : {A : Type 0} (b : Bool) (m n : Task A) (s : State) → b ≡ false → where_live b m n s ≡ n s
not_live true m n s e = absurd (let no : ⊥ = cc in no)
not_live false m n s e = refl

live : {A : Type 0} (b : Bool) (m n : Task A) (s : State) → b ≡ true → where_live b m n s ≡ m s
live true m n s e = refl
live false m n s e = absurd (let no : ⊥ = cc in no)

-- a directive that ends the run
abbrev ends_run : World → Unit → Reading → Place → Token → List Token → Task Ahead
ends_run w u r hash t ts = tell (marks InDirective t) >>> λ d. directive w u (does_file w u r.levels) r.path hash t.text ts >>> λ d. only (ahead r.open_ifs [])

abbrev stays : Reading → Task Ahead
stays r = only (ahead r.open_ifs r.run)

line_skipped : (w : World) (u : Unit) (r : Reading) (line : Line) (s : State) → IsOther line → is_live r.open_ifs ≡ false → line_by w u r line s ≡ stays r s
line_skipped w u r Plain s h e = absurd h
line_skipped w u r (Conditional hash t word ts) s h e = absurd h
line_skipped w u r (Directive hash t ts) s h e = not_live (is_live r.open_ifs) (runs r.path r.run >>> λ d. ends_run w u r hash t ts) (stays r) s e
line_skipped w u r Empty s h e = not_live (is_live r.open_ifs) (runs r.path r.run >>> λ d. only (ahead r.open_ifs [])) (stays r) s e
line_skipped w u r (Wordless hash) s h e = not_live (is_live r.open_ifs) (runs r.path r.run >>> λ d. ends (Ill cause.BadDirective hash)) (stays r) s e

pub skipped_left : (w : World) (u : Unit) (r : Reading) (k : Task Nothing) (line : Line) (s : State) → HasLine r → line ≡ line_of r.taken → IsOther line → is_live r.open_ifs ≡ false
    → (reads_file w u r >>> λ d. k) s ≡ (reads_file w u (record r { taken = [] }) >>> λ d. k) s
skipped_left w u r k line s h e other off =
    line_goes w u r k line s h e
    ∙ ap (λ y. go_on (go_on y (goes_ahead w u r)) (λ d. k)) (line_skipped w u r line s other off)
    ∙ ap (λ y. go_on y (λ d. k)) (behind_none (file_goes w u r r.open_ifs r.run s))

only_on : {A B C : Type 0} (r : Reply A) (b : B) (f : B → Task C) → go_on (go_on r (λ a. only b)) f ≡ go_on r (λ a. f b)
only_on (Goes a s es) b f = ap (λ l. behind l (f b s)) (append-nil es)
only_on (Ends e es) b f = refl

then_goes : {A : Type 0} (x : Reply Nothing) (a : Task A) (f : A → Task Nothing) (b k : Task Nothing) → ((s : State) → go_on (a s) f ≡ b s)
    → go_on (go_on (go_on x (λ d. a)) f) (λ d. k) ≡ go_on x (λ d. b >>> λ n. k)
then_goes x a f b k h =
    ap (λ y. go_on y (λ d. k)) (then_assoc x (λ d. a) f)
    ∙ then_assoc x (λ d. a >>> f) (λ d. k)
    ∙ same_on x (λ d. (a >>> f) >>> λ d. k) (λ d. b >>> λ n. k) (λ d s. ap (λ y. go_on y (λ d. k)) (h s))

live_left : (w : World) (u : Unit) (r : Reading) (k : Task Nothing) (line : Line) (s : State) → IsOther line → is_live r.open_ifs ≡ true
    → go_on (go_on (line_by w u r line s) (goes_ahead w u r)) (λ d. k) ≡ go_on (runs r.path r.run s) (λ d. carried w u r line >>> λ n. k)
live_left w u r k Plain s h e = absurd h
live_left w u r k (Conditional hash t word ts) s h e = absurd h
live_left w u r k (Directive hash t ts) s h e =
    ap (λ y. go_on (go_on y (goes_ahead w u r)) (λ d. k)) (live (is_live r.open_ifs) (runs r.path r.run >>> λ d. ends_run w u r hash t ts) (stays r) s e)
    ∙ then_goes (runs r.path r.run s) (ends_run w u r hash t ts) (goes_ahead w u r) (carried w u r (Directive hash t ts)) k
    (λ s1. behind_then (marks InDirective t) ((doing >>> λ d. only (ahead r.open_ifs [])) s1) (goes_ahead w u r) ∙ ap (behind (marks InDirective t)) (only_on (doing s1) (ahead r.open_ifs []) (goes_ahead w u r))) where
      doing : Task Nothing
      doing = directive w u (does_file w u r.levels) r.path hash t.text ts
live_left w u r k Empty s h e =
    ap (λ y. go_on (go_on y (goes_ahead w u r)) (λ d. k)) (live (is_live r.open_ifs) (runs r.path r.run >>> λ d. only (ahead r.open_ifs [])) (stays r) s e)
    ∙ then_goes (runs r.path r.run s) (only (ahead r.open_ifs [])) (goes_ahead w u r) (carried w u r Empty) k (λ s1. behind_none (file_goes w u r r.open_ifs [] s1))
live_left w u r k (Wordless hash) s h e =
    ap (λ y. go_on (go_on y (goes_ahead w u r)) (λ d. k)) (live (is_live r.open_ifs) (runs r.path r.run >>> λ d. ends (Ill cause.BadDirective hash)) (stays r) s e)
    ∙ then_goes (runs r.path r.run s) (ends (Ill cause.BadDirective hash)) (goes_ahead w u r) (carried w u r (Wordless hash)) k (λ s1. refl)

pub directive_left : (w : World) (u : Unit) (r : Reading) (k : Task Nothing) (line : Line) (s : State) → HasLine r → line ≡ line_of r.taken → IsOther line → is_live r.open_ifs ≡ true
    → (reads_file w u r >>> λ d. k) s ≡ then_left w u r k then.Line (runs r.path r.run s)
directive_left w u r k line s h e other on =
    line_goes w u r k line s h e ∙ live_left w u r k line s other on ∙ ap (λ l. go_on (runs r.path r.run s) (λ d. carried w u r l >>> λ n. k)) e

-- conditional directives

-- what a conditional directive does
abbrev pub word_does : Text → Place → Token → Word → List Token → List OpenIf → Task (List OpenIf)
word_does path hash t word ts cs = tell (cond (is_word_live cs word) (marks InDirective t) []) >>> λ d. conditional path hash ts cs word

line_then : (w : World) (u : Unit) (r : Reading) (k : Task Nothing) (x : Reply (List OpenIf))
    → go_on (go_on (go_on x (λ cs. only (ahead cs r.run))) (goes_ahead w u r)) (λ d. k) ≡ go_on x (λ cs. file_goes w u r cs r.run >>> λ n. k)
line_then w u r k (Goes cs s es) =
    ap (λ l. go_on (behind l (file_goes w u r cs r.run s)) (λ d. k)) (append-nil es) ∙ behind_then es (file_goes w u r cs r.run s) (λ d. k)
line_then w u r k (Ends e es) = refl

pub conditional_left : (w : World) (u : Unit) (r : Reading) (k : Task Nothing) (hash : Place) (t : Token) (word : Word) (ts : List Token) (s : State) → HasLine r → Conditional hash t word ts ≡ line_of r.taken
    → (reads_file w u r >>> λ d. k) s ≡ go_on (after_run r.path r.run s (word_does r.path hash t word ts r.open_ifs s)) (λ cs. file_goes w u r cs r.run >>> λ n. k)
conditional_left w u r k hash t word ts s h e =
    line_goes w u r k (Conditional hash t word ts) s h e ∙ line_then w u r k (after_run r.path r.run s (word_does r.path hash t word ts r.open_ifs s))

pub led_leads : (w : World) (u : Unit) (r : Reading) (p q : Progress) (hash : Place) (ds : List OpenIf) (m : Task (List OpenIf)) (k : Task Nothing) (l : Led) → IsLed r.path hash p q r.open_ifs ds m l
    → Leads 0 p q (go_on (after_run r.path r.run (state_of p) (m (state_of p))) (λ cs. file_goes w u r cs r.run >>> λ n. k)) (led_left w u q (record r { open_ifs = ds }) k hash l)
led_leads w u r p q hash ds m k led.Goes h =
    leads_to 0 p q _ _ _ (behind_none ((file_goes w u r ds r.run >>> λ n. k) (state_of q)))
    (leads_go 0 p q _ _ (λ cs. file_goes w u r cs r.run >>> λ n. k) (leads_inside 0 p q r.path r.run (state_of p) _ _ h))
led_leads w u r p q hash ds m k (led.Fails f) h =
    leads_to 0 p q _ _ _ (ap {B = Reply Nothing} (λ s. Ends (earlier (end_by f) (runs r.path r.run s)) (events_of (runs r.path r.run s))) (sym h.2))
    (leads_go 0 p q _ _ (λ cs. file_goes w u r cs r.run >>> λ n. k) (leads_inside 0 p q r.path r.run (state_of p) _ _ h.0))
led_leads w u r p q hash ds m k (led.Asks d list) h =
    leads_to 0 p q _ _ _ (ap (λ s. left s r.open_ifs) (sym h.2) ∙ ap (left (state_of q)) (sym h.1))
    (leads_go 0 p q _ _ (λ cs. file_goes w u r cs r.run >>> λ n. k) (leads_inside 0 p q r.path r.run (state_of p) _ _ h.0)) where
      left : State → List OpenIf → Reply Nothing
      left s cs = go_on (after_run r.path r.run s ((in_directive hash (expands r.path (tokens_of q.names list.items)) >>> decided d hash cs) (state_of q))) (λ cs. file_goes w u r cs r.run >>> λ n. k)

pub led_names : (path : Text) (p q : Progress) (hash : Place) (cs ds : List OpenIf) (m : Task (List OpenIf)) (l : Led) → IsLed path hash p q cs ds m l → Grows p.names q.names
led_names path p q hash cs ds m led.Goes h = h.told.names
led_names path p q hash cs ds m (led.Fails f) h = h.0.told.names
led_names path p q hash cs ds m (led.Asks d list) h = h.0.told.names

pub led_asks : (path : Text) (p q : Progress) (hash : Place) (cs ds : List OpenIf) (m : Task (List OpenIf)) (l : Led) → IsLed path hash p q cs ds m l → AreAsked q.names l
led_asks path p q hash cs ds m led.Goes h = tt
led_asks path p q hash cs ds m (led.Fails f) h = tt
led_asks path p q hash cs ds m (led.Asks d list) h = h.3

pub led_reads : (path : Text) (p q : Progress) (hash : Place) (cs ds : List OpenIf) (m : Task (List OpenIf)) (l : Led) → KeepsReading m → IsLed path hash p q cs ds m l → q.reading ≡ p.reading
led_reads path p q hash cs ds m led.Goes keeps h = kept_behind p.reading (m (state_of p)) h.events ds (state_of q) (keeps (state_of p)) h.goes
led_reads path p q hash cs ds m (led.Fails f) keeps h = ap (λ s. s.reading) h.2
led_reads path p q hash cs ds m (led.Asks d list) keeps h = ap (λ s. s.reading) h.2

-- what holds of what was made, where something was made
pub where_ok : {A E : Type 0} (r : Result A E) (P Q : A → Type 0) → ((a : A) → P a → Q a) → IfOk r P → IfOk r Q
where_ok (Ok a) P Q h x = h a x
where_ok (Err e) P Q h x = tt
