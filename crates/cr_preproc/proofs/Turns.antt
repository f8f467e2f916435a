-- What a use of a rule of an expansion changes, and what is left behind a run.
use Rattle.std.proofs.Common.{◌≡◌, ℕ, ◌+◌, ◌-◌, ◌≤◌, true, cond, List, [], ◌∷◌, map, length, refl, ap, sym, ◌∙◌, subst, arith, Option, Some, None}
use Rattle.std.specs.Prelude.{nat_lt}
use Rattle.std.proofs.lemmas.Bool.Decides.{nat_tests}
use Rattle.std.proofs.lemmas.List.Sums.{sum_by-cons}
use Rattle.cr_base.specs.declared.unit.Unit.{Unit}
use Rattle.cr_base.specs.declared.token.PpTok.{PpTok}
use Rattle.cr_macros.specs.Definition.{text_of}
use Rattle.cr_macros.specs.Expansion.{Table}
use Rattle.cr_macros.specs.MacroTables.{table_of}
use Rattle.cr_macros.specs.Tokens.{Text, Token, MacroText, Event as Telling, Rule, Taken, Answer, Gave, Stopped, after, token_of}
use Rattle.cr_snapshot.specs.declared.known.KnownFile.{KnownFile}
use Rattle.cr_expand.specs.Ahead.{Next, next_token}
use Rattle.cr_expand.specs.GoodMacros.{KeepsMacros}
use Rattle.cr_expand.specs.Machines.{uses}
use Rattle.cr_expand.specs.declared.machine.TheConstants.{LIMIT}
use Rattle.cr_preproc.specs.declared.expansion.Expansion.{Expansion}
use Rattle.cr_preproc.specs.declared.expansion.Fault.{Fault}
use Rattle.cr_preproc.specs.declared.open_file.OpenFile.{OpenFile}
use Rattle.cr_preproc.specs.declared.progress.Progress.{Progress}
use Rattle.cr_preproc.specs.declared.progress.TheConstants.{MOST_TOKENS}
use Rattle.cr_preproc.specs.declared.turning.Then.{Then}
use Rattle.cr_preproc.specs.declared.turning.Then.TheVariants as then
use Rattle.cr_preproc.specs.declared.turning.Doing.{Doing}
use Rattle.cr_preproc.specs.declared.turning.Doing.TheVariants as doing
use Rattle.cr_preproc.specs.declared.turning.Turned.TheVariants as turned
use Rattle.cr_preproc.specs.declared.expansion.Use.TheVariants as use1
use Rattle.cr_preproc.specs.RunTurns.{IsGiving}
use Rattle.cr_phase4.specs.Tasks.{End, Limit, Over, Tokens, Event, Told, Final, State, Reply, Goes, Ends, Task, Nothing, Done, behind, go_on, ◌>>>◌, gives, from_answer, told_by_uses}
use Rattle.cr_phase4.specs.Lines.{line_of}
use Rattle.cr_phase4.specs.PreprocessingRun.{is_step, steps}
use Rattle.cr_phase4.specs.Runs.{run_in}
use Rattle.cr_phase4.specs.Search.{World}
use Rattle.cr_preproc.specs.OpenFiles.{Reading, reading_of, IsOpen}
use Rattle.cr_preproc.specs.Progressing.{state_of, IsProgress, IsTold, Did}
use Rattle.cr_preproc.specs.Expanding.{Boxed, IsUsed, IsOneUse, IsNoted, IsExpanding, StopsAt, table_for, ahead_in, end_by}
use Rattle.cr_preproc.specs.Leading.{Leads, given_on, run_left}
use Rattle.cr_preproc.specs.Turning.{carried, then_left, doing_left, ended_behind, IsWorking, IsTurned}
use Rattle.cr_preproc.proofs.Frames.{behind_then}
use Rattle.cr_preproc.proofs.Leadings.{behind_none, leads_then, leads_to, did_leads}
use Rattle.cr_preproc.proofs.NamesGrow.{text_later}
use Rattle.cr_preproc.proofs.OpenLater.{reading_later, open_later}
use Rattle.cr_preproc.proofs.Progresses.{told_none}
use Rattle.cr_preproc.proofs.RunsAhead.{run_after, run_work, run_is}

-- with so much macro work used
abbrev pub with_used : Progress → ℕ → Progress
with_used p n = record p { used = n }

pub used_told : (p : Progress) (n : ℕ) → IsTold p (with_used p n) []
used_told p n = let t = told_none p in record { tokens = t.tokens; trace = t.trace; renaming = t.renaming; names = t.names }

pub used_good : (p : Progress) (n : ℕ) → IsProgress p → n ≤ LIMIT → IsProgress (with_used p n)
used_good p n good limit = record {
  distinct = good.distinct;
  old = good.old;
  new = good.new;
  macros = good.macros;
  macro_names = good.macro_names;
  tokens = good.tokens;
  used = limit;
  reading = good.reading;
  room = good.room;
}

-- the work that is used, as it is read behind a box
pub used_is : (n : ℕ) (x e : Expansion) → n ≡ x.expander.machine.used → x ≡ e → n ≡ e.expander.machine.used
used_is n x e h same = h ∙ ap (λ y. y.expander.machine.used) same

nothing_more : (n : ℕ) → 0 + n ≡ n
nothing_more n = omega arith

-- the uses of rules are steps
pub told_steps : (told : List Telling) → steps (map Told told) ≡ uses told
told_steps [] = refl
told_steps (Rule ∷ told) = sum_by-cons (λ e. cond (is_step e) 1 0) (Told Rule) (map Told told) ∙ ap (λ n. 1 + n) (told_steps told)
told_steps (Taken text place role ∷ told) =
    sum_by-cons (λ e. cond (is_step e) 1 0) (Told (Taken text place role)) (map Told told) ∙ ap (λ n. 0 + n) (told_steps told) ∙ nothing_more (uses told)

-- what comes behind the first events of a run
pub then_behind : (w : World) (u : Unit) (r : Reading) (k : Task Nothing) (next : Then) (es : List Event) (x : Reply Nothing) → then_left w u r k next (behind es x) ≡ behind es (then_left w u r k next x)
then_behind w u r k then.Line es x = behind_then es x (λ d. carried w u r (line_of r.taken) >>> λ n. k)
then_behind w u r k then.Close es x = behind_then es x (λ d. k)
then_behind w u r k (then.Fails f) es (Goes a s more) = refl
then_behind w u r k (then.Fails f) es (Ends end more) = refl

-- a run that ends the unit
pub then_ends : (w : World) (u : Unit) (r : Reading) (k : Task Nothing) (next : Then) (end : End) (es : List Event) → then_left w u r k next (Ends end es) ≡ Ends (ended_behind next end) es
then_ends w u r k then.Line end es = refl
then_ends w u r k then.Close end es = refl
then_ends w u r k (then.Fails f) end es = refl

pub ended_over : (next : Then) (limit : Limit) → ended_behind next (Over limit) ≡ Over limit
ended_over then.Line limit = refl
ended_over then.Close limit = refl
ended_over (then.Fails f) limit = refl

-- what leads on in a run
pub leads_on : (n : ℕ) (p q : Progress) (w : World) (u : Unit) (r : Reading) (k : Task Nothing) (next : Then) (x y : Reply Nothing) → Leads n p q x y → Leads n p q (then_left w u r k next x) (then_left w u r k next y)
leads_on n p q w u r k next x y h = record { events = h.events; size = h.size; goes = ap (then_left w u r k next) h.goes ∙ then_behind w u r k next h.events y; told = h.told }

-- expansion that stops before a use of a rule ends the unit
pub stop_ends : {A : Type 0} (s : State) (a : Answer A) (end : End) → StopsAt a end → from_answer s a ≡ Ends end []
stop_ends s (Gave a left events) end h = absurd h
stop_ends {A} s (Stopped why events) end h =
    ap {A = End} {B = Reply A} (λ e. Ends e (map Told (told_by_uses events))) h.0 ∙ ap {A = List Telling} {B = Reply A} (λ es. Ends end (map Told es)) h.1

-- a run that stops ends the unit
pub run_fails : (w : World) (u : Unit) (r : Reading) (k : Task Nothing) (next : Then) (p q : Progress) (table : Table) (s : State) (a : Answer (Option Next)) (end : End) → StopsAt a end → IsTold p q []
    → Leads {A = Nothing} 0 p q (then_left w u r k next (run_left table s a)) (Ends (ended_behind next end) [])
run_fails w u r k next p q table s a end h told1 = record {
  events = [];
  size = refl;
  goes = ap (λ x. then_left w u r k next (go_on x (given_on table))) (stop_ends s a end h) ∙ then_ends w u r k next end [];
  told = told1;
}

abbrev with_parts : (Text → Option MacroText) → List Text → ℕ → ℕ → ℕ → State
with_parts macro once work reading room = record { macro = macro; once = once; work = work; reading = reading; room = room }

-- What was noted changes no macro and no file.
module _ (law : KeepsMacros) (p q : Progress) (told : List Telling) (good : IsProgress p) (noted : IsNoted p q told) where
  pub noted_state : state_of q ≡ state_of p
  noted_state =
      ap (λ m. with_parts m q.once (LIMIT - q.used) q.reading (MOST_TOKENS - length q.tokens.items)) (ap (λ m. (table_of q.names m []).macro) noted.macros ∙ ap (λ t. t.macro) (law.same p.names q.names p.macros [] noted.told.names good.macros))
      ∙ ap (λ o. with_parts (state_of p).macro o (LIMIT - q.used) q.reading (MOST_TOKENS - length q.tokens.items)) noted.once
      ∙ ap (λ n. with_parts (state_of p).macro p.once (LIMIT - n) q.reading (MOST_TOKENS - length q.tokens.items)) noted.used
      ∙ ap (λ n. with_parts (state_of p).macro p.once (LIMIT - p.used) n (MOST_TOKENS - length q.tokens.items)) noted.reading
      ∙ ap (λ v. with_parts (state_of p).macro p.once (LIMIT - p.used) p.reading (MOST_TOKENS - length v.items)) noted.tokens

  pub noted_table : (e f : Expansion) → IsExpanding p e → f.expander.machine.file ≡ e.expander.machine.file → table_for q f ≡ table_for p e
  noted_table e f x same =
      let t = text_of p.names e.expander.machine.file in
      ap (λ n. table_of q.names q.macros (text_of q.names n)) same
      ∙ ap (λ l. table_of q.names q.macros l) (text_later p.names q.names e.expander.machine.file noted.told.names x.literal)
      ∙ ap (λ m. table_of q.names m t) noted.macros
      ∙ law.same p.names q.names p.macros t noted.told.names good.macros

  pub noted_told : (n : ℕ) → IsTold p (with_used q n) (map Told told)
  noted_told n = record { tokens = noted.told.tokens; trace = noted.told.trace; renaming = noted.told.renaming; names = noted.told.names }

-- A use of a rule in a run.
module _ (law : KeepsMacros) (w : World) (u : Unit) (files : List KnownFile) (p q : Progress) (file : OpenFile) (told : List Telling) (e f : Boxed) (next : Then) (good : IsProgress p) (o : IsOpen p.names files file)
    (x : IsExpanding p e.value) (noted : IsNoted p q told) (one : IsOneUse told) (same : f.value.expander.machine.file ≡ e.value.expander.machine.file) where
  abbrev before : Task Nothing → Reply Nothing
  before k = doing_left w u p (reading_of p.names files file) k (doing.Expands e next)

  table : table_for q f.value ≡ table_for p e.value
  table = noted_table law p q told good noted e.value f.value x same

  state : state_of q ≡ state_of p
  state = noted_state law p q told good noted

  read : reading_of q.names files file ≡ reading_of p.names files file
  read = reading_later p.names q.names files file noted.told.names o

  -- it gave no token
  pub run_goes : (n : ℕ) → ahead_in p e.value ≡ after told (ahead_in q f.value) → (k : Task Nothing)
      → Leads 1 p (with_used q n) (before k) (doing_left w u (with_used q n) (reading_of q.names files file) k (doing.Expands f next))
  run_goes n h k = record {
    events = map Told told;
    size = told_steps told ∙ one.0;
    goes =
        ap (λ a. then_left w u (reading_of p.names files file) k next (run_left (table_for p e.value) (state_of p) a)) h
        ∙ ap (then_left w u (reading_of p.names files file) k next) (run_after (table_for p e.value) (state_of p) told (ahead_in q f.value) one.1)
        ∙ then_behind w u (reading_of p.names files file) k next (map Told told) (run_left (table_for p e.value) (state_of p) (ahead_in q f.value))
        ∙ ap (behind (map Told told)) (sym now);
    told = noted_told law p q told good noted n;
  } where
    now : then_left w u (reading_of q.names files file) k next (run_left (table_for q f.value) (state_of (with_used q n)) (ahead_in q f.value)) ≡ then_left w u (reading_of p.names files file) k next (run_left (table_for p e.value) (state_of p) (ahead_in q f.value))
    now =
        ap (λ r. then_left w u r k next (run_left (table_for q f.value) (state_of (with_used q n)) (ahead_in q f.value))) read
        ∙ ap (λ t. then_left w u (reading_of p.names files file) k next (run_left t (state_of (with_used q n)) (ahead_in q f.value))) table
        ∙ ap (then_left w u (reading_of p.names files file) k next) (run_work (table_for p e.value) (state_of q) (LIMIT - n) (ahead_in q f.value))
        ∙ ap (λ s. then_left w u (reading_of p.names files file) k next (run_left (table_for p e.value) s (ahead_in q f.value))) state

  -- it gave this token
  module _ (n : ℕ) (t : Token) (rest : List Token) (h : ahead_in p e.value ≡ Gave (Some (record { tokens = t ∷ []; rest = rest })) (LIMIT - n) told) where
    pub run_gave : (k : Task Nothing) → Leads 1 p (with_used q n) (before k) (then_left w u (reading_of p.names files file) k next ((gives (t ∷ []) >>> λ d. run_in (table_for p e.value) rest) (state_of (with_used q n))))
    run_gave k = record {
      events = map Told told;
      size = told_steps told ∙ one.0;
      goes =
          ap (λ a. then_left w u (reading_of p.names files file) k next (run_left (table_for p e.value) (state_of p) a)) h
          ∙ then_behind w u (reading_of p.names files file) k next (map Told told) (on (record (state_of p) { work = LIMIT - n }))
          ∙ ap (λ s. behind (map Told told) (then_left w u (reading_of p.names files file) k next (on (record s { work = LIMIT - n })))) (sym state);
      told = noted_told law p q told good noted n;
    } where
      on : State → Reply Nothing
      on = gives (t ∷ []) >>> λ d. run_in (table_for p e.value) rest

    -- there is no room for it
    pub run_full : (k : Task Nothing) → length q.tokens.items ≡ MOST_TOKENS → Leads {A = Nothing} 1 p (with_used q n) (before k) (Ends (Over Tokens) [])
    run_full k full =
        let left : nat_lt (MOST_TOKENS - length q.tokens.items) 1 ≡ true = grind (arith, nat_tests) in
        let s = state_of (with_used q n) in
        leads_to 1 p (with_used q n) _ _ _
        (ap (λ b. then_left w u (reading_of p.names files file) k next (go_on (cond b (Ends (Over Tokens) []) (Goes Done (record s { room = (MOST_TOKENS - length q.tokens.items) - 1 }) (final t))) (λ d. run_in (table_for p e.value) rest))) left
        ∙ then_ends w u (reading_of p.names files file) k next (Over Tokens) []
        ∙ ap (λ end. Ends end []) (ended_over next Tokens))
        (run_gave k) where
          final : Token → List Event
          final t = map {A = Token} (λ x. Final x) (t ∷ [])

    -- it is given, and the run goes on
    module _ (v : Progress) (after1 : ahead_in q f.value ≡ next_token (table_for q f.value) rest (LIMIT - n)) where
      abbrev z : Progress
      z = record q { used = n; tokens = v.tokens; trace = v.trace }

      now : (k : Task Nothing) → then_left w u (reading_of p.names files file) k next (run_in (table_for p e.value) rest (state_of z)) ≡ doing_left w u z (reading_of z.names files file) k (doing.Expands f next)
      now k =
          ap (λ r. then_left w u r k next (run_in (table_for p e.value) rest (state_of z))) (sym read)
          ∙ ap (λ b. then_left w u (reading_of q.names files file) k next (run_in b rest (state_of z))) (sym table)
          ∙ ap (then_left w u (reading_of q.names files file) k next) (sym (run_is (table_for q f.value) rest (state_of z)))
          ∙ ap (λ a. then_left w u (reading_of q.names files file) k next (run_left (table_for q f.value) (state_of z) a)) (sym after1)

      pub run_given : v ≡ z → Did 0 (with_used q n) v (gives (t ∷ [])) Done → (k : Task Nothing) → Leads 1 p v (before k) (doing_left w u v (reading_of v.names files file) k (doing.Expands f next))
      run_given same_v did k =
          subst (λ y. Leads 1 p y (before k) (doing_left w u y (reading_of y.names files file) k (doing.Expands f next))) (sym same_v)
          (leads_to 1 p z _ _ _ (now k)
          (leads_then 1 0 p (with_used q n) z _ _ _ good (run_gave k)
          (leads_on 0 (with_used q n) z w u (reading_of p.names files file) k next _ _ (did_leads 0 (with_used q n) z (gives (t ∷ [])) (λ d. run_in (table_for p e.value) rest) Done (subst (λ y. Did 0 (with_used q n) y (gives (t ∷ [])) Done) same_v did)))))

-- the run is at its end
pub run_ended : (w : World) (u : Unit) (files : List KnownFile) (p : Progress) (file : OpenFile) (e : Boxed) (next : Then) (n : ℕ) → ahead_in p e.value ≡ Gave None (LIMIT - n) [] → (k : Task Nothing)
    → Leads 0 p (with_used p n) (doing_left w u p (reading_of p.names files file) k (doing.Expands e next)) (then_left w u (reading_of p.names files file) k next (Goes Done (state_of (with_used p n)) []))
run_ended w u files p file e next n h k = record {
  events = [];
  size = refl;
  goes = ap (λ a. then_left w u (reading_of p.names files file) k next (run_left (table_for p e.value) (state_of p) a)) h ∙ sym (behind_none (then_left w u (reading_of p.names files file) k next (Goes Done (state_of (with_used p n)) [])));
  told = used_told p n;
}

-- a file is still worked on where its run is, and final tokens were given
pub run_working : (files : List KnownFile) (p q v : Progress) (file : OpenFile) (told : List Telling) (f : Boxed) (next : Then) (n : ℕ) → IsOpen p.names files file → length file.line.items + p.reading ≤ 33554432 → IsNoted p q told
    → IsExpanding q f.value → f.value.expander.machine.file ≡ file.literal → IsProgress v → v ≡ record q { used = n; tokens = v.tokens; trace = v.trace } → IsWorking files v file (doing.Expands f next)
run_working files p q v file told f next n o line noted x same good e =
    subst (λ y. IsWorking files y file (doing.Expands f next)) (sym e) (record {
      progress = subst IsProgress e good;
      file = open_later p.names q.names files file noted.told.names o;
      line = subst (λ m. length file.line.items + m ≤ 33554432) (sym noted.reading) line;
      does = (record { running = x.running; finished = x.finished; fault = x.fault; from = x.from; to = x.to; literal = x.literal; limit = x.limit }, same);
    })

-- A token of the run was given, or there was no room for it.
module _ (law : KeepsMacros) (w : World) (u : Unit) (files : List KnownFile) (p q v : Progress) (file : OpenFile) (e f : Boxed) (next : Then) (n : ℕ) (t : PpTok) (good : IsProgress p) (o : IsOpen p.names files file)
    (line : length file.line.items + p.reading ≤ 33554432) (x : IsExpanding p e.value) (literal : e.value.expander.machine.file ≡ file.literal) (good_after : IsProgress q) (n_is : n ≡ f.value.expander.machine.used) (used : IsUsed p q e.value f.value (use1.Gives t)) where
  after_is : ahead_in q f.value ≡ next_token (table_for q f.value) used.2 (LIMIT - n)
  after_is = used.5 ∙ ap (λ m. next_token (table_for q f.value) used.2 (LIMIT - m)) (sym n_is)

  before_is : ahead_in p e.value ≡ Gave (Some (record { tokens = token_of q.names used.0 t ∷ []; rest = used.2 })) (LIMIT - n) used.1
  before_is = used.4 ∙ ap (λ m. Gave (Some (record { tokens = token_of q.names used.0 t ∷ []; rest = used.2 })) (LIMIT - m) used.1) (sym n_is)

  limit : n ≤ LIMIT
  limit = subst (λ m. m ≤ LIMIT) (sym n_is) used.9.limit

  pub used_good_after : IsProgress (with_used q n)
  used_good_after = used_good q n good_after limit

  -- a run that ended the unit leaves nothing to work on
  ended_working : (fault : Fault) → v ≡ with_used q n → IsWorking files v file (doing.Fails fault)
  ended_working fault e =
      subst (λ y. IsWorking files y file (doing.Fails fault)) (sym e) (record {
        progress = used_good_after;
        file = open_later p.names q.names files file used.8.told.names o;
        line = subst (λ m. length file.line.items + m ≤ 33554432) (sym used.8.reading) line;
        does = tt;
      })

  pub run_gives : (d : Doing) → IsGiving (with_used q n) v t (doing.Expands f next) d → IsTurned w u files p v file file (doing.Expands e next) d turned.Steps
  run_gives (doing.Expands g then) h =
      subst (λ d. IsTurned w u files p v file file (doing.Expands e next) d turned.Steps) (sym h.2) (
        run_given law w u files p q file used.1 e f next good o x used.8 used.3 used.10 n (token_of q.names used.0 t) used.2 before_is v after_is h.1 (h.0 used.0),
        run_working files p q v file used.1 f next n o line used.8 used.9 (used.10 ∙ literal) (h.0 []).good h.1,
      )
  run_gives (doing.Fails fault) h = (
    (λ k.
        subst (λ y. Leads {A = Nothing} 1 p y (doing_left w u p (reading_of p.names files file) k (doing.Expands e next)) (Ends (end_by fault) [])) (sym h.1)
        (subst (λ end. Leads {A = Nothing} 1 p (with_used q n) (doing_left w u p (reading_of p.names files file) k (doing.Expands e next)) (Ends end [])) (sym h.2)
        (run_full law w u files p q file used.1 e f next good o x used.8 used.3 used.10 n (token_of q.names used.0 t) used.2 before_is k h.0))),
    ended_working fault h.1,
  )
  run_gives doing.Reads h = absurd h
  run_gives (doing.Decides l d) h = absurd h
  run_gives (doing.Includes l) h = absurd h
  run_gives (doing.Looks paths site) h = absurd h

-- the run is at its end, where a use of a rule changes nothing
pub run_ends : (w : World) (u : Unit) (files : List KnownFile) (p q : Progress) (file : OpenFile) (e f : Boxed) (next : Then) (n : ℕ) → n ≡ f.value.expander.machine.used → IsUsed p q e.value f.value use1.Ends → (k : Task Nothing)
    → Leads 0 p (with_used q n) (doing_left w u p (reading_of p.names files file) k (doing.Expands e next)) (then_left w u (reading_of q.names files file) k next (Goes Done (state_of (with_used q n)) []))
run_ends w u files p q file e f next n n_is used k =
    subst (λ y. Leads 0 p (with_used y n) (doing_left w u p (reading_of p.names files file) k (doing.Expands e next)) (then_left w u (reading_of y.names files file) k next (Goes Done (state_of (with_used y n)) []))) (sym used.0)
    (run_ended w u files p file e next n (used.2 ∙ ap (λ m. Gave None (LIMIT - m) []) (sym n_is)) k)
