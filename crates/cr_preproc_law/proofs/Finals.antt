-- The final tokens of a unit come from text lines and definitions, or are made.
use Rattle.std.proofs.Common.{◌≡◌, ℕ, zero, suc, ◌+◌, ◌-◌, Bool, true, false, cond, List, [], ◌∷◌, ◌++◌, length, map, take, drop, refl, subst, Some, None, Option}
use Rattle.std.specs.Prelude.{nat_lt, flat_map, codes, ◌||◌, ◌&&◌, not, bytes_eq, is_some, Result, Ok, Err, ℤ}
use Rattle.std.specs.List.{AllByRecursion}
use Rattle.cr_base.specs.NameTable.{with_text}
use Rattle.cr_base.specs.declared.token.Place.{Place}
use Rattle.cr_base.specs.declared.token.Origin.{Origin}
use Rattle.cr_base.specs.declared.token.Origin.TheVariants.{Made}
use Rattle.cr_base.specs.declared.cause.IllCause.TheVariants as cause
use Rattle.cr_base.specs.declared.cause.Role.{Role}
use Rattle.cr_base.specs.declared.cause.Role.TheVariants as role
use Rattle.cr_base.specs.declared.unit.Unit.{Unit}
use Rattle.cr_snapshot.specs.Files.{Finding, Present, Absent, Unknown}
use Rattle.cr_snapshot.specs.IncludeSearch.{candidates}
use Rattle.cr_cond.specs.declared.CondFault.{CondFault}
use Rattle.cr_cond.specs.Value.{is_zero_int, value_of, numbered}
use Rattle.cr_macros.specs.Tokens.{Text, Token, MacroText, Event as Telling, is_ident, has, takes, Answer, Gave, Stopped}
use Rattle.cr_macros.specs.Expansion.{Table, use_of, expand}
use Rattle.cr_macros.specs.Uses.{put_for, is_given, left_behind}
use Rattle.cr_macros.specs.Substitution.{param}
use Rattle.cr_expand_law.specs.Origins.{Test, MadePass, Passes, AllPass, UsesKeepOrigins}
use Rattle.cr_phase4.specs.declared.conditionals.Word.{Word}
use Rattle.cr_phase4.specs.declared.conditionals.Word.TheVariants.{If, Ifdef, Ifndef, Elif, Else, Endif}
use Rattle.cr_phase4.specs.declared.conditionals.OpenIf.{OpenIf}
use Rattle.cr_phase4.specs.declared.conditionals.Group.{Group}
use Rattle.cr_phase4.specs.declared.conditionals.Group.TheVariants.{Taken, Before, Past}
use Rattle.cr_phase4.specs.Tasks.{Tokens, Macros, Reading, Includes, End, Ill, Over, Needs, Event, Took, Opened, Looked, Defined, Told, Final, State, Reply, Goes, Ends, Task, Nothing, Done, behind, go_on, ◌>>>◌, only, ready, ends, tell, look, change, marks, reads, gives, from_answer, at_place, in_directive}
use Rattle.cr_phase4.specs.Lines.{File, file_of, place_in, Line, Plain, Conditional, Directive, Empty, Wordless, line_of}
use Rattle.cr_phase4.specs.Definition.{Params, is_free_name, is_rest, object_like, function_like, begins_params, close_of, with_params, params_of, macro_of, parameters_of, is_good, Definition, if_good, definition, undefined_name}
use Rattle.cr_phase4.specs.Search.{World, Search, Finds, Misses, Lacks, search, unknown, looked_for, words_path}
use Rattle.cr_phase4.specs.Runs.{table_in, expands, run_on, run_rules, runs_within, runs, after_run, inside}
use Rattle.cr_phase4.specs.Conditionals.{is_live, group_if, opened, is_macro, lexeme_of, Piece, Other, Asks, answered, pieces, asking, cause_of, is_true, condition, is_named, elif_in, group_of_else, begun, conditional, is_word_live}
use Rattle.cr_phase4.specs.Directives.{Opening, Header, all_marks, header_name, site_of, opens_found, looks, opens, includes_expanded, includes, with_macro, parameter_marks, definition_marks, defines, undefines, begins_with_once, pragma, plain_directive, directive}
use Rattle.cr_phase4.specs.Preprocessing.{Ahead, ahead, where_live, by_line, at_end, run_with, takes_rest, takes_line, does_lines, does_file, levels, does_first_file, does_unit, at_first, preprocessed}
use Rattle.cr_phase4.specs.PreprocessingRun.{final_tokens}
use Rattle.cr_preproc_law.specs.Finals.{LinePasses, FilePasses, FoundPasses, FinalsPass}

abbrev Any : {A : Type 0} → A → Type 0
Any a = Prim.Unit {0}

both_pass : (test : Test) (xs ys : List Token) → AllPass test xs → AllPass test ys → AllPass test (xs ++ ys)
both_pass test [] ys h k = k
both_pass test (x ∷ xs) ys h k = (h.0, both_pass test xs ys h.1 k)

drop_passes : (test : Test) (n : ℕ) (ts : List Token) → AllPass test ts → AllPass test (drop n ts)
drop_passes test zero ts h = h
drop_passes test (suc n) [] h = tt
drop_passes test (suc n) (t ∷ ts) h = drop_passes test n ts h.1

module _ (test : Test) (made_passes : MadePass test) where
  abbrev EventPasses : Event → Type 0
  EventPasses (Final t) = Passes test t
  EventPasses Took = Prim.Unit {0}
  EventPasses (Opened path) = Prim.Unit {0}
  EventPasses (Looked paths) = Prim.Unit {0}
  EventPasses (Defined t m) = Prim.Unit {0}
  EventPasses (Told e) = Prim.Unit {0}

  abbrev EventsPass : List Event → Type 0
  EventsPass = AllByRecursion EventPasses

  -- the bodies of the state's macros pass
  record Good (s : State) : Type 0 where
    bodies : (name : Text) (m : MacroText) → s.macro name ≡ Some m → AllPass test m.body

  abbrev ReplyKeeps : {A : Type 0} → (A → Type 0) → Reply A → Type 0
  ReplyKeeps P (Goes a s events) = P a × Good s × EventsPass events
  ReplyKeeps P (Ends end events) = Prim.Unit {0}

  record Keeps {A : Type 0} (P : A → Type 0) (m : Task A) : Type 0 where
    at : (s : State) → Good s → ReplyKeeps P (m s)

  events_both : (xs ys : List Event) → EventsPass xs → EventsPass ys → EventsPass (xs ++ ys)
  events_both [] ys h k = k
  events_both (x ∷ xs) ys h k = (h.0, events_both xs ys h.1 k)

  keeps_behind : {A : Type 0} (P : A → Type 0) (events : List Event) (r : Reply A) → EventsPass events → ReplyKeeps P r → ReplyKeeps P (behind events r)
  keeps_behind P events (Goes a s more) h k = (k.0, k.1, events_both events more h k.2)
  keeps_behind P events (Ends end more) h k = tt

  keeps_go_on : {A B : Type 0} (P : A → Type 0) (Q : B → Type 0) (r : Reply A) (f : A → Task B) → ReplyKeeps P r → ((a : A) → P a → Keeps Q (f a)) → ReplyKeeps Q (go_on r f)
  keeps_go_on P Q (Goes a s events) f h k = keeps_behind Q events (f a s) h.2 ((k a h.0).at s h.1)
  keeps_go_on P Q (Ends end events) f h k = tt

  keeps_then : {A B : Type 0} (P : A → Type 0) (Q : B → Type 0) (m : Task A) (f : A → Task B) → Keeps P m → ((a : A) → P a → Keeps Q (f a)) → Keeps Q (m >>> f)
  keeps_then P Q m f h k = record { at = λ s good. keeps_go_on P Q (m s) f (h.at s good) k }

  keeps_only : {A : Type 0} (P : A → Type 0) (a : A) → P a → Keeps P (only a)
  keeps_only P a h = record { at = λ s good. (h, good, tt) }

  keeps_ends : {A : Type 0} (P : A → Type 0) (end : End) → Keeps P (ends end)
  keeps_ends P end = record { at = λ s good. tt }

  keeps_tell : (events : List Event) → EventsPass events → Keeps Any (tell events)
  keeps_tell events h = record { at = λ s good. (tt, good, h) }

  keeps_look : Keeps Any look
  keeps_look = record { at = λ s good. (tt, good, tt) }

  keeps_if : {A : Type 0} (P : A → Type 0) (b : Bool) (m n : Task A) → Keeps P m → Keeps P n → Keeps P (cond b m n)
  keeps_if P true m n h k = h
  keeps_if P false m n h k = k

  keeps_live : {A : Type 0} (P : A → Type 0) (b : Bool) (m n : Task A) → Keeps P m → Keeps P n → Keeps P (where_live b m n)
  keeps_live P true m n h k = h
  keeps_live P false m n h k = k

  keeps_inside : {A : Type 0} (P : A → Type 0) (path : Text) (run : List Token) (m : Task A) → Keeps P m → Keeps P (inside path run m)
  keeps_inside {A} P path run m h = record { at = λ s good. go s (m s) (h.at s good) } where
    go : (s : State) (r : Reply A) → ReplyKeeps P r → ReplyKeeps P (after_run path run s r)
    go s (Goes a s1 events) k = k
    go s (Ends end events) k = tt

  keeps_in_directive : {A : Type 0} (P : A → Type 0) (hash : Place) (m : Task A) → Keeps P m → Keeps P (in_directive hash m)
  keeps_in_directive {A} P hash m h = record { at = λ s good. go (m s) (h.at s good) } where
    go : (r : Reply A) → ReplyKeeps P r → ReplyKeeps P (at_place hash r)
    go (Goes a s events) k = k
    go (Ends end events) k = tt

  told_pass : (tellings : List Telling) → EventsPass (map Told tellings)
  told_pass [] = tt
  told_pass (x ∷ xs) = (tt, told_pass xs)

  flat_pass : {A : Type 0} (f : A → List Event) → ((a : A) → EventsPass (f a)) → (xs : List A) → EventsPass (flat_map f xs)
  flat_pass f h [] = tt
  flat_pass f h (x ∷ xs) = events_both (f x) (flat_map f xs) (h x) (flat_pass f h xs)

  marks_pass : (r : Role) (t : Token) → EventsPass (marks r t)
  marks_pass r t = told_pass (takes r t)

  all_marks_pass : (r : Role) (ts : List Token) → EventsPass (all_marks r ts)
  all_marks_pass r ts = flat_pass (marks r) (marks_pass r) ts

  finals_pass : (ts : List Token) → AllPass test ts → EventsPass (map Final ts)
  finals_pass [] h = tt
  finals_pass (t ∷ ts) h = (h.0, finals_pass ts h.1)

  still : (s : State) (work reading room : ℕ) → Good s → Good (record s { work = work; reading = reading; room = room })
  still s work reading room good = record { bodies = good.bodies }

  keeps_reads : (k : ℕ) (events : List Event) → EventsPass events → Keeps Any (reads k events)
  keeps_reads k events h = record { at = λ s good. go s good (nat_lt s.reading k) } where
    go : (s : State) → Good s → (b : Bool) → ReplyKeeps {A = Nothing} Any (cond b (Ends (Over Reading) []) (Goes Done (record s { reading = s.reading - k }) events))
    go s good true = tt
    go s good false = (tt, still s s.work (s.reading - k) s.room good, h)

  keeps_gives : (ts : List Token) → AllPass test ts → Keeps Any (gives ts)
  keeps_gives ts h = record { at = λ s good. go s good (nat_lt s.room (length ts)) } where
    go : (s : State) → Good s → (b : Bool) → ReplyKeeps {A = Nothing} Any (cond b (Ends (Over Tokens) []) (Goes Done (record s { room = s.room - length ts }) (map Final ts)))
    go s good true = tt
    go s good false = (tt, still s s.work s.reading (s.room - length ts) good, finals_pass ts h)

  -- a directive's list
  keeps_expands : (path : Text) (ts : List Token) → Keeps Any (expands path ts)
  keeps_expands path ts = record { at = λ s good. go s good (expand (table_in path s) ts s.work) } where
    go : (s : State) → Good s → (p : Answer (List Token)) → ReplyKeeps {A = List Token} Any (from_answer s p)
    go s good (Stopped why stopped) = tt
    go s good (Gave out left tellings) = (tt, still s left s.reading s.room good, told_pass tellings)

  module _ (uses_keep : UsesKeepOrigins) where
    module _ (table : Table) (bodies : (name : Text) (m : MacroText) → table.macro name ≡ Some m → AllPass test m.body) (go : List Token → Task Nothing) (kg : (ts : List Token) → AllPass test ts → Keeps Any (go ts)) where
      keeps_run_on : (given : Bool) (ts rest : List Token) → AllPass test ts → AllPass test rest → Keeps Any (run_on go given ts rest)
      keeps_run_on true ts rest h k = keeps_then Any Any (gives ts) (λ d. go rest) (keeps_gives ts h) (λ d x. kg rest k)
      keeps_run_on false ts rest h k = kg (ts ++ rest) (both_pass test ts rest h k)

      keeps_rules : (ts : List Token) → AllPass test ts → Keeps Any (run_rules go table ts)
      keeps_rules [] h = keeps_only Any Done tt
      keeps_rules (t ∷ rest) h = record { at = λ s good. by_put s good (put_for table t (use_of table t rest) s.work) refl } where
        by_put : (s : State) → Good s → (p : Answer (List Token)) → put_for table t (use_of table t rest) s.work ≡ p
            → ReplyKeeps {A = Nothing} Any (go_on (from_answer s p) (λ ts. run_on go (is_given (use_of table t rest)) ts (left_behind rest (use_of table t rest))))
        by_put s good (Stopped why stopped) e = tt
        by_put s good (Gave ts left tellings) e =
            let kept = uses_keep test table t rest ts s.work left tellings made_passes bodies h.0 h.1 e in
            keeps_behind Any (map Told tellings) (run_on go (is_given (use_of table t rest)) ts (left_behind rest (use_of table t rest)) (record s { work = left })) (told_pass tellings)
            ((keeps_run_on (is_given (use_of table t rest)) ts (left_behind rest (use_of table t rest)) kept.0 kept.1).at (record s { work = left }) (still s left s.reading s.room good))

    keeps_within : (table : Table) → ((name : Text) (m : MacroText) → table.macro name ≡ Some m → AllPass test m.body) → (n : ℕ) (ts : List Token) → AllPass test ts → Keeps Any (runs_within n table ts)
    keeps_within table bodies zero ts h = keeps_ends Any (Over Macros)
    keeps_within table bodies (suc n) ts h = keeps_rules table bodies (runs_within n table) (keeps_within table bodies n) ts h

    keeps_runs : (path : Text) (ts : List Token) → AllPass test ts → Keeps Any (runs path ts)
    keeps_runs path ts h = record { at = λ s good. (keeps_within (table_in path s) good.bodies (suc (s.work + length ts)) ts h).at s good }

    -- conditionals

    keeps_true : (hash : Place) (o : Result ℤ CondFault) → Keeps Any (is_true hash o)
    keeps_true hash (Ok n) = keeps_only Any (not (is_zero_int n)) tt
    keeps_true hash (Err fault) = keeps_ends Any (Ill (cause_of fault) hash)

    asking_pass : (p : Piece) → EventsPass (asking p)
    asking_pass (Other t) = tt
    asking_pass (Asks t x) = events_both (marks role.Directive t) (marks role.Directive x) (marks_pass role.Directive t) (marks_pass role.Directive x)

    keeps_condition : (path : Text) (hash : Place) (ts : List Token) → Keeps Any (condition path hash ts)
    keeps_condition path hash ts =
        keeps_then Any Any look (λ s. tell (flat_map asking (pieces 0 ts)) >>> λ d. expanded s) keeps_look
        (λ s x. keeps_then Any Any (tell (flat_map asking (pieces 0 ts))) (λ d. expanded s) (keeps_tell (flat_map asking (pieces 0 ts)) (flat_pass asking asking_pass (pieces 0 ts)))
        (λ d y. keeps_then Any Any (in_directive hash (expands path (map (answered (is_macro s)) (pieces 0 ts)))) truth (keeps_in_directive Any hash (expands path (map (answered (is_macro s)) (pieces 0 ts))) (keeps_expands path (map (answered (is_macro s)) (pieces 0 ts))))
        (λ us z. keeps_then Any Any (tell (flat_map (marks role.Controlling) us)) (λ d. is_true hash (numbered (value_of (map {A = Token} lexeme_of us)))) (keeps_tell (flat_map (marks role.Controlling) us) (all_marks_pass role.Controlling us)) (λ d v. keeps_true hash (numbered (value_of (map lexeme_of us))))))) where
          truth : List Token → Task Bool
          truth us = tell (flat_map (marks role.Controlling) us) >>> λ d. is_true hash (numbered (value_of (map {A = Token} lexeme_of us)))

          expanded : State → Task Bool
          expanded s = in_directive hash (expands path (map (answered (is_macro s)) (pieces 0 ts))) >>> λ us. truth us

    keeps_is_named : (hash : Place) (ts : List Token) → Keeps Any (is_named hash ts)
    keeps_is_named hash [] = keeps_ends Any (Ill cause.BadDirective hash)
    keeps_is_named hash (t ∷ ts) =
        keeps_if Any (is_ident t.kind) (tell (marks role.Directive t) >>> λ d. look >>> λ s. only (is_macro s t)) (ends (Ill cause.BadDirective hash))
        (keeps_then Any Any (tell (marks role.Directive t)) (λ d. look >>> λ s. only (is_macro s t)) (keeps_tell (marks role.Directive t) (marks_pass role.Directive t))
        (λ d x. keeps_then Any Any look (λ s. only (is_macro s t)) keeps_look (λ s y. keeps_only Any (is_macro s t) tt)))
        (keeps_ends Any (Ill cause.BadDirective hash))

    keeps_begun : (hash : Place) (cs : List OpenIf) (b : Bool) (m : Task Bool) → Keeps Any m → Keeps Any (begun hash cs b m)
    keeps_begun hash cs true m h = keeps_then Any Any m (λ b. only (opened hash (group_if b) cs)) h (λ b x. keeps_only Any (opened hash (group_if b) cs) tt)
    keeps_begun hash cs false m h = keeps_only Any (opened hash Past cs) tt

    keeps_elif_in : (path : Text) (hash : Place) (ts : List Token) (cs : List OpenIf) (c : OpenIf) (g : Group) → Keeps Any (elif_in path hash ts cs c g)
    keeps_elif_in path hash ts cs c Before = keeps_then Any Any (condition path hash ts) (λ b. only (record c { group = group_if b } ∷ cs)) (keeps_condition path hash ts) (λ b x. keeps_only Any (record c { group = group_if b } ∷ cs) tt)
    keeps_elif_in path hash ts cs c Taken = keeps_only Any (record c { group = Past } ∷ cs) tt
    keeps_elif_in path hash ts cs c Past = keeps_only Any (record c { group = Past } ∷ cs) tt

    keeps_conditional : (path : Text) (hash : Place) (ts : List Token) (cs : List OpenIf) (w : Word) → Keeps Any (conditional path hash ts cs w)
    keeps_conditional path hash ts cs If = keeps_begun hash cs (is_live cs) (condition path hash ts) (keeps_condition path hash ts)
    keeps_conditional path hash ts cs Ifdef = keeps_begun hash cs (is_live cs) (is_named hash ts) (keeps_is_named hash ts)
    keeps_conditional path hash ts cs Ifndef =
        keeps_begun hash cs (is_live cs) (is_named hash ts >>> λ b. only (not b)) (keeps_then Any Any (is_named hash ts) (λ b. only (not b)) (keeps_is_named hash ts) (λ b x. keeps_only Any (not b) tt))
    keeps_conditional path hash ts [] Elif = keeps_ends Any (Ill cause.StrayElse hash)
    keeps_conditional path hash ts (c ∷ cs) Elif = keeps_if Any c.in_else (ends (Ill cause.StrayElse hash)) (elif_in path hash ts cs c c.group) (keeps_ends Any (Ill cause.StrayElse hash)) (keeps_elif_in path hash ts cs c c.group)
    keeps_conditional path hash ts [] Else = keeps_ends Any (Ill cause.StrayElse hash)
    keeps_conditional path hash ts (c ∷ cs) Else =
        keeps_if Any c.in_else (ends (Ill cause.StrayElse hash)) (only (record c { group = group_of_else c.group; in_else = true } ∷ cs)) (keeps_ends Any (Ill cause.StrayElse hash)) (keeps_only Any (record c { group = group_of_else c.group; in_else = true } ∷ cs) tt)
    keeps_conditional path hash ts [] Endif = keeps_ends Any (Ill cause.StrayElse hash)
    keeps_conditional path hash ts (c ∷ cs) Endif = keeps_only Any cs tt

    -- definitions

    abbrev BodyPasses : Option MacroText → Type 0
    BodyPasses None = Prim.Unit {0}
    BodyPasses (Some m) = AllPass test m.body

    function_passes : (body : List Token) (p : Params) → AllPass test body → BodyPasses (function_like body p)
    function_passes body None h = tt
    function_passes body (Some p) h = h

    with_params_pass : (rest : List Token) (o : Option ℕ) → AllPass test rest → BodyPasses (with_params rest o)
    with_params_pass rest None h = tt
    with_params_pass rest (Some n) h = function_passes (drop (n + 1) rest) (params_of (take n rest)) (drop_passes test (n + 1) rest h)

    body_if : (b : Bool) (x y : Option MacroText) → BodyPasses x → BodyPasses y → BodyPasses (cond b x y)
    body_if true x y h k = h
    body_if false x y h k = k

    macro_passes : (rest : List Token) → AllPass test rest → BodyPasses (macro_of rest)
    macro_passes [] h = tt
    macro_passes (t ∷ rest) h = body_if (begins_params t) (with_params rest (close_of rest)) (Some (object_like (t ∷ rest))) (with_params_pass rest (close_of rest) h.1) h

    abbrev DefinitionPasses : Option Definition → Type 0
    DefinitionPasses None = Prim.Unit {0}
    DefinitionPasses (Some d) = AllPass test d.macro.body

    if_good_passes : (name : Token) (rest : List Token) (o : Option MacroText) → BodyPasses o → DefinitionPasses (if_good name rest o)
    if_good_passes name rest None h = tt
    if_good_passes name rest (Some m) h = go (is_good m) where
      go : (b : Bool) → DefinitionPasses (cond b (Some (record { name = name; parameters = parameters_of rest; macro = m })) None)
      go true = h
      go false = tt

    definition_passes : (ts : List Token) → AllPass test ts → DefinitionPasses (definition ts)
    definition_passes [] h = tt
    definition_passes (name ∷ rest) h = go (is_free_name name && not (is_rest name)) where
      go : (b : Bool) → DefinitionPasses (cond b (if_good name rest (macro_of rest)) None)
      go true = if_good_passes name rest (macro_of rest) (macro_passes rest h.1)
      go false = tt

    good_with : (name : Text) (o : Option MacroText) (s : State) → BodyPasses o → Good s → Good (with_macro name o s)
    good_with name o s h good = record { bodies = λ other m e. go (bytes_eq name other) other m e } where
      go : (b : Bool) (other : Text) (m : MacroText) → cond b o (s.macro other) ≡ Some m → AllPass test m.body
      go true other m e = subst BodyPasses e h
      go false other m e = good.bodies other m e

    keeps_defines : (hash : Place) (o : Option Definition) → DefinitionPasses o → Keeps Any (defines hash o)
    keeps_defines hash None h = keeps_ends Any (Ill cause.BadDefine hash)
    keeps_defines hash (Some d) h =
        keeps_then Any Any (tell (definition_marks d ++ Defined d.name d.macro ∷ [])) (λ n. change (with_macro d.name.text (Some d.macro)))
        (keeps_tell (definition_marks d ++ Defined d.name d.macro ∷ []) (events_both (definition_marks d) (Defined d.name d.macro ∷ [])
        (events_both (marks role.Directive d.name) (all_marks role.Param d.parameters ++ flat_map (parameter_marks d.macro) d.macro.body) (marks_pass role.Directive d.name)
        (events_both (all_marks role.Param d.parameters) (flat_map (parameter_marks d.macro) d.macro.body) (all_marks_pass role.Param d.parameters) (flat_pass (parameter_marks d.macro) (λ t. one (is_some (param d.macro t)) t) d.macro.body))) (tt, tt)))
        (λ n x. record { at = λ s good. (tt, good_with d.name.text (Some d.macro) s h good, tt) }) where
          one : (b : Bool) (t : Token) → EventsPass (cond b (marks role.Param t) [])
          one true t = marks_pass role.Param t
          one false t = tt

    keeps_undefines : (hash : Place) (o : Option Token) → Keeps Any (undefines hash o)
    keeps_undefines hash None = keeps_ends Any (Ill cause.BadDefine hash)
    keeps_undefines hash (Some t) =
        keeps_then Any Any (tell (marks role.Directive t)) (λ d. change (with_macro t.text None)) (keeps_tell (marks role.Directive t) (marks_pass role.Directive t))
        (λ d x. record { at = λ s good. (tt, good_with t.text None s tt good, tt) })

    keeps_pragma : (path : Text) (ts : List Token) → Keeps Any (pragma path ts)
    keeps_pragma path ts =
        keeps_if Any (begins_with_once ts) (change (λ s. record s { once = with_text s.once path })) (tell (all_marks role.Opaque ts)) (record { at = λ s good. (tt, record { bodies = good.bodies }, tt) })
        (keeps_tell (all_marks role.Opaque ts) (all_marks_pass role.Opaque ts))

    -- files

    module _ (w : World) (u : Unit) (found : (path : Text) → FoundPasses test (w.find path)) where
      abbrev Enters : Opening → Type 0
      Enters enter = (path : Text) (f : File) → FilePasses test f → Keeps Any (enter path f)

      abbrev SearchPasses : Search → Type 0
      SearchPasses (Finds path n bytes) = FilePasses test (file_of n bytes)
      SearchPasses Misses = Prim.Unit {0}
      SearchPasses (Lacks paths) = Prim.Unit {0}

      search_by : (path : Text) (s : Search) (us : List Text) (f : Finding) → FoundPasses test f → SearchPasses s → SearchPasses (elim f [ Present n bytes ↦ Finds path n bytes | Absent ↦ s | Unknown ↦ Lacks us ])
      search_by path s us (Present n bytes) h k = h
      search_by path s us Absent h k = k
      search_by path s us Unknown h k = tt

      search_passes : (paths : List Text) → SearchPasses (search w.find paths)
      search_passes [] = tt
      search_passes (path ∷ paths) = search_by path (search w.find paths) (path ∷ unknown w.find paths) (w.find path) (found path) (search_passes paths)

      module _ (enter : Opening) (enters : Enters enter) where
        keeps_found : (site : Place) (s : Search) → SearchPasses s → Keeps Any (opens_found enter site s)
        keeps_found site (Finds path n bytes) h =
            keeps_then Any Any look (λ s. cond (has s.once path) ready (enter path (file_of n bytes))) keeps_look (λ s x. keeps_if Any (has s.once path) ready (enter path (file_of n bytes)) (keeps_only Any Done tt) (enters path (file_of n bytes) h))
        keeps_found site Misses h = keeps_ends Any (Ill cause.MissingFile site)
        keeps_found site (Lacks paths) h = keeps_ends Any (Needs paths)

        keeps_looks : (site : Place) (paths : List Text) (s : Search) → SearchPasses s → Keeps Any (looks w enter site paths s)
        keeps_looks site paths (Lacks us) h = keeps_ends Any (Needs us)
        keeps_looks site paths (Finds path n bytes) h =
            keeps_then Any Any (tell (Looked (looked_for w.find paths) ∷ [])) (λ d. opens_found enter site (Finds path n bytes)) (keeps_tell (Looked (looked_for w.find paths) ∷ []) (tt, tt)) (λ d x. keeps_found site (Finds path n bytes) h)
        keeps_looks site paths Misses h =
            keeps_then Any Any (tell (Looked (looked_for w.find paths) ∷ [])) (λ d. opens_found enter site Misses) (keeps_tell (Looked (looked_for w.find paths) ∷ []) (tt, tt)) (λ d x. keeps_found site Misses h)

        keeps_opens : (site : Place) (paths : List Text) → Keeps Any (opens w enter site paths)
        keeps_opens site paths = keeps_looks site paths (search w.find paths) (search_passes paths)

        keeps_expanded : (path : Text) (hash : Place) (ts : List Token) (o : Option Header) → Keeps Any (includes_expanded w u enter path hash ts o)
        keeps_expanded path hash ts None = keeps_ends Any (Ill cause.BadDirective hash)
        keeps_expanded path hash ts (Some h) = keeps_opens (site_of hash ts) (candidates u path h.angled h.name)

        keeps_includes : (path : Text) (hash : Place) (ts : List Token) (o : Option Header) → Keeps Any (includes w u enter path hash ts o)
        keeps_includes path hash ts (Some h) = keeps_opens (site_of hash ts) (candidates u path h.angled h.name)
        keeps_includes path hash ts None =
            keeps_then Any Any (in_directive hash (expands path ts)) (λ us. tell (all_marks role.Directive us) >>> λ d. includes_expanded w u enter path hash us (header_name us)) (keeps_in_directive Any hash (expands path ts) (keeps_expands path ts))
            (λ us x. keeps_then Any Any (tell (all_marks role.Directive us)) (λ d. includes_expanded w u enter path hash us (header_name us)) (keeps_tell (all_marks role.Directive us) (all_marks_pass role.Directive us)) (λ d y. keeps_expanded path hash us (header_name us)))

        keeps_plain : (path : Text) (hash : Place) (word : Text) (ts : List Token) → Keeps Any (plain_directive w u enter path hash word ts)
        keeps_plain path hash word ts =
            keeps_if Any (bytes_eq word (codes "include")) (tell (all_marks role.Directive ts) >>> λ d. includes w u enter path hash ts (header_name ts)) _
            (keeps_then Any Any (tell (all_marks role.Directive ts)) (λ d. includes w u enter path hash ts (header_name ts)) (keeps_tell (all_marks role.Directive ts) (all_marks_pass role.Directive ts)) (λ d x. keeps_includes path hash ts (header_name ts)))
            (keeps_if Any (bytes_eq word (codes "undef")) (undefines hash (undefined_name ts)) _ (keeps_undefines hash (undefined_name ts))
            (keeps_if Any (bytes_eq word (codes "pragma")) (pragma path ts) _ (keeps_pragma path ts)
            (keeps_if Any (bytes_eq word (codes "line") || bytes_eq word (codes "warning")) (tell (all_marks role.Directive ts)) _ (keeps_tell (all_marks role.Directive ts) (all_marks_pass role.Directive ts))
            (keeps_if Any (bytes_eq word (codes "ident")) ready _ (keeps_only Any Done tt)
            (keeps_if Any (bytes_eq word (codes "error")) (tell (all_marks role.Directive ts) >>> λ d. ends (Ill cause.ErrorDirective hash)) (ends (Ill cause.BadDirective hash))
            (keeps_then Any Any (tell (all_marks role.Directive ts)) (λ d. ends (Ill cause.ErrorDirective hash)) (keeps_tell (all_marks role.Directive ts) (all_marks_pass role.Directive ts)) (λ d x. keeps_ends Any (Ill cause.ErrorDirective hash)))
            (keeps_ends Any (Ill cause.BadDirective hash)))))))

        keeps_directive : (path : Text) (hash : Place) (word : Text) (ts : List Token) → (bytes_eq word (codes "define") ≡ true → AllPass test ts) → Keeps Any (directive w u enter path hash word ts)
        keeps_directive path hash word ts h = go (bytes_eq word (codes "define")) h where
          go : (b : Bool) → (b ≡ true → AllPass test ts) → Keeps Any (cond b (defines hash (definition ts)) (plain_directive w u enter path hash word ts))
          go true k = keeps_defines hash (definition ts) (definition_passes ts (k refl))
          go false k = keeps_plain path hash word ts

        abbrev RunPasses : Ahead → Type 0
        RunPasses a = AllPass test a.run

        run_passes : (b : Bool) (run line : List Token) → AllPass test run → AllPass test line → AllPass test (cond b (run ++ line) run)
        run_passes true run line h k = both_pass test run line h k
        run_passes false run line h k = h

        keeps_line : (path : Text) (cs : List OpenIf) (run line : List Token) (k : Line) → AllPass test run → LinePasses test line k → Keeps RunPasses (by_line w u enter path cs run line k)
        keeps_line path cs run line Plain h l = keeps_only RunPasses (ahead cs (cond (is_live cs) (run ++ line) run)) (run_passes (is_live cs) run line h l)
        keeps_line path cs run line (Conditional hash t word ts) h l =
            keeps_then Any RunPasses (inside path run (tell (cond (is_word_live cs word) (marks role.Directive t) []) >>> λ d. conditional path hash ts cs word)) (λ cs1. only (ahead cs1 run))
            (keeps_inside Any path run (tell (cond (is_word_live cs word) (marks role.Directive t) []) >>> λ d. conditional path hash ts cs word)
            (keeps_then Any Any (tell (cond (is_word_live cs word) (marks role.Directive t) [])) (λ d. conditional path hash ts cs word) (keeps_tell (cond (is_word_live cs word) (marks role.Directive t) []) (one (is_word_live cs word))) (λ d x. keeps_conditional path hash ts cs word)))
            (λ cs1 x. keeps_only RunPasses (ahead cs1 run) h) where
              one : (b : Bool) → EventsPass (cond b (marks role.Directive t) [])
              one true = marks_pass role.Directive t
              one false = tt
        keeps_line path cs run line (Directive hash t ts) h l =
            keeps_live RunPasses (is_live cs) (runs path run >>> λ d. tell (marks role.Directive t) >>> λ d. directive w u enter path hash t.text ts >>> λ d. only (ahead cs [])) (only (ahead cs run))
            (keeps_then Any RunPasses (runs path run) (λ d. tell (marks role.Directive t) >>> λ d. directive w u enter path hash t.text ts >>> λ d. only (ahead cs [])) (keeps_runs path run h)
            (λ d x. keeps_then Any RunPasses (tell (marks role.Directive t)) (λ d. directive w u enter path hash t.text ts >>> λ d. only (ahead cs [])) (keeps_tell (marks role.Directive t) (marks_pass role.Directive t))
            (λ d y. keeps_then Any RunPasses (directive w u enter path hash t.text ts) (λ d. only (ahead cs [])) (keeps_directive path hash t.text ts l) (λ d z. keeps_only RunPasses (ahead cs []) tt))))
            (keeps_only RunPasses (ahead cs run) h)
        keeps_line path cs run line Empty h l =
            keeps_live RunPasses (is_live cs) (runs path run >>> λ d. only (ahead cs [])) (only (ahead cs run)) (keeps_then Any RunPasses (runs path run) (λ d. only (ahead cs [])) (keeps_runs path run h) (λ d x. keeps_only RunPasses (ahead cs []) tt)) (keeps_only RunPasses (ahead cs run) h)
        keeps_line path cs run line (Wordless hash) h l =
            keeps_live RunPasses (is_live cs) (runs path run >>> λ d. ends (Ill cause.BadDirective hash)) (only (ahead cs run)) (keeps_then Any RunPasses (runs path run) (λ d. ends (Ill cause.BadDirective hash)) (keeps_runs path run h) (λ d x. keeps_ends RunPasses (Ill cause.BadDirective hash)))
            (keeps_only RunPasses (ahead cs run) h)

        keeps_at_end : (path : Text) (run : List Token) (fault : Option End) (cs : List OpenIf) → AllPass test run → Keeps Any (at_end path run fault cs)
        keeps_at_end path run (Some e) cs h = keeps_inside Any path run (ends e) (keeps_ends Any e)
        keeps_at_end path run None (c ∷ cs) h = keeps_inside Any path run (ends (Ill cause.OpenIf c.hash)) (keeps_ends Any (Ill cause.OpenIf c.hash))
        keeps_at_end path run None [] h = keeps_runs path run h

        keeps_rest : (path : Text) (cs : List OpenIf) (run taken line : List Token) → Keeps Any (takes_rest path cs run taken line)
        keeps_rest path cs run taken [] = keeps_only Any Done tt
        keeps_rest path cs run taken (t ∷ line) =
            keeps_then Any Any (inside path (run_with cs run taken) (reads 1 (Took ∷ []))) (λ d. takes_rest path cs run (taken ++ t ∷ []) line)
            (keeps_inside Any path (run_with cs run taken) (reads 1 (Took ∷ [])) (keeps_reads 1 (Took ∷ []) (tt, tt))) (λ d x. keeps_rest path cs run (taken ++ t ∷ []) line)

        keeps_takes : (path : Text) (cs : List OpenIf) (run line : List Token) → Keeps Any (takes_line path cs run line)
        keeps_takes path cs run line = keeps_rest path cs run [] line

        keeps_lines : (path : Text) (fault : Option End) (lines : List (List Token)) (cs : List OpenIf) (run : List Token) → AllByRecursion (λ line. LinePasses test line (line_of line)) lines → AllPass test run → Keeps Any (does_lines w u enter path fault lines cs run)
        keeps_lines path fault [] cs run h k = keeps_at_end path run fault cs k
        keeps_lines path fault (line ∷ lines) cs run h k =
            keeps_then Any Any (takes_line path cs run line) (λ d. by_line w u enter path cs run line (line_of line) >>> λ a. does_lines w u enter path fault lines a.open_ifs a.run) (keeps_takes path cs run line)
            (λ d x. keeps_then RunPasses Any (by_line w u enter path cs run line (line_of line)) (λ a. does_lines w u enter path fault lines a.open_ifs a.run) (keeps_line path cs run line (line_of line) k h.0)
            (λ a y. keeps_lines path fault lines a.open_ifs a.run h.1 y))

      keeps_file : (n : ℕ) → Enters (does_file w u n)
      keeps_file zero path f h = keeps_then Any Any (tell (Opened path ∷ [])) (λ d. ends (Over Includes)) (keeps_tell (Opened path ∷ []) (tt, tt)) (λ d x. keeps_ends Any (Over Includes))
      keeps_file (suc n) path f h =
          keeps_then Any Any (tell (Opened path ∷ [])) (λ d. reads 1 [] >>> λ d. does_lines w u (does_file w u n) path f.fault f.lines [] []) (keeps_tell (Opened path ∷ []) (tt, tt))
          (λ d x. keeps_then Any Any (reads 1 []) (λ d. does_lines w u (does_file w u n) path f.fault f.lines [] []) (keeps_reads 1 [] tt) (λ d y. keeps_lines (does_file w u n) (keeps_file n) path f.fault f.lines [] [] h tt))

      keeps_first : (path : Text) → Keeps Any (does_first_file w u path)
      keeps_first path = keeps_opens (does_file w u levels) (keeps_file levels) (place_in (w.number path) 0) (path ∷ [])

      keeps_unit : Keeps Any (does_unit w u)
      keeps_unit = keeps_then Any Any (does_first_file w u (words_path u)) (λ d. does_first_file w u u.main) (keeps_first (words_path u)) (λ d x. keeps_first u.main)

    finals_of : (events : List Event) → EventsPass events → AllPass test (final_tokens events)
    finals_of [] h = tt
    finals_of (Final t ∷ events) h = (h.0, finals_of events h.1)
    finals_of (Took ∷ events) h = finals_of events h.1
    finals_of (Opened path ∷ events) h = finals_of events h.1
    finals_of (Looked paths ∷ events) h = finals_of events h.1
    finals_of (Defined t m ∷ events) h = finals_of events h.1
    finals_of (Told e ∷ events) h = finals_of events h.1

    none_is_some : (name : Text) (m : MacroText) → at_first.macro name ≡ Some m → AllPass test m.body
    none_is_some name m e = subst BodyPasses e tt

    finals : (w : World) (u : Unit) → ((path : Text) → FoundPasses test (w.find path)) → (s : State) (events : List Event) → preprocessed w u ≡ Goes Done s events → AllPass test (final_tokens events)
    unfolding preprocessed
    finals w u found s events e = finals_of events (subst (ReplyKeeps {A = Nothing} Any) e ((keeps_unit w u found).at at_first (record { bodies = none_is_some }))).2

pub finals_pass_of : UsesKeepOrigins → FinalsPass
finals_pass_of uses_keep test w u s events made_passes found e = finals test made_passes uses_keep w u found s events e
