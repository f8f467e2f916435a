-- Tasks that follow other tasks: they do the same, seen through a renaming.
use Rattle.std.proofs.Common.{◌≡◌, ℕ, zero, suc, ◌+◌, ◌-◌, Bool, true, false, cond, List, [], ◌∷◌, ◌++◌, length, map, refl, ap, sym, ◌∙◌, subst, Some, None}
use Rattle.std.proofs.lemmas.List.{map-append, length-map}
use Rattle.std.specs.Prelude.{nat_lt}
use Rattle.std.specs.List.{AllByRecursion}
use Rattle.cr_base.specs.Names.{is_reserved}
use Rattle.cr_base.specs.declared.token.Place.{Place}
use Rattle.cr_macros.specs.Tokens.{Text, Token, MacroText, Event as Telling, Answer, Gave, Stopped}
use Rattle.cr_macros.specs.Expansion.{Table, Use, use_of, expand}
use Rattle.cr_macros.specs.Uses.{put_for, is_given, left_behind}
use Rattle.cr_expand_law.specs.Renaming.{Renaming, renamed, all_renamed, renamed_table, renamed_event as renamed_telling, IsNoParameter, IsFree, IsHarmless, KeepsExpansion}
use Rattle.cr_expand_law.specs.Uses.{KeepsUses}
use Rattle.cr_phase4.specs.Tasks.{Tokens, Macros, Reading, End, Over, Event, Told, Final, State, Reply, Goes, Ends, Task, Nothing, Done, behind, go_on, ◌>>>◌, only, ends, tell, look, reads, gives, from_answer, at_place, in_directive}
use Rattle.cr_phase4.specs.Runs.{table_in, expands, run_on, run_rules, runs_within, runs, after_run, inside}
use Rattle.cr_preproc_law.specs.Renaming.{renamed_state, renamed_event}
use Rattle.cr_preproc_law.proofs.Tokens.{AreFine, renamed_events, fine_left, fine_right}

-- no macro of the state has the new name, or captures it
pub record Good (r : Renaming) (s : State) : Type 0 where
  pub no_macro : s.macro r.new ≡ None
  pub no_parameter : (name : Text) (m : MacroText) → s.macro name ≡ Some m → AllByRecursion (IsNoParameter r m) m.body

-- where the old task goes on and nothing does harm, the new task goes on to the same, seen through v
abbrev pub Follows : {A : Type 0} → Renaming → (A → A) → Reply A → Reply A → Type 0
Follows r v (Goes a s events) q = AreFine r events → (q ≡ Goes (v a) (renamed_state r s) (renamed_events r events)) × Good r s
Follows r v (Ends end events) q = Unit {0}

pub record Sim {A : Type 0} (r : Renaming) (v : A → A) (m n : Task A) : Type 0 where
  pub at : (s : State) → Good r s → Follows r v (m s) (n (renamed_state r s))

follows_then : {A B : Type 0} (r : Renaming) (v : A → A) (w : B → B) (p q : Reply A) (f g : A → Task B) → Follows r v p q → ((a : A) → Sim r w (f a) (g (v a))) → Follows r w (go_on p f) (go_on q g)
follows_then {B = B} r v w (Goes a s es) q f g h k = go (f a s) refl where
  go : (p : Reply B) → f a s ≡ p → Follows r w (behind es p) (go_on q g)
  go (Ends x more) e = tt
  go (Goes b s2 more) e = λ fine.
      let first = h (fine_left r es more fine) in
      let then = subst (λ x. Follows r w x (g (v a) (renamed_state r s))) e ((k a).at s first.1) (fine_right r es more fine) in
      (ap (λ x. go_on x g) first.0 ∙ ap (behind (renamed_events r es)) then.0 ∙ ap (Goes (w b) (renamed_state r s2)) (sym (map-append (renamed_event r) es more)), then.1)
follows_then r v w (Ends x es) q f g h k = tt

pub sim_then : {A B : Type 0} (r : Renaming) (v : A → A) (w : B → B) (m n : Task A) (f g : A → Task B) → Sim r v m n → ((a : A) → Sim r w (f a) (g (v a))) → Sim r w (m >>> f) (n >>> g)
sim_then r v w m n f g h k = record { at = λ s good. follows_then r v w (m s) (n (renamed_state r s)) f g (h.at s good) k }

pub sim_only : {A : Type 0} (r : Renaming) (v : A → A) (a : A) → Sim r v (only a) (only (v a))
sim_only r v a = record { at = λ s good fine. (refl, good) }

pub sim_ends : {A : Type 0} (r : Renaming) (v : A → A) (end : End) (n : Task A) → Sim r v (ends end) n
sim_ends r v end n = record { at = λ s good. tt }

pub sim_to : {A : Type 0} (r : Renaming) (v : A → A) (m n p : Task A) → n ≡ p → Sim r v m p → Sim r v m n
sim_to r v m n p e h = subst (Sim r v m) (sym e) h

pub sim_look : (r : Renaming) → Sim r (renamed_state r) look look
sim_look r = record { at = λ s good fine. (refl, good) }

abbrev pub same : Nothing → Nothing
same d = d

-- what is told does no harm, and what comes behind may count on that
pub sim_told : {B : Type 0} (r : Renaming) (w : B → B) (es es1 : List Event) (f g : Nothing → Task B) → (AreFine r es → es1 ≡ renamed_events r es) → (AreFine r es → Sim r w (f Done) (g Done)) → Sim r w (tell es >>> f) (tell es1 >>> g)
sim_told {B} r w es es1 f g e k = record { at = λ s good. go s good (f Done s) refl } where
  go : (s : State) → Good r s → (p : Reply B) → f Done s ≡ p → Follows r w (behind es p) (behind es1 (g Done (renamed_state r s)))
  go s good (Ends x more) e1 = tt
  go s good (Goes b s2 more) e1 = λ fine.
      let then = subst (λ x. Follows r w x (g Done (renamed_state r s))) e1 ((k (fine_left r es more fine)).at s good) (fine_right r es more fine) in
      (ap (λ x. behind x (g Done (renamed_state r s))) (e (fine_left r es more fine)) ∙ ap (behind (renamed_events r es)) then.0 ∙ ap (Goes (w b) (renamed_state r s2)) (sym (map-append (renamed_event r) es more)), then.1)

pub sim_tell : (r : Renaming) (es es1 : List Event) → es1 ≡ renamed_events r es → Sim r same (tell es) (tell es1)
sim_tell r es es1 e = record { at = λ s good fine. (ap (Goes Done (renamed_state r s)) e, good) }

pub sim_if : {A : Type 0} (r : Renaming) (v : A → A) (b : Bool) (m n m1 n1 : Task A) → Sim r v m m1 → Sim r v n n1 → Sim r v (cond b m n) (cond b m1 n1)
sim_if r v true m n m1 n1 h k = h
sim_if r v false m n m1 n1 h k = k

-- only the end of a run shows where a task inside it ends the unit
pub sim_inside : {A : Type 0} (r : Renaming) (v : A → A) (path : Text) (run run1 : List Token) (m n : Task A) → Sim r v m n → Sim r v (inside path run m) (inside path run1 n)
sim_inside {A} r v path run run1 m n h = record { at = λ s good. go s good (m s) refl } where
  go : (s : State) → Good r s → (p : Reply A) → m s ≡ p → Follows r v (after_run path run s p) (after_run path run1 (renamed_state r s) (n (renamed_state r s)))
  go s good (Ends x es) e1 = tt
  go s good (Goes a s2 es) e1 = λ fine.
      let p = subst (λ x. Follows r v x (n (renamed_state r s))) e1 (h.at s good) fine in
      (ap (after_run path run1 (renamed_state r s)) p.0, p.1)

pub sim_in_directive : {A : Type 0} (r : Renaming) (v : A → A) (hash hash1 : Place) (m n : Task A) → Sim r v m n → Sim r v (in_directive hash m) (in_directive hash1 n)
sim_in_directive {A} r v hash hash1 m n h = record { at = λ s good. go s good (m s) refl } where
  go : (s : State) → Good r s → (p : Reply A) → m s ≡ p → Follows r v (at_place hash p) (at_place hash1 (n (renamed_state r s)))
  go s good (Ends x es) e1 = tt
  go s good (Goes a s2 es) e1 = λ fine.
      let p = subst (λ x. Follows r v x (n (renamed_state r s))) e1 (h.at s good) fine in
      (ap (at_place hash1) p.0, p.1)

abbrev reads_over : Reply Nothing
reads_over = Ends (Over Reading) []

abbrev room_over : Reply Nothing
room_over = Ends (Over Tokens) []

still_good : (r : Renaming) (s : State) (work reading room : ℕ) → Good r s → Good r (record s { work = work; reading = reading; room = room })
still_good r s work reading room good = record { no_macro = good.no_macro; no_parameter = good.no_parameter }

pub sim_reads : (r : Renaming) (k : ℕ) (es es1 : List Event) → es1 ≡ renamed_events r es → Sim r same (reads k es) (reads k es1)
sim_reads r k es es1 e = record { at = λ s good. go s good (nat_lt s.reading k) } where
  go : (s : State) → Good r s → (b : Bool) → Follows r same (cond b reads_over (Goes Done (record s { reading = s.reading - k }) es)) (cond b reads_over (Goes Done (record (renamed_state r s) { reading = s.reading - k }) es1))
  go s good true = tt
  go s good false = λ fine. (ap (Goes Done (renamed_state r (record s { reading = s.reading - k }))) e, still_good r s s.work (s.reading - k) s.room good)

finals_renamed : (r : Renaming) (ts : List Token) → map Final (all_renamed r ts) ≡ renamed_events r (map Final ts)
finals_renamed r [] = refl
finals_renamed r (t ∷ ts) = ap (λ x. Final (renamed r t) ∷ x) (finals_renamed r ts)

sim_gives : (r : Renaming) (ts : List Token) → Sim r same (gives ts) (gives (all_renamed r ts))
sim_gives r ts = record {
  at = λ s good.
      subst (λ n. Follows r same (gives ts s) (cond (nat_lt s.room n) room_over (Goes Done (record (renamed_state r s) { room = s.room - n }) (map Final (all_renamed r ts))))) (sym (length-map ts (renamed r)))
      (go s good (nat_lt s.room (length ts)));
} where
  go : (s : State) → Good r s → (b : Bool)
      → Follows r same (cond b room_over (Goes Done (record s { room = s.room - length ts }) (map Final ts))) (cond b room_over (Goes Done (record (renamed_state r s) { room = s.room - length ts }) (map Final (all_renamed r ts))))
  go s good true = tt
  go s good false = λ fine. (ap (Goes Done (renamed_state r (record s { room = s.room - length ts }))) (finals_renamed r ts), still_good r s s.work s.reading (s.room - length ts) good)

told_renamed : (r : Renaming) (tellings : List Telling) → map Told (map (renamed_telling r) tellings) ≡ renamed_events r (map Told tellings)
told_renamed r [] = refl
told_renamed r (x ∷ xs) = ap (λ y. Told (renamed_telling r x) ∷ y) (told_renamed r xs)

fine_told : (r : Renaming) (tellings : List Telling) → AreFine r (map Told tellings) → AllByRecursion (IsHarmless r) tellings
fine_told r [] h = tt
fine_told r (x ∷ xs) h = (h.0, fine_told r xs h.1)

module _ (r : Renaming) (not_reserved : is_reserved r.new ≡ false) (keeps_expansion : KeepsExpansion) (keeps_uses : KeepsUses) where
  free : (path : Text) (s : State) → Good r s → IsFree r (table_in path s)
  free path s good = record { not_reserved = not_reserved; no_macro = good.no_macro; no_parameter = good.no_parameter }

  pub sim_expands : (path : Text) (ts : List Token) → Sim r (all_renamed r) (expands path ts) (expands path (all_renamed r ts))
  sim_expands path ts = record { at = λ s good. go s good (expand (table_in path s) ts s.work) refl } where
    go : (s : State) → Good r s → (p : Answer (List Token)) → expand (table_in path s) ts s.work ≡ p
        → Follows r (all_renamed r) (from_answer s p) (from_answer (renamed_state r s) (expand (table_in path (renamed_state r s)) (all_renamed r ts) s.work))
    go s good (Stopped why stopped) e = tt
    go s good (Gave out left tellings) e = λ fine. (
      ap (from_answer (renamed_state r s)) (keeps_expansion r (table_in path s) ts out s.work left tellings (free path s good) e (fine_told r tellings fine))
          ∙ ap (Goes (all_renamed r out) (renamed_state r (record s { work = left }))) (told_renamed r tellings),
      still_good r s left s.reading s.room good,
    )

  -- a use of a rule at the head of a run
  module _ (table : Table) (is_free : IsFree r table) (go go1 : List Token → Task Nothing) (sg : (ts : List Token) → Sim r same (go ts) (go1 (all_renamed r ts))) where
    abbrev table1 : Table
    table1 = renamed_table r table

    sim_run_on : (given : Bool) (ts rest : List Token) → Sim r same (run_on go given ts rest) (run_on go1 given (all_renamed r ts) (all_renamed r rest))
    sim_run_on true ts rest = sim_then r same same (gives ts) (gives (all_renamed r ts)) (λ d. go rest) (λ d. go1 (all_renamed r rest)) (sim_gives r ts) (λ d. sg rest)
    sim_run_on false ts rest =
        sim_to r same (go (ts ++ rest)) (go1 (all_renamed r ts ++ all_renamed r rest)) (go1 (all_renamed r (ts ++ rest))) (ap go1 (sym (map-append (renamed r) ts rest))) (sg (ts ++ rest))

    -- what follows the tokens that are put in
    abbrev with_put : State → (List Token → Task Nothing) → Bool → List Token → Answer (List Token) → Reply Nothing
    with_put s more given rest p = go_on (from_answer s p) (λ ts. run_on more given ts rest)

    follows_put : (s : State) (given : Bool) (ts rest : List Token) (left : ℕ) (tellings : List Telling) → Good r s
        → Follows r same (with_put s go given rest (Gave ts left tellings)) (with_put (renamed_state r s) go1 given (all_renamed r rest) (Gave (all_renamed r ts) left (map (renamed_telling r) tellings)))
    follows_put s given ts rest left tellings good =
        follows_then r (all_renamed r) same (Goes ts (record s { work = left }) (map Told tellings)) (Goes (all_renamed r ts) (record (renamed_state r s) { work = left }) (map Told (map (renamed_telling r) tellings)))
        (λ xs. run_on go given xs rest) (λ xs. run_on go1 given xs (all_renamed r rest))
        (λ fine. (ap (Goes (all_renamed r ts) (renamed_state r (record s { work = left }))) (told_renamed r tellings), still_good r s left s.reading s.room good))
        (λ xs. sim_run_on given xs rest)

    -- no harm is done by what is told first
    only_harmless : (s : State) (tellings : List Telling) (p : Reply Nothing) (q : Reply Nothing) → (AllByRecursion (IsHarmless r) tellings → Follows r same (behind (map Told tellings) p) q) → Follows r same (behind (map Told tellings) p) q
    only_harmless s tellings (Ends x es) q h = tt
    only_harmless s tellings (Goes d s2 es) q h = λ fine. h (fine_told r tellings (fine_left r (map Told tellings) es fine)) fine

    sim_rules : (ts : List Token) → Sim r same (run_rules go table ts) (run_rules go1 table1 (all_renamed r ts))
    sim_rules [] = sim_only r same Done
    sim_rules (t ∷ rest) = record { at = λ s good. by_put s good (put_for table t u s.work) refl } where
      u : Use
      u = use_of table t rest

      u1 : Use
      u1 = use_of table1 (renamed r t) (all_renamed r rest)

      by_put : (s : State) → Good r s → (p : Answer (List Token)) → put_for table t u s.work ≡ p
          → Follows r same (with_put s go (is_given u) (left_behind rest u) p) (with_put (renamed_state r s) go1 (is_given u1) (left_behind (all_renamed r rest) u1) (put_for table1 (renamed r t) u1 s.work))
      by_put s good (Stopped why stopped) e = tt
      by_put s good (Gave ts left tellings) e =
          only_harmless s tellings (run_on go (is_given u) ts (left_behind rest u) (record s { work = left })) (with_put (renamed_state r s) go1 (is_given u1) (left_behind (all_renamed r rest) u1) (put_for table1 (renamed r t) u1 s.work))
          (λ harmless.
          let kept = keeps_uses r table t rest ts s.work left tellings is_free e harmless in
          subst (λ p. Follows r same (with_put s go (is_given u) (left_behind rest u) (Gave ts left tellings)) (with_put (renamed_state r s) go1 (is_given u1) (left_behind (all_renamed r rest) u1) p)) (sym kept.0)
          (subst (λ b. Follows r same (with_put s go (is_given u) (left_behind rest u) (Gave ts left tellings)) (with_put (renamed_state r s) go1 b (left_behind (all_renamed r rest) u1) (Gave (all_renamed r ts) left (map (renamed_telling r) tellings)))) (sym kept.1)
          (subst (λ x. Follows r same (with_put s go (is_given u) (left_behind rest u) (Gave ts left tellings)) (with_put (renamed_state r s) go1 (is_given u) x (Gave (all_renamed r ts) left (map (renamed_telling r) tellings)))) (sym kept.2)
          (follows_put s (is_given u) ts (left_behind rest u) left tellings good))))

  sim_within : (table : Table) → IsFree r table → (n : ℕ) (ts : List Token) → Sim r same (runs_within n table ts) (runs_within n (renamed_table r table) (all_renamed r ts))
  sim_within table is_free zero ts = sim_ends r same (Over Macros) (ends (Over Macros))
  sim_within table is_free (suc n) ts = sim_rules table is_free (runs_within n table) (runs_within n (renamed_table r table)) (sim_within table is_free n) ts

  pub sim_runs : (path : Text) (ts : List Token) → Sim r same (runs path ts) (runs path (all_renamed r ts))
  sim_runs path ts = record {
    at = λ s good.
        subst (λ n. Follows r same (runs path ts s) (runs_within (suc (s.work + n)) (table_in path (renamed_state r s)) (all_renamed r ts) (renamed_state r s))) (sym (length-map ts (renamed r)))
        ((sim_within (table_in path s) (free path s good) (suc (s.work + length ts)) ts).at s good);
  }
