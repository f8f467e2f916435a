-- A run goes from one token of its result to the next.
use Rattle.std.proofs.Common.{◌≡◌, ℕ, zero, suc, ◌+◌, ◌<◌, ◌≤◌, Bool, true, false, cond, List, [], ◌∷◌, ◌++◌, length, map, refl, sym, ap, ◌∙◌, arith, length-append, append-nil, Option}
use Rattle.std.proofs.lemmas.List.{map-append}
use Rattle.cr_macros.specs.Tokens.{Token, Event as Telling, Answer, Gave, Stopped, after, then_do}
use Rattle.cr_macros.specs.Expansion.{Table, Use, use_of}
use Rattle.cr_macros.specs.Uses.{put_for, is_given, left_behind}
use Rattle.cr_expand.specs.Ahead.{Next, next_on, next_within, next_token}
use Rattle.cr_expand.specs.Machines.{EndsWithRule}
use Rattle.cr_phase4.specs.Tasks.{Told, State, Ends, behind, go_on, ◌>>>◌, gives, from_answer, end_of, told_by_uses}
use Rattle.cr_phase4.specs.Runs.{run_on, run_in}
use Rattle.cr_preproc.specs.Leading.{given_on, run_left}
use Rattle.cr_preproc.proofs.Deep.{follows_the_rules, behind_within, use_within}
use Rattle.cr_preproc.proofs.Frames.{behind_behind}
use Rattle.cr_preproc.proofs.Leaving.{Pays, put_pays}
use Rattle.cr_preproc.proofs.ToldByUses.{told_uses, TellsRule, put_tells_rule}

-- what has happened comes first
pub run_after : (table : Table) (s : State) (told : List Telling) (r : Answer (Option Next)) → EndsWithRule told → run_left table s (after told r) ≡ behind (map Told told) (run_left table s r)
run_after table s told (Gave o left more) h =
    ap (λ es. behind es (given_on table o (record s { work = left }))) (map-append Told told more) ∙ sym (behind_behind (map Told told) (map Told more) (given_on table o (record s { work = left })))
run_after table s told (Stopped why more) h = ap (Ends (end_of why)) (ap (map Told) (told_uses told more h) ∙ map-append Told told (told_by_uses more))

-- the work is that of the answer
pub run_work : (table : Table) (s : State) (work : ℕ) (r : Answer (Option Next)) → run_left table (record s { work = work }) r ≡ run_left table s r
run_work table s work (Gave o left more) = refl
run_work table s work (Stopped why more) = refl

next_on_is : (table : Table) (go : List Token → ℕ → Answer (Option Next)) (given : Bool) (ts rest : List Token) (s : State) (told : List Telling) → EndsWithRule told
    → (given ≡ false → run_left table s (go (ts ++ rest) s.work) ≡ run_in table (ts ++ rest) s)
    → run_left table s (after told (next_on go given ts rest s.work)) ≡ behind (map Told told) (run_on (run_in table) given ts rest s)
next_on_is table go true ts rest s told r h = ap (λ es. behind (map Told es) ((gives ts >>> λ d. run_in table rest) s)) (append-nil told)
next_on_is table go false ts rest s told r h = run_after table s told (go (ts ++ rest) s.work) r ∙ ap (behind (map Told told)) (h refl)

run_next : (n : ℕ) (table : Table) (ts : List Token) (s : State) → s.work + length ts < n → run_left table s (next_within n table ts s.work) ≡ run_in table ts s
run_next zero table ts s h = absurd (omega arith)
run_next (suc n) table [] s h = sym (follows_the_rules table [] s)
run_next (suc n) table (t ∷ rest) s h = by (put_for table t u s.work) (put_pays table t u s.work) (put_tells_rule table t u s.work) (λ ts1 s1 k. run_next n table ts1 s1 k) ∙ sym (follows_the_rules table (t ∷ rest) s) where
  u : Use
  u = use_of table t rest

  by : (p : Answer (List Token)) → Pays s.work (is_given u) p → TellsRule p → ((ts1 : List Token) (s1 : State) → s1.work + length ts1 < n → run_left table s1 (next_within n table ts1 s1.work) ≡ run_in table ts1 s1)
      → run_left table s (then_do p (λ ts. next_on (next_within n table) (is_given u) ts (left_behind rest u)))
      ≡ go_on (from_answer s p) (λ ts. run_on (run_in table) (is_given u) ts (left_behind rest u))
  by (Stopped why stopped) k r ih = refl
  by (Gave ts left told) k r ih =
      let b = behind_within rest u (use_within table t rest) in
      sym (run_work table s left (after told (next_on (next_within n table) (is_given u) ts (left_behind rest u) left)))
      ∙ next_on_is table (next_within n table) (is_given u) ts (left_behind rest u) (record s { work = left }) told r
      (λ e. ih (ts ++ left_behind rest u) (record s { work = left }) (smaller (is_given u) e k b)) where
        smaller : (given : Bool) → given ≡ false → cond given left (left + length ts + 1) ≤ s.work → length (left_behind rest u) ≤ length rest → left + length (ts ++ left_behind rest u) < n
        smaller true e k b = absurd (let no : ⊥ = cc in no)
        smaller false e k b = omega (arith, length-append ts (left_behind rest u))

-- That is what a run is.
pub run_is : (table : Table) (ts : List Token) (s : State) → run_left table s (next_token table ts s.work) ≡ run_in table ts s
unfolding next_token
run_is table ts s = run_next (suc (s.work + length ts)) table ts s (omega arith)
