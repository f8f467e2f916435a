-- A run is what its rules say of it.
use Rattle.std.proofs.Common.{◌≡◌, ℕ, zero, suc, ◌+◌, ◌-◌, ◌<◌, ◌≤◌, Bool, true, false, cond, List, [], ◌∷◌, ◌++◌, length, map, refl, ap, Some, None, Option, arith, length-append}
use Rattle.std.specs.Prelude.{nat_lt, codes, not, ◌||◌}
use Rattle.cr_base.specs.declared.token.PpKind.{PpKind}
use Rattle.cr_macros.specs.Tokens.{Text, Token, MacroText, Answer, Gave, Stopped, is_ident, is_mark, has}
use Rattle.cr_macros.specs.Substitution.{Args}
use Rattle.cr_macros.specs.Expansion.{Table, Use, Keep, Predefined, Object, Call, Wrong, predefined, found_after, closed_by, to_close, arguments, counted_call, closed_call, call_of, use_by_params, use_of_macro, use_of_name, use_of}
use Rattle.cr_macros.specs.Uses.{put_for, is_given, left_behind}
use Rattle.cr_phase4.specs.Tasks.{Tokens, Told, Final, Over, State, Goes, Ends, Task, Nothing, Done, behind, go_on, from_answer}
use Rattle.cr_phase4.specs.Runs.{run_on, run_by, runs_within, run_in, FollowsTheRules}
use Rattle.cr_preproc.proofs.Leaving.{Pays, put_pays}

-- what comes behind a use is no longer than what came behind its head

abbrev FoundWithin : ℕ → Option (List Token × Token × List Token) → Type 0
FoundWithin n None = Unit {0}
FoundWithin n (Some p) = length p.2 ≤ n

after_within : (n : ℕ) (t : Token) (o : Option (List Token × Token × List Token)) → FoundWithin n o → FoundWithin (suc n) (found_after t o)
after_within n t None h = tt
after_within n t (Some p) h = omega arith

found_if : (n : ℕ) (b : Bool) (o p : Option (List Token × Token × List Token)) → FoundWithin n o → FoundWithin n p → FoundWithin n (cond b o p)
found_if n true o p h k = h
found_if n false o p h k = k

closed_within : (t : Token) (ts : List Token) (more : ℕ → Option (List Token × Token × List Token)) (depth : ℕ) → ((d : ℕ) → FoundWithin (length ts) (more d)) → FoundWithin (suc (length ts)) (closed_by t ts more depth)
closed_within t ts more zero h = omega arith
closed_within t ts more (suc depth) h = after_within (length ts) t (more depth) (h depth)

close_within : (ts : List Token) (depth : ℕ) → FoundWithin (length ts) (to_close depth ts)
close_within [] depth = tt
close_within (t ∷ ts) depth =
    found_if (suc (length ts)) (is_mark (codes ")") t) (closed_by t ts (λ d. to_close d ts) depth) (found_after t (to_close (cond (is_mark (codes "(") t) (suc depth) depth) ts)) (closed_within t ts (λ d. to_close d ts) depth (close_within ts))
    (after_within (length ts) t (to_close (cond (is_mark (codes "(") t) (suc depth) depth) ts) (close_within ts (cond (is_mark (codes "(") t) (suc depth) depth)))

abbrev Within : ℕ → Use → Type 0
Within n Keep = Unit {0}
Within n (Predefined kind text) = Unit {0}
Within n (Object m) = Unit {0}
Within n (Call m args close rest) = length rest ≤ n
Within n (Wrong cause) = Unit {0}

within_if : (n : ℕ) (b : Bool) (x y : Use) → Within n x → Within n y → Within n (cond b x y)
within_if n true x y h k = h
within_if n false x y h k = k

counted_within : (n : ℕ) (t : Token) (m : MacroText) (close : Token) (rest : List Token) (o : Option Args) → length rest ≤ n → Within n (counted_call t m close rest o)
counted_within n t m close rest None h = tt
counted_within n t m close rest (Some args) h = h

found_within : (n : ℕ) (t : Token) (m : MacroText) (names : List Text) (o : Option (List Token × Token × List Token)) → FoundWithin n o → Within n (closed_call t m names o)
found_within n t m names None h = tt
found_within n t m names (Some p) h = counted_within n t m p.1 p.2 (arguments names m.variadic p.0) h

found_more : (n : ℕ) (o : Option (List Token × Token × List Token)) → FoundWithin n o → FoundWithin (suc n) o
found_more n None h = tt
found_more n (Some p) h = omega arith

call_within : (t : Token) (m : MacroText) (names : List Text) (rest : List Token) → Within (length rest) (call_of t m names rest)
call_within t m names [] = tt
call_within t m names (u ∷ rest) = within_if (suc (length rest)) (is_mark (codes "(") u) (closed_call t m names (to_close 0 rest)) Keep (found_within (suc (length rest)) t m names (to_close 0 rest) (found_more (length rest) (to_close 0 rest) (close_within rest 0))) tt

params_within : (t : Token) (m : MacroText) (rest : List Token) (o : Option (List Text)) → Within (length rest) (use_by_params t m rest o)
params_within t m rest None = tt
params_within t m rest (Some names) = call_within t m names rest

macro_within : (t : Token) (rest : List Token) (o : Option MacroText) → Within (length rest) (use_of_macro t rest o)
macro_within t rest None = tt
macro_within t rest (Some m) = params_within t m rest m.params

name_within : (table : Table) (t : Token) (rest : List Token) (p : Option (PpKind × Text)) → Within (length rest) (use_of_name table t rest p)
name_within table t rest (Some p) = tt
name_within table t rest None = macro_within t rest (table.macro t.text)

pub use_within : (table : Table) (t : Token) (rest : List Token) → Within (length rest) (use_of table t rest)
use_within table t rest =
    within_if (length rest) (not (is_ident t.kind) || has t.hide t.text) Keep (use_of_name table t rest (predefined table.file t.line t.text)) tt (name_within table t rest (predefined table.file t.line t.text))

pub behind_within : (rest : List Token) (u : Use) → Within (length rest) u → length (left_behind rest u) ≤ length rest
behind_within rest Keep h = omega arith
behind_within rest (Predefined kind text) h = omega arith
behind_within rest (Object m) h = omega arith
behind_within rest (Call m args close after) h = h
behind_within rest (Wrong cause) h = omega arith

-- runs that agree where less is left do the same
module _ (f g : List Token → Task Nothing) where
  on_agree : (given : Bool) (ts rest : List Token) (s : State) (n : ℕ) → cond given s.work (s.work + length ts + 1) + length rest < n + cond given 0 1
      → ((ts1 : List Token) (s1 : State) → s1.work + length ts1 < n → f ts1 s1 ≡ g ts1 s1) → run_on f given ts rest s ≡ run_on g given ts rest s
  on_agree true ts rest s n h k = go (nat_lt s.room (length ts)) where
    go : (b : Bool) → go_on (cond b (Ends (Over Tokens) []) (Goes Done (record s { room = s.room - length ts }) (map Final ts))) (λ d. f rest) ≡ go_on (cond b (Ends (Over Tokens) []) (Goes Done (record s { room = s.room - length ts }) (map Final ts))) (λ d. g rest)
    go true = refl
    go false = ap (behind (map Final ts)) (k rest (record s { room = s.room - length ts }) (omega arith))
  on_agree false ts rest s n h k = k (ts ++ rest) s (omega (arith, length-append ts rest))

  by_agree : (table : Table) (t : Token) (rest : List Token) (s : State) → ((ts1 : List Token) (s1 : State) → s1.work + length ts1 < s.work + suc (length rest) → f ts1 s1 ≡ g ts1 s1)
      → run_by f table t rest (use_of table t rest) s ≡ run_by g table t rest (use_of table t rest) s
  by_agree table t rest s k = go (put_for table t u s.work) (put_pays table t u s.work) where
    u : Use
    u = use_of table t rest

    small : (given : Bool) (left n m : ℕ) → cond given left (left + n + 1) ≤ s.work → m ≤ length rest → cond given left (left + n + 1) + m < s.work + suc (length rest) + cond given 0 1
    small true left n m h l = omega arith
    small false left n m h l = omega arith

    go : (p : Answer (List Token)) → Pays s.work (is_given u) p → go_on (from_answer s p) (λ ts. run_on f (is_given u) ts (left_behind rest u)) ≡ go_on (from_answer s p) (λ ts. run_on g (is_given u) ts (left_behind rest u))
    go (Stopped why stopped) h = refl
    go (Gave ts left tellings) h =
        ap (behind (map Told tellings)) (on_agree (is_given u) ts (left_behind rest u) (record s { work = left }) (s.work + suc (length rest)) (small (is_given u) left (length ts) (length (left_behind rest u)) h (behind_within rest u (use_within table t rest))) k)

deep_enough : (n m : ℕ) (table : Table) (ts : List Token) (s : State) → s.work + length ts < n → s.work + length ts < m → runs_within n table ts s ≡ runs_within m table ts s
deep_enough zero m table ts s h k = absurd (omega arith)
deep_enough (suc n) zero table ts s h k = absurd (omega arith)
deep_enough (suc n) (suc m) table [] s h k = refl
deep_enough (suc n) (suc m) table (t ∷ rest) s h k =
    by_agree (runs_within n table) (runs_within m table) table t rest s (λ ts1 s1 x. deep_enough n m table ts1 s1 (omega arith) (omega arith))

pub follows_the_rules : FollowsTheRules
follows_the_rules table [] s = refl
follows_the_rules table (t ∷ rest) s =
    by_agree (runs_within (s.work + length (t ∷ rest)) table) (run_in table) table t rest s (λ ts1 s1 x. deep_enough (s.work + length (t ∷ rest)) (suc (s1.work + length ts1)) table ts1 s1 (omega arith) (omega arith))
