-- Conditional directives read no file: how much may be read stays the same.
use Rattle.std.proofs.Common.{◌≡◌, ℕ, Bool, true, false, cond, List, [], ◌∷◌, map, refl, subst, Result, Ok, Err}
use Rattle.std.specs.Prelude.{ℤ, not, flat_map}
use Rattle.cr_base.specs.declared.token.Place.{Place}
use Rattle.cr_base.specs.declared.cause.IllCause.TheVariants as cause
use Rattle.cr_base.specs.declared.cause.Role.TheVariants.{Controlling, Directive}
use Rattle.cr_cond.specs.declared.CondFault.{CondFault}
use Rattle.cr_macros.specs.Tokens.{Text, Token, Answer, Gave, Stopped, is_ident}
use Rattle.cr_phase4.specs.declared.conditionals.Word.{Word}
use Rattle.cr_phase4.specs.declared.conditionals.Word.TheVariants.{If, Ifdef, Ifndef, Elif, Else, Endif}
use Rattle.cr_phase4.specs.declared.conditionals.Group.{Group}
use Rattle.cr_phase4.specs.declared.conditionals.Group.TheVariants.{Taken, Before, Past}
use Rattle.cr_phase4.specs.declared.conditionals.OpenIf.{OpenIf}
use Rattle.cr_phase4.specs.Tasks.{Ill, marks, Event, State, Reply, Goes, Ends, Task, behind, go_on, ◌>>>◌, only, ends, tell, look, from_answer, at_place, in_directive}
use Rattle.cr_phase4.specs.Runs.{expands}
use Rattle.cr_phase4.specs.Conditionals.{is_macro, group_if, opened, group_of_else, list_value, answered, asking, pieces, is_true, condition, is_named, elif_in, elif, else_in, endif, begun, conditional, is_live}

-- whatever it comes to, this much may be read behind it
abbrev pub Keeps : {A : Type 0} → ℕ → Reply A → Type 0
Keeps n (Goes a s events) = s.reading ≡ n
Keeps n (Ends end events) = Prim.Unit {0}

-- a task leaves how much may be read
abbrev pub KeepsReading : {A : Type 0} → Task A → Type 0
KeepsReading m = (s : State) → Keeps s.reading (m s)

keeps_behind : {A : Type 0} (n : ℕ) (es : List Event) (r : Reply A) → Keeps n r → Keeps n (behind es r)
keeps_behind n es (Goes a s events) h = h
keeps_behind n es (Ends end events) h = h

keeps_on : {A B : Type 0} (n : ℕ) (r : Reply A) (f : A → Task B) → Keeps n r → ((a : A) → KeepsReading (f a)) → Keeps n (go_on r f)
keeps_on n (Goes a s events) f h k = keeps_behind n events (f a s) (by s.reading h (k a s)) where
  by : (m : ℕ) → m ≡ n → Keeps m (f a s) → Keeps n (f a s)
  by m e x = subst (λ i. Keeps i (f a s)) e x
keeps_on n (Ends end events) f h k = tt

keeps_then : {A B : Type 0} (m : Task A) (f : A → Task B) → KeepsReading m → ((a : A) → KeepsReading (f a)) → KeepsReading (m >>> f)
keeps_then m f h k s = keeps_on s.reading (m s) f (h s) k

keeps_answer : {A : Type 0} (s : State) (r : Answer A) → Keeps s.reading (from_answer s r)
keeps_answer s (Gave a left events) = refl
keeps_answer s (Stopped why events) = tt

keeps_at : {A : Type 0} (n : ℕ) (place : Place) (r : Reply A) → Keeps n r → Keeps n (at_place place r)
keeps_at n place (Goes a s events) h = h
keeps_at n place (Ends end events) h = tt

keeps_cond : {A : Type 0} (b : Bool) (m n : Task A) → KeepsReading m → KeepsReading n → KeepsReading (cond b m n)
keeps_cond true m n h k = h
keeps_cond false m n h k = k

keeps_is_true : (hash : Place) (r : Result ℤ CondFault) → KeepsReading (is_true hash r)
keeps_is_true hash (Ok n) s = refl
keeps_is_true hash (Err fault) s = tt

keeps_condition : (path : Text) (hash : Place) (ts : List Token) → KeepsReading (condition path hash ts)
keeps_condition path hash ts s =
    keeps_behind s.reading [] _
    (keeps_behind s.reading (flat_map asking (pieces 0 ts)) _
    (keeps_on s.reading (in_directive hash (expands path list) s) _
    (keeps_at s.reading hash (expands path list s) (keeps_answer s _))
    (λ us s1. keeps_behind s1.reading (flat_map (marks Controlling) us) _ (keeps_is_true hash (list_value us) s1)))) where
      list : List Token
      list = map (answered (is_macro s)) (pieces 0 ts)

keeps_named : (hash : Place) (ts : List Token) → KeepsReading (is_named hash ts)
keeps_named hash [] s = tt
keeps_named hash (t ∷ ts) s = keeps_cond (is_ident t.kind) (tell (marks Directive t) >>> λ d. look >>> λ s. only (is_macro s t)) (ends (Ill cause.BadDirective hash)) (λ s. refl) (λ s. tt) s

keeps_chosen : {A B : Type 0} (m : Task A) (f : A → B) → KeepsReading m → KeepsReading (m >>> λ a. only (f a))
keeps_chosen m f h = keeps_then m (λ a. only (f a)) h (λ a s. refl)

keeps_begun : (hash : Place) (cs : List OpenIf) (b : Bool) (test : Task Bool) → KeepsReading test → KeepsReading (begun hash cs b test)
keeps_begun hash cs true test h s = keeps_chosen test (λ b. opened hash (group_if b) cs) h s
keeps_begun hash cs false test h s = refl

keeps_elif_in : (path : Text) (hash : Place) (ts : List Token) (cs : List OpenIf) (c : OpenIf) (group : Group) → KeepsReading (elif_in path hash ts cs c group)
keeps_elif_in path hash ts cs c Before s = keeps_chosen (condition path hash ts) (λ b. record c { group = group_if b } ∷ cs) (keeps_condition path hash ts) s
keeps_elif_in path hash ts cs c Taken s = refl
keeps_elif_in path hash ts cs c Past s = refl

keeps_elif : (path : Text) (hash : Place) (ts : List Token) (cs : List OpenIf) → KeepsReading (elif path hash ts cs)
keeps_elif path hash ts [] s = tt
keeps_elif path hash ts (c ∷ cs) s = keeps_cond c.in_else (ends (Ill cause.StrayElse hash)) (elif_in path hash ts cs c c.group) (λ s. tt) (keeps_elif_in path hash ts cs c c.group) s

keeps_else : (hash : Place) (cs : List OpenIf) → KeepsReading (else_in hash cs)
keeps_else hash [] s = tt
keeps_else hash (c ∷ cs) s = keeps_cond c.in_else (ends (Ill cause.StrayElse hash)) (only (record c { group = group_of_else c.group; in_else = true } ∷ cs)) (λ s. tt) (λ s. refl) s

keeps_endif : (hash : Place) (cs : List OpenIf) → KeepsReading (endif hash cs)
keeps_endif hash [] s = tt
keeps_endif hash (c ∷ cs) s = refl

keeps_conditional : (path : Text) (hash : Place) (ts : List Token) (cs : List OpenIf) (word : Word) → KeepsReading (conditional path hash ts cs word)
keeps_conditional path hash ts cs If = keeps_begun hash cs (is_live cs) (condition path hash ts) (keeps_condition path hash ts)
keeps_conditional path hash ts cs Ifdef = keeps_begun hash cs (is_live cs) (is_named hash ts) (keeps_named hash ts)
keeps_conditional path hash ts cs Ifndef = keeps_begun hash cs (is_live cs) (is_named hash ts >>> λ b. only (not b)) (keeps_chosen (is_named hash ts) not (keeps_named hash ts))
keeps_conditional path hash ts cs Elif = keeps_elif path hash ts cs
keeps_conditional path hash ts cs Else = keeps_else hash cs
keeps_conditional path hash ts cs Endif = keeps_endif hash cs

-- also with what is told before it
pub keeps_word : (es : List Event) (path : Text) (hash : Place) (ts : List Token) (cs : List OpenIf) (word : Word) → KeepsReading (tell es >>> λ d. conditional path hash ts cs word)
keeps_word es path hash ts cs word s = keeps_behind s.reading es (conditional path hash ts cs word s) (keeps_conditional path hash ts cs word s)

-- what is left was kept, where events came before it
pub kept_behind : {A : Type 0} (n : ℕ) (r : Reply A) (es : List Event) (a : A) (s : State) → Keeps n r → r ≡ behind es (Goes a s []) → s.reading ≡ n
kept_behind n r es a s h e = subst (Keeps n) e h
