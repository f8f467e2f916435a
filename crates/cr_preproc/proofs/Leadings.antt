-- How far the code has led a unit, one task behind another.
use Rattle.std.proofs.Common.{◌≡◌, ℕ, ◌+◌, List, [], ◌++◌, refl, ap, sym, ◌∙◌, append-nil, append_assoc}
use Rattle.cr_base.specs.declared.token.Place.{Place}
use Rattle.cr_macros.specs.Tokens.{Text, Token}
use Rattle.cr_preproc.specs.declared.progress.Progress.{Progress}
use Rattle.cr_phase4.specs.Tasks.{Event, State, Reply, Goes, Ends, Task, Done, behind, go_on, ◌>>>◌, tell, at_place, events_of}
use Rattle.cr_phase4.specs.PreprocessingRun.{steps}
use Rattle.cr_phase4.specs.Runs.{runs, earlier, after_run}
use Rattle.cr_preproc.specs.Progressing.{state_of, IsProgress, Did}
use Rattle.cr_preproc.specs.Leading.{Leads}
use Rattle.cr_preproc.proofs.Frames.{behind_behind, behind_then}
use Rattle.cr_preproc.proofs.Progresses.{steps_behind, told_none, told_then}

pub behind_none : {A : Type 0} (r : Reply A) → behind [] r ≡ r
behind_none (Goes a s es) = refl
behind_none (Ends e es) = refl

pub leads_same : {A : Type 0} (p : Progress) (r : Reply A) → Leads 0 p p r r
leads_same p r = record { events = []; size = refl; goes = sym (behind_none r); told = told_none p }

pub leads_then : {A : Type 0} (j k : ℕ) (p q u : Progress) (r s t : Reply A) → IsProgress p → Leads j p q r s → Leads k q u s t → Leads (j + k) p u r t
leads_then j k p q u r s t good h l = record {
  events = h.events ++ l.events;
  size = steps_behind h.events l.events ∙ ap (λ n. n + steps l.events) h.size ∙ ap (λ n. j + n) l.size;
  goes = h.goes ∙ ap (behind h.events) l.goes ∙ behind_behind h.events l.events t;
  told = told_then p q u h.events l.events good h.told l.told;
}

pub leads_from : {A : Type 0} (n : ℕ) (p q : Progress) (r s t : Reply A) → r ≡ s → Leads n p q s t → Leads n p q r t
leads_from n p q r s t e h = record { events = h.events; size = h.size; goes = e ∙ h.goes; told = h.told }

pub leads_to : {A : Type 0} (n : ℕ) (p q : Progress) (r s t : Reply A) → s ≡ t → Leads n p q r s → Leads n p q r t
leads_to n p q r s t e h = record { events = h.events; size = h.size; goes = h.goes ∙ ap (behind h.events) e; told = h.told }

-- what was done leads to what comes behind it
pub did_leads : {A B : Type 0} (n : ℕ) (p q : Progress) (m : Task A) (f : A → Task B) (a : A) → Did n p q m a → Leads n p q ((m >>> f) (state_of p)) (f a (state_of q))
did_leads n p q m f a h = record { events = h.events; size = h.size; goes = ap (λ r. go_on r f) h.goes; told = h.told }

pub did_done : {A : Type 0} (n : ℕ) (p q : Progress) (m : Task A) (a : A) → Did n p q m a → Leads n p q (m (state_of p)) (Goes a (state_of q) [])
did_done n p q m a h = record { events = h.events; size = h.size; goes = h.goes ∙ ap (Goes a (state_of q)) (sym (append-nil h.events)); told = h.told }

-- the same, with more behind it
pub leads_go : {A B : Type 0} (n : ℕ) (p q : Progress) (r s : Reply A) (f : A → Task B) → Leads n p q r s → Leads n p q (go_on r f) (go_on s f)
leads_go n p q r s f h = record { events = h.events; size = h.size; goes = ap (λ x. go_on x f) h.goes ∙ behind_then h.events s f; told = h.told }

pub place_behind : {A : Type 0} (place : Place) (es : List Event) (r : Reply A) → at_place place (behind es r) ≡ behind es (at_place place r)
place_behind place es (Goes a s more) = refl
place_behind place es (Ends e more) = refl

-- the same, in a directive
pub leads_at : {A : Type 0} (n : ℕ) (p q : Progress) (place : Place) (r s : Reply A) → Leads n p q r s → Leads n p q (at_place place r) (at_place place s)
leads_at n p q place r s h = record { events = h.events; size = h.size; goes = ap (at_place place) h.goes ∙ place_behind place h.events s; told = h.told }

pub run_behind : {A : Type 0} (path : Text) (run : List Token) (s : State) (es : List Event) (r : Reply A) → after_run path run s (behind es r) ≡ behind es (after_run path run s r)
run_behind path run s es (Goes a s1 more) = refl
run_behind path run s es (Ends e more) = ap (Ends (earlier e (runs path run s))) (append_assoc es more (events_of (runs path run s)))

-- the same, inside a run
pub leads_inside : {A : Type 0} (n : ℕ) (p q : Progress) (path : Text) (run : List Token) (state : State) (r s : Reply A) → Leads n p q r s → Leads n p q (after_run path run state r) (after_run path run state s)
leads_inside n p q path run state r s h = record { events = h.events; size = h.size; goes = ap (after_run path run state) h.goes ∙ run_behind path run state h.events s; told = h.told }

pub same_on : {A B : Type 0} (r : Reply A) (f g : A → Task B) → ((a : A) (s : State) → f a s ≡ g a s) → go_on r f ≡ go_on r g
same_on (Goes a s es) f g h = ap (behind es) (h a s)
same_on (Ends e es) f g h = refl

state_in : {A : Type 0} → State → Reply A → State
state_in d (Goes a s es) = s
state_in d (Ends e es) = d

-- where events were told, the state is as it was
pub tell_state : (n : ℕ) (p q : Progress) (es : List Event) → Did n p q (tell es) Done → state_of q ≡ state_of p
unfolding state_in
tell_state n p q es h = sym (ap (state_in (state_of p)) h.goes)
