-- A list of events as steps, and what each step says.
use Rattle.std.proofs.Common.{◌≡◌, ℕ, length, Bool, true, false, ◌==◌, Option, Some, None, List, [], ◌∷◌, refl, ap, ◌∙◌, subst, arith}
use Rattle.std.specs.Prelude.{if◌then◌else◌, option_and_then}
use Rattle.std.specs.List.{list_all}
use Rattle.std.proofs.lemmas.Bool.Decides.{nat_tests}
use Rattle.cr_core.specs.declared.Why.{Why}
use Rattle.cr_core.specs.declared.Reply.{Reply}
use Rattle.cr_core.specs.declared.Happened.{Happened}
use Rattle.cr_core.specs.declared.Happened.TheVariants.{Assigned, Finished, Answered, Lost}
use Rattle.cr_core.specs.Assignment.{State, unit_at, when_assigned, when_answered, when_lost, holding, answered, choice, grant_of, is_legal, holds_none, holds_this, is_work, is_reply, may_lose, after, replay}
use Rattle.cr_core.specs.Sound.{is_sound}
use Rattle.cr_core.proofs.Soundness.{and_true, sound_assigned, sound_answered, sound_lost}
use Rattle.cr_core.proofs.Units.{Chosen, chosen, held_at, length_set, all_get, all_set}
use Rattle.cr_core.specs.Assignment.{untouched}

pub data Run : State → List Happened → State → Type 0 where
  stop : {s : State} → Run s [] s
  goes : {s t : State} {e : Happened} {es : List Happened} → is_legal s e ≡ true → Run (after s e) es t → Run s (e ∷ es) t

run_by : (s t : State) (e : Happened) (es : List Happened) → (replay (after s e) es ≡ Some t → Run (after s e) es t)
    → (b : Bool) → is_legal s e ≡ b → option_and_then (λ z. replay z es) (if b then Some (after s e) else None) ≡ Some t → Run s (e ∷ es) t
run_by s t e es later true is h = goes is (later h)
run_by s t e es later false is h = cc

pub run : (s t : State) (es : List Happened) → replay s es ≡ Some t → Run s es t
run s t [] h =
    let same : s ≡ t = cc in
    let P : State → Type 0 = λ z. Run s [] z in subst P same stop
run s t (e ∷ es) h = run_by s t e es (run (after s e) t es) (is_legal s e) refl h

-- what a legal event says

work_is : (s : State) (w u n : ℕ) (c : Option ℕ) → choice s w ≡ c → is_work u n (grant_of s c) ≡ true → choice s w ≡ Some u
work_is s w u n None e h = cc
work_is s w u n (Some v) e h =
    let p = and_true (v == u) _ h in
    let same : v ≡ u = grind (arith, nat_tests, p.0) in
    e ∙ ap (λ (z : ℕ). Some z) same

pub assigned_legal : (s : State) (w u n : ℕ) → is_legal s (Assigned w u n) ≡ true → Chosen s w u
assigned_legal s w u n h =
    let p = and_true (holds_none (holding s w)) _ h in
    chosen s w u (work_is s w u n (choice s w) refl p.1)

none_is : (o : Option ℕ) → holds_none o ≡ true → o ≡ None
none_is None h = refl
none_is (Some v) h = cc

pub finished_legal : (s : State) (w : ℕ) → is_legal s (Finished w) ≡ true → holding s w ≡ None
finished_legal s w h = none_is (holding s w) (and_true (holds_none (holding s w)) _ h).0

some_is : (u : ℕ) (o : Option ℕ) → holds_this u o ≡ true → o ≡ Some u
some_is u None h = cc
some_is u (Some v) h =
    let same : v ≡ u = grind (arith, nat_tests, h) in ap (λ (z : ℕ). Some z) same

pub answered_legal : (s : State) (w u : ℕ) (r : Reply) → is_legal s (Answered w u r) ≡ true → (holding s w ≡ Some u) × (is_reply r (answered s u) ≡ true)
answered_legal s w u r h =
    let p = and_true (holds_this u (holding s w)) _ h in (some_is u (holding s w) p.0, p.1)

pub lost_legal : (s : State) (w u : ℕ) (why : Why) → is_legal s (Lost w u why) ≡ true → (holding s w ≡ Some u) × (may_lose why (answered s u) ≡ true)
lost_legal s w u why h =
    let p = and_true (holds_this u (holding s w)) _ h in (some_is u (holding s w) p.0, p.1)

-- each unit stays sound

abbrev pub IsSound : State → Type 0
IsSound s = list_all (is_sound s.retries) s.units ≡ true

sound_after : (s : State) (e : Happened) → is_legal s e ≡ true → IsSound s → IsSound (after s e)
sound_after s (Assigned w u n) h ok =
    let c = assigned_legal s w u n h in
    all_set (is_sound s.retries) u _ s.units ok (sound_assigned s.retries w (unit_at s u) c.is_free_to_take c.free (all_get (is_sound s.retries) u s.units untouched ok c.within))
sound_after s (Finished w) h ok = ok
sound_after s (Answered w u r) h ok =
    let held = held_at s w u (answered_legal s w u r h).0 in
    all_set (is_sound s.retries) u _ s.units ok (sound_answered s.retries w (unit_at s u) held.1 (all_get (is_sound s.retries) u s.units untouched ok held.0))
sound_after s (Lost w u why) h ok =
    let l = lost_legal s w u why h in
    let held = held_at s w u l.0 in
    all_set (is_sound s.retries) u _ s.units ok (sound_lost s.retries w why (unit_at s u) held.1 l.1 (all_get (is_sound s.retries) u s.units untouched ok held.0))

pub sound_run : {s t : State} {es : List Happened} → Run s es t → IsSound s → IsSound t
sound_run stop ok = ok
sound_run {s} {t} (goes {e} legal r) ok = sound_run r (sound_after s e legal ok)

-- the retries and the number of units stay

retries_after : (s : State) (e : Happened) → (after s e).retries ≡ s.retries
retries_after s (Assigned w u n) = refl
retries_after s (Finished w) = refl
retries_after s (Answered w u r) = refl
retries_after s (Lost w u why) = refl

pub retries_run : {s t : State} {es : List Happened} → Run s es t → t.retries ≡ s.retries
retries_run stop = refl
retries_run {s} (goes {e} legal r) = retries_run r ∙ retries_after s e

units_after : (s : State) (e : Happened) → length (after s e).units ≡ length s.units
units_after s (Assigned w u n) = length_set s.units u (when_assigned w (unit_at s u))
units_after s (Finished w) = refl
units_after s (Answered w u r) = length_set s.units u (when_answered w (unit_at s u))
units_after s (Lost w u why) = length_set s.units u (when_lost w why (unit_at s u))

pub units_run : {s t : State} {es : List Happened} → Run s es t → length t.units ≡ length s.units
units_run stop = refl
units_run {s} (goes {e} legal r) = units_run r ∙ units_after s e
