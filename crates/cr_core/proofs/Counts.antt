-- The numbers of assignments and of first answers, and the length of a list of events.
use Rattle.std.proofs.Common.{◌≡◌, ◌≢◌, ◌<◌, ◌≤◌, ℕ, zero, suc, ◌+◌, ◌*◌, length, Bool, true, false, not, ◌==◌, List, [], ◌∷◌, refl, ap, ◌∙◌, subst, arith}
use Rattle.std.specs.Prelude.{cond, set, get_or, replicate, count_by}
use Rattle.std.specs.List.{list_all}
use Rattle.std.proofs.lemmas.Bool.Decides.{nat_tests}
use Rattle.std.proofs.lemmas.List.Sums.{sum_by-cons}
use Rattle.cr_core.specs.declared.progress.Progress.{Progress}
use Rattle.cr_core.specs.declared.Reply.TheVariants.{First, Repeat}
use Rattle.cr_core.specs.declared.Happened.{Happened}
use Rattle.cr_core.specs.declared.Happened.TheVariants.{Assigned, Finished, Answered, Lost}
use Rattle.cr_core.specs.Assignment.{State, untouched, unit_at, changed, answered, when_assigned, when_answered, when_lost, is_legal, is_reply, after}
use Rattle.cr_core.specs.Sound.{is_sound, holder_count}
use Rattle.cr_core.specs.Law.{has_ended, ended_after, ended_of, is_in_time, all_in_time, is_assignment_of, is_first_answer_of}
use Rattle.cr_core.proofs.Soundness.{and_true, sound_is, joined_count, left_count}
use Rattle.cr_core.proofs.Units.{held_at, get_same, get_other, length_set}
use Rattle.cr_core.proofs.Runs.{Run, stop, goes, assigned_legal, answered_legal, lost_legal}

abbrev pub one_if : Bool → ℕ
one_if b = cond b 1 0

-- a number of a unit, which a change raises by k at u alone

raised_by : (g : Progress → ℕ) (k u v : ℕ) (f : Progress → Progress) (s : State) → u < length s.units → g (f (unit_at s u)) ≡ k + g (unit_at s u)
    → (b : Bool) → (u == v) ≡ b → g (unit_at (changed s u f) v) ≡ cond b k 0 + g (unit_at s v)
raised_by g k u v f s below e true is =
    let same : u ≡ v = grind (arith, nat_tests, is) in
    let P : ℕ → Type 0 = λ z. g (unit_at (changed s u f) z) ≡ k + g (unit_at s z) in
    subst P same (ap g (get_same s.units u (f (unit_at s u)) untouched below) ∙ e)
raised_by g k u v f s below e false is =
    let apart : u ≢ v = grind (arith, nat_tests, is) in
    let h = ap g (get_other s.units u v (f (unit_at s u)) untouched apart) in omega (arith, h)

raised : (g : Progress → ℕ) (k u v : ℕ) (f : Progress → Progress) (s : State) → u < length s.units → g (f (unit_at s u)) ≡ k + g (unit_at s u)
    → g (unit_at (changed s u f) v) ≡ cond (u == v) k 0 + g (unit_at s v)
raised g k u v f s below e = raised_by g k u v f s below e (u == v) refl

none_if : (b : Bool) (n : ℕ) → cond b 0 0 + n ≡ n
none_if true n = omega arith
none_if false n = omega arith

-- assignments

abbrev pub assigned_at : State → ℕ → ℕ
assigned_at s v = (unit_at s v).assigned

assigned_after : (s : State) (e : Happened) (v : ℕ) → is_legal s e ≡ true → assigned_at (after s e) v ≡ one_if (is_assignment_of v e) + assigned_at s v
assigned_after s (Assigned w u n) v h =
    raised (λ x. x.assigned) 1 u v (when_assigned w) s (assigned_legal s w u n h).within (omega arith)
assigned_after s (Finished w) v h = omega arith
assigned_after s (Answered w u r) v h =
    let held = held_at s w u (answered_legal s w u r h).0 in
    let e = raised (λ x. x.assigned) 0 u v (when_answered w) s held.0 (omega arith) in
    omega (arith, e, none_if (u == v) (assigned_at s v))
assigned_after s (Lost w u why) v h =
    let held = held_at s w u (lost_legal s w u why h).0 in
    let e = raised (λ x. x.assigned) 0 u v (when_lost w why) s held.0 (omega arith) in
    omega (arith, e, none_if (u == v) (assigned_at s v))

count_cons : (p : Happened → Bool) (e : Happened) (es : List Happened) → count_by p (e ∷ es) ≡ one_if (p e) + count_by p es
count_cons p e es = sum_by-cons (λ x. cond (p x) 1 0) e es

pub assigned_run : {s t : State} {es : List Happened} (v : ℕ) → Run s es t → assigned_at t v ≡ count_by (is_assignment_of v) es + assigned_at s v
assigned_run v stop = omega arith
assigned_run {s} {t} v (goes {e} {es} legal r) =
    let later = assigned_run v r in
    let now = assigned_after s e v legal in
    omega (arith, later, now, count_cons (is_assignment_of v) e es)

-- first answers

abbrev pub answered_at : State → ℕ → ℕ
answered_at s v = one_if (answered s v)

first_is : (b : Bool) → is_reply First b ≡ true → 1 ≡ 1 + one_if b
first_is true h = cc
first_is false h = refl

repeat_is : (b : Bool) → is_reply Repeat b ≡ true → 1 ≡ 0 + one_if b
repeat_is true h = refl
repeat_is false h = cc

pub answered_after : (s : State) (e : Happened) (v : ℕ) → is_legal s e ≡ true → answered_at (after s e) v ≡ one_if (is_first_answer_of v e) + answered_at s v
answered_after s (Assigned w u n) v h =
    let e = raised (λ x. one_if x.is_answered) 0 u v (when_assigned w) s (assigned_legal s w u n h).within (omega arith) in
    omega (arith, e, none_if (u == v) (answered_at s v))
answered_after s (Finished w) v h = omega arith
answered_after s (Answered w u First) v h =
    let l = answered_legal s w u First h in
    raised (λ x. one_if x.is_answered) 1 u v (when_answered w) s (held_at s w u l.0).0 (first_is (answered s u) l.1)
answered_after s (Answered w u Repeat) v h =
    let l = answered_legal s w u Repeat h in
    let e = raised (λ x. one_if x.is_answered) 0 u v (when_answered w) s (held_at s w u l.0).0 (repeat_is (answered s u) l.1) in
    omega (arith, e, none_if (u == v) (answered_at s v))
answered_after s (Lost w u why) v h =
    let held = held_at s w u (lost_legal s w u why h).0 in
    let e = raised (λ x. one_if x.is_answered) 0 u v (when_lost w why) s held.0 (omega arith) in
    omega (arith, e, none_if (u == v) (answered_at s v))

pub answered_run : {s t : State} {es : List Happened} (v : ℕ) → Run s es t → answered_at t v ≡ count_by (is_first_answer_of v) es + answered_at s v
answered_run v stop = omega arith
answered_run {s} {t} v (goes {e} {es} legal r) =
    let later = answered_run v r in
    let now = answered_after s e v legal in
    omega (arith, later, now, count_cons (is_first_answer_of v) e es)

-- sums over all units

abbrev pub total : (Progress → ℕ) → List Progress → ℕ
total g [] = 0
total g (x ∷ xs) = g x + total g xs

total_set : (g : Progress → ℕ) (u : ℕ) (y : Progress) (xs : List Progress) → u < length xs → total g (set xs u y) + g (get_or xs u untouched) ≡ total g xs + g y
total_set g u y [] below = absurd (omega arith)
total_set g zero y (x ∷ xs) below = omega arith
total_set g (suc u) y (x ∷ xs) below = let h = total_set g u y xs (omega arith) in omega (arith, h)

abbrev pub ended_count : List Bool → ℕ
ended_count [] = 0
ended_count (b ∷ bs) = one_if b + ended_count bs

ended_set : (w : ℕ) (bs : List Bool) → not (has_ended bs w) ≡ true → ended_count (set bs w true) ≡ 1 + ended_count bs
ended_set w [] h = cc
ended_set zero (true ∷ bs) h = cc
ended_set zero (false ∷ bs) h = omega arith
ended_set (suc w) (b ∷ bs) h = let e = ended_set w bs h in omega (arith, e)

abbrev pub all_assigned : State → ℕ
all_assigned s = total (λ x. x.assigned) s.units

abbrev pub all_held : State → ℕ
all_held s = total (λ x. holder_count x.holders) s.units

-- each event is an assignment, the end of one, or a Finished
count_after : (s : State) (e : Happened) (bs : List Bool) → is_legal s e ≡ true → is_in_time bs e ≡ true
    → 1 + (2 * all_assigned s + all_held (after s e) + ended_count bs) ≡ 2 * all_assigned (after s e) + all_held s + ended_count (ended_after bs e)
count_after s (Assigned w u n) bs h fair =
    let c = assigned_legal s w u n h in
    let more = total_set (λ x. x.assigned) u (when_assigned w (unit_at s u)) s.units c.within in
    let held = total_set (λ x. holder_count x.holders) u (when_assigned w (unit_at s u)) s.units c.within in
    let one = (joined_count w (unit_at s u).holders c.free).1 in
    omega (arith, more, held, one)
count_after s (Finished w) bs h fair = let e = ended_set w bs fair in omega (arith, e)
count_after s (Answered w u r) bs h fair =
    let at = held_at s w u (answered_legal s w u r h).0 in
    let same = total_set (λ x. x.assigned) u (when_answered w (unit_at s u)) s.units at.0 in
    let held = total_set (λ x. holder_count x.holders) u (when_answered w (unit_at s u)) s.units at.0 in
    let one = left_count w (unit_at s u).holders at.1 in
    omega (arith, same, held, one)
count_after s (Lost w u why) bs h fair =
    let at = held_at s w u (lost_legal s w u why h).0 in
    let same = total_set (λ x. x.assigned) u (when_lost w why (unit_at s u)) s.units at.0 in
    let held = total_set (λ x. holder_count x.holders) u (when_lost w why (unit_at s u)) s.units at.0 in
    let one = left_count w (unit_at s u).holders at.1 in
    omega (arith, same, held, one)

pub count_run : {s t : State} {es : List Happened} (bs : List Bool) → Run s es t → all_in_time bs es ≡ true
    → length es + (2 * all_assigned s + all_held t + ended_count bs) ≡ 2 * all_assigned t + all_held s + ended_count (ended_of bs es)
count_run bs stop fair = omega arith
count_run {s} {t} bs (goes {e} {es} legal r) fair =
    let f = and_true (is_in_time bs e) _ fair in
    let now = count_after s e bs legal f.0 in
    let later = count_run (ended_after bs e) r f.1 in
    omega (arith, now, later)

-- the bounds

length_after : (bs : List Bool) (e : Happened) → length (ended_after bs e) ≡ length bs
length_after bs (Assigned w u n) = refl
length_after bs (Finished w) = length_set bs w true
length_after bs (Answered w u r) = refl
length_after bs (Lost w u why) = refl

pub length_ended : (bs : List Bool) (es : List Happened) → length (ended_of bs es) ≡ length bs
length_ended bs [] = refl
length_ended bs (e ∷ es) = length_ended (ended_after bs e) es ∙ length_after bs e

one_at_most : (b : Bool) → one_if b ≤ 1
one_at_most true = omega arith
one_at_most false = omega arith

pub ended_bound : (bs : List Bool) → ended_count bs ≤ length bs
ended_bound [] = omega arith
ended_bound (b ∷ bs) = let h = ended_bound bs in omega (arith, h, one_at_most b)

pub assigned_bound : (r : ℕ) (xs : List Progress) → list_all (is_sound r) xs ≡ true → total (λ x. x.assigned) xs ≤ length xs * (r + 2)
assigned_bound r [] ok = omega arith
assigned_bound r (x ∷ xs) ok =
    let p = and_true (is_sound r x) _ ok in
    let h = assigned_bound r xs p.1 in
    let b = (sound_is r x p.0).bounded in
    grind (arith, h, b)

pub falses_count : (n : ℕ) → ended_count (replicate n false) ≡ 0
falses_count zero = refl
falses_count (suc n) = let h = falses_count n in omega (arith, h)

pub total_start : (g : Progress → ℕ) (n : ℕ) → g untouched ≡ 0 → total g (replicate n untouched) ≡ 0
total_start g zero e = refl
total_start g (suc n) e = let h = total_start g n e in omega (arith, h, e)

pub assigned_most : (r v : ℕ) (xs : List Progress) → list_all (is_sound r) xs ≡ true → (get_or xs v untouched).assigned ≤ r + 2
assigned_most r v [] ok = omega arith
assigned_most r zero (x ∷ xs) ok = (sound_is r x (and_true (is_sound r x) _ ok).0).bounded
assigned_most r (suc v) (x ∷ xs) ok = assigned_most r v xs (and_true (is_sound r x) _ ok).1
