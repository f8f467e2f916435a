-- A worker that has had its Finished holds nothing.
use Rattle.std.proofs.Common.{◌≡◌, ◌≢◌, ◌<◌, ◌≤◌, ℕ, zero, suc, ◌+◌, length, Bool, true, false, not, ◌||◌, ◌==◌, Option, Some, None, List, [], ◌∷◌, refl, sym, ap, ◌∙◌, subst, arith}
use Rattle.std.specs.Prelude.{cond, if◌then◌else◌, set, get_or, replicate, nat_lt}
use Rattle.std.specs.List.{position, position_or_len, prefix_len}
use Rattle.std.proofs.lemmas.Bool.Decides.{nat_tests}
use Rattle.std.proofs.lemmas.List.Quantifiers.{position-Some}
use Rattle.cr_core.specs.declared.progress.Holders.{Holders}
use Rattle.cr_core.specs.declared.progress.Holders.TheVariants.{Nobody, One, Two}
use Rattle.cr_core.specs.declared.progress.Progress.{Progress}
use Rattle.cr_core.specs.declared.Happened.{Happened}
use Rattle.cr_core.specs.declared.Happened.TheVariants.{Assigned, Finished, Answered, Lost}
use Rattle.cr_core.specs.Assignment.{State, untouched, start, unit_at, changed, is_held_by, joined_by, left_by, when_assigned, when_answered, when_lost, holding, is_legal, after}
use Rattle.cr_core.specs.Law.{has_ended, ended_after, ended_of, is_in_time, all_in_time}
use Rattle.cr_core.proofs.Soundness.{and_true}
use Rattle.cr_core.proofs.Units.{held_at, get_same, get_other, get_past, get_replicate}
use Rattle.cr_core.proofs.Runs.{Run, stop, goes, assigned_legal, finished_legal, answered_legal, lost_legal}

-- the worker holds never unit
abbrev IsIdle : State → ℕ → Type 0
IsIdle s w = (k : ℕ) → is_held_by w (unit_at s k).holders ≡ false

-- a search that finds nothing

none_by : (p : Progress → Bool) (xs : List Progress) → ((k : ℕ) → p (get_or xs k untouched) ≡ false) → (o : Option ℕ) → position p xs ≡ o → o ≡ None
none_by p xs never None e = refl
none_by p xs never (Some i) e =
    let found = (position-Some p xs i untouched e).1 in
    let not_found = never i in cc

holds_none_of : (s : State) (w : ℕ) → IsIdle s w → holding s w ≡ None
holds_none_of s w idle = none_by (λ (x : Progress). is_held_by w x.holders) s.units idle (holding s w) refl

not_false : (b : Bool) → not b ≡ true → b ≡ false
not_false true e = cc
not_false false e = refl

passed_by : (p : Progress → Bool) (x : Progress) (xs : List Progress) (k : ℕ) → ((j : ℕ) → j < prefix_len p xs → p (get_or xs j untouched) ≡ true)
    → (b : Bool) → p x ≡ b → k < cond b (1 + prefix_len p xs) 0 → p (get_or (x ∷ xs) k untouched) ≡ true
passed_by p x xs k later false is below = absurd (omega arith)
passed_by p x xs zero later true is below = is
passed_by p x xs (suc k) later true is below = later k (omega arith)

passed : (p : Progress → Bool) (xs : List Progress) (k : ℕ) → k < prefix_len p xs → p (get_or xs k untouched) ≡ true
passed p [] k below = absurd (omega arith)
passed p (x ∷ xs) k below = passed_by p x xs k (passed p xs) (p x) refl below

over_by : (b : Bool) (n : ℕ) → cond b (Some n) None ≡ None → b ≡ false
over_by true n e = cc
over_by false n e = refl

idle_by : (s : State) (w k : ℕ) → nat_lt (position_or_len (λ (x : Progress). is_held_by w x.holders) s.units) (length s.units) ≡ false
    → (b : Bool) → nat_lt k (length s.units) ≡ b → is_held_by w (unit_at s k).holders ≡ false
idle_by s w k over true is =
    let below : k < prefix_len (λ (x : Progress). not (is_held_by w x.holders)) s.units = grind (arith, nat_tests, over, is) in
    not_false _ (passed (λ (x : Progress). not (is_held_by w x.holders)) s.units k below)
idle_by s w k over false is =
    let past : length s.units ≤ k = grind (arith, nat_tests, is) in
    ap (λ (x : Progress). is_held_by w x.holders) (get_past s.units k untouched past)

idle_of : (s : State) (w : ℕ) → holding s w ≡ None → IsIdle s w
idle_of s w e k =
    let over = over_by (nat_lt (position_or_len (λ (x : Progress). is_held_by w x.holders) s.units) (length s.units)) (position_or_len (λ (x : Progress). is_held_by w x.holders) s.units) e in
    idle_by s w k over (nat_lt k (length s.units)) refl

-- what a change of one unit leaves

changed_by : (s : State) (w u k : ℕ) (f : Progress → Progress) → u < length s.units → is_held_by w (f (unit_at s u)).holders ≡ false → IsIdle s w
    → (b : Bool) → (u == k) ≡ b → is_held_by w (unit_at (changed s u f) k).holders ≡ false
changed_by s w u k f below one idle true is =
    let same : u ≡ k = grind (arith, nat_tests, is) in
    let P : ℕ → Type 0 = λ z. is_held_by w (unit_at (changed s u f) z).holders ≡ false in
    subst P same (ap (λ (x : Progress). is_held_by w x.holders) (get_same s.units u (f (unit_at s u)) untouched below) ∙ one)
changed_by s w u k f below one idle false is =
    let apart : u ≢ k = grind (arith, nat_tests, is) in
    ap (λ (x : Progress). is_held_by w x.holders) (get_other s.units u k (f (unit_at s u)) untouched apart) ∙ idle k

idle_changed : (s : State) (w u : ℕ) (f : Progress → Progress) → u < length s.units → is_held_by w (f (unit_at s u)).holders ≡ false → IsIdle s w → IsIdle (changed s u f) w
idle_changed s w u f below one idle k = changed_by s w u k f below one idle (u == k) refl

unequal : (v w : ℕ) → v ≢ w → (v == w) ≡ false
unequal v w apart = grind (arith, nat_tests, apart)

joined_not : (v w : ℕ) (h : Holders) → v ≢ w → is_held_by w h ≡ false → is_held_by w (joined_by v h) ≡ false
joined_not v w Nobody apart e = unequal v w apart
joined_not v w (One a) apart e = ap (λ b. b || (v == w)) e ∙ unequal v w apart
joined_not v w (Two a b) apart e = e

or_false : (a b : Bool) → (a || b) ≡ false → (a ≡ false) × (b ≡ false)
or_false true b e = cc
or_false false b e = (refl, e)

left_one : (w a : ℕ) (t : Bool) → is_held_by w (One a) ≡ false → is_held_by w (if t then Nobody else One a) ≡ false
left_one w a true e = refl
left_one w a false e = e

left_two : (w a b : ℕ) (t u : Bool) → is_held_by w (Two a b) ≡ false → is_held_by w (if t then One b else if u then One a else Two a b) ≡ false
left_two w a b true u e = (or_false (a == w) (b == w) e).1
left_two w a b false true e = (or_false (a == w) (b == w) e).0
left_two w a b false false e = e

left_not : (v w : ℕ) (h : Holders) → is_held_by w h ≡ false → is_held_by w (left_by v h) ≡ false
left_not v w Nobody e = refl
left_not v w (One a) e = left_one w a (a == v) e
left_not v w (Two a b) e = left_two w a b (a == v) (b == v) e

-- who has ended holds nothing

abbrev EndedIdle : List Bool → State → Type 0
EndedIdle bs s = (w : ℕ) → has_ended bs w ≡ true → IsIdle s w

others : (bs : List Bool) (v w : ℕ) → not (has_ended bs v) ≡ true → has_ended bs w ≡ true → v ≢ w
others bs v w never is_so same = let e = ap (has_ended bs) same in let n = not_false (has_ended bs v) never in cc

ended_by : (bs : List Bool) (s : State) (v w : ℕ) → IsIdle s v → EndedIdle bs s → has_ended (set bs v true) w ≡ true → (b : Bool) → (v == w) ≡ b → IsIdle s w
ended_by bs s v w idle ended is_so true is =
    let same : v ≡ w = grind (arith, nat_tests, is) in
    let P : ℕ → Type 0 = IsIdle s in subst P same idle
ended_by bs s v w idle ended is_so false is =
    let apart : v ≢ w = grind (arith, nat_tests, is) in
    ended w (sym (get_other bs v w true true apart) ∙ is_so)

ended_idle_after : (bs : List Bool) (s : State) (e : Happened) → is_legal s e ≡ true → is_in_time bs e ≡ true → EndedIdle bs s → EndedIdle (ended_after bs e) (after s e)
ended_idle_after bs s (Assigned v u n) h fair ended w is_so =
    let idle = ended w is_so in
    idle_changed s w u (when_assigned v) (assigned_legal s v u n h).within (joined_not v w (unit_at s u).holders (others bs v w fair is_so) (idle u)) idle
ended_idle_after bs s (Finished v) h fair ended w is_so = ended_by bs s v w (idle_of s v (finished_legal s v h)) ended is_so (v == w) refl
ended_idle_after bs s (Answered v u r) h fair ended w is_so =
    let idle = ended w is_so in
    idle_changed s w u (when_answered v) (held_at s v u (answered_legal s v u r h).0).0 (left_not v w (unit_at s u).holders (idle u)) idle
ended_idle_after bs s (Lost v u why) h fair ended w is_so =
    let idle = ended w is_so in
    idle_changed s w u (when_lost v why) (held_at s v u (lost_legal s v u why h).0).0 (left_not v w (unit_at s u).holders (idle u)) idle

ended_idle_run : {s t : State} {es : List Happened} (bs : List Bool) → Run s es t → all_in_time bs es ≡ true → EndedIdle bs s → EndedIdle (ended_of bs es) t
ended_idle_run bs stop fair ended = ended
ended_idle_run {s} bs (goes {e} {es} legal r) fair ended =
    let f = and_true (is_in_time bs e) _ fair in
    ended_idle_run (ended_after bs e) r f.1 (ended_idle_after bs s e legal f.0 ended)

idle_start : (units retries w : ℕ) → IsIdle (start units retries) w
idle_start units retries w k = ap (λ (x : Progress). is_held_by w x.holders) (get_replicate k units untouched)

pub finished_hold_nothing : {t : State} {es : List Happened} (units retries workers w : ℕ) → Run (start units retries) es t → all_in_time (replicate workers false) es ≡ true
    → has_ended (ended_of (replicate workers false) es) w ≡ true → holding t w ≡ None
finished_hold_nothing {t} units retries workers w r fair is_so =
    holds_none_of t w (ended_idle_run (replicate workers false) r fair (λ v ended. idle_start units retries v) w is_so)
