-- What holds of every list of events that the rules allow, in whatever order the workers come.
use Rattle.std.specs.Prelude.{ℕ, ◌+◌, ◌*◌, ◌<◌, ◌≤◌, ◌≡◌, ◌↔◌, Bool, true, false, not, ◌&&◌, ◌==◌, cond, List, [], ◌∷◌, None, Some, slice_index_or, slice_set, replicate, count_by, Contains}
use Rattle.std.specs.Prelude as p
use Rattle.std.specs.List.{flat_map}
use Rattle.cr_core.specs.declared.Reply.TheVariants.{First}
use Rattle.cr_core.specs.declared.Happened.{Happened}
use Rattle.cr_core.specs.declared.Happened.TheVariants.{Assigned, Finished, Answered}
use Rattle.cr_core.specs.Assignment.{State, start, answered, holding, replay}

-- whether a worker has had its Finished; a worker outside the list counts as one that has
abbrev pub has_ended : List Bool → ℕ → Bool
has_ended ended worker = slice_index_or ended worker true

-- who has had its Finished after one more event, and after a list of them
abbrev pub ended_after : List Bool → Happened → List Bool
ended_after ended (Finished w) = slice_set ended w true
ended_after ended _ = ended

abbrev pub ended_of : List Bool → List Happened → List Bool
ended_of ended [] = ended
ended_of ended (e ∷ es) = ended_of (ended_after ended e) es

-- of so many workers
abbrev pub ended_workers : ℕ → List Happened → List Bool
ended_workers workers list = ended_of (replicate workers false) list

-- a worker asks for a unit only before its Finished
abbrev pub is_in_time : List Bool → Happened → Bool
is_in_time ended (Assigned w u n) = not (has_ended ended w)
is_in_time ended (Finished w) = not (has_ended ended w)
is_in_time ended _ = true

abbrev pub all_in_time : List Bool → List Happened → Bool
all_in_time ended [] = true
all_in_time ended (e ∷ es) = is_in_time ended e && all_in_time (ended_after ended e) es

-- no worker assigns again after its Finished
abbrev pub stops_when_finished : ℕ → List Happened → Bool
stops_when_finished workers list = all_in_time (replicate workers false) list

abbrev pub is_assignment_of : ℕ → Happened → Bool
is_assignment_of unit (Assigned w u n) = u == unit
is_assignment_of unit _ = false

abbrev pub is_first_answer_of : ℕ → Happened → Bool
is_first_answer_of unit (Answered w u First) = u == unit
is_first_answer_of unit _ = false

pub record IsLawful (units retries workers : ℕ) (list : List Happened) (s : State) : Type 0 where
  pub same_units : p.length s.units ≡ units
  pub same_retries : s.retries ≡ retries
  pub few_assignments : (unit : ℕ) → count_by (is_assignment_of unit) list ≤ retries + 2
  pub short : p.length list ≤ 2 * units * (retries + 3) + workers
  pub one_first_answer : (unit : ℕ) → count_by (is_first_answer_of unit) list ≡ cond (answered s unit) 1 0
  pub finished_hold_nothing : (worker : ℕ) → has_ended (ended_workers workers list) worker ≡ true → holding s worker ≡ None

abbrev pub EveryListIsLawful : Type 0
EveryListIsLawful = (units retries workers : ℕ) (list : List Happened) (s : State)
    → replay (start units retries) list ≡ Some s → stops_when_finished workers list ≡ true → IsLawful units retries workers list s

-- the facts that an event brings: those of its unit, where it is a first answer
abbrev pub facts_brought : {F : Type 0} → (ℕ → List F) → Happened → List F
facts_brought facts (Answered w u First) = facts u
facts_brought facts _ = []

-- once all units are answered, the first answers have brought just the facts of the units
abbrev pub FirstAnswersBringAllFacts : Type 0 → Type 0
FirstAnswersBringAllFacts F = (facts : ℕ → List F) (units retries : ℕ) (list : List Happened) (s : State)
    → replay (start units retries) list ≡ Some s → ((unit : ℕ) → unit < units → answered s unit ≡ true)
    → (fact : F) → Contains (flat_map (facts_brought facts) list) fact ↔ ((unit : ℕ) × (unit < units) × Contains (facts unit) fact)
