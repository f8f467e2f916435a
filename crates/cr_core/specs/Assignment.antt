-- Which worker gets which unit, and what an event makes of the units: our own rules, after the backup tasks of MapReduce.
use Rattle.std.specs.Prelude.{ℕ, ◌+◌, Bool, true, false, not, ◌&&◌, ◌||◌, ◌==◌, nat_lt, if◌then◌else◌, List, [], ◌∷◌, Option, Some, None, option_and_then, replicate, slice_index_or, slice_set}
use Rattle.std.specs.List.{position}
use Rattle.cr_core.specs.declared.progress.Holders.{Holders}
use Rattle.cr_core.specs.declared.progress.Holders.TheVariants.{Nobody, One, Two}
use Rattle.cr_core.specs.declared.progress.Progress.{Progress}
use Rattle.cr_core.specs.declared.Grant.{Grant}
use Rattle.cr_core.specs.declared.Grant.TheVariants as grants
use Rattle.cr_core.specs.declared.Reply.{Reply}
use Rattle.cr_core.specs.declared.Reply.TheVariants.{First, Repeat}
use Rattle.cr_core.specs.declared.Why.{Why}
use Rattle.cr_core.specs.declared.Why.TheVariants.{Struck, Memory, Undriven, Cancelled}
use Rattle.cr_core.specs.declared.Happened.{Happened}
use Rattle.cr_core.specs.declared.Happened.TheVariants.{Assigned, Finished, Answered, Lost}

-- how many strikes a unit survives, and how far each unit is
pub record State : Type 0 where
  pub retries : ℕ
  pub units : List Progress

-- a unit before its first assignment
abbrev pub untouched : Progress
untouched = record { holders = Nobody; strikes = 0; assigned = 0; is_dry = false; is_answered = false }

-- the state of a wave of so many units before its first event
abbrev pub start : ℕ → ℕ → State
start units retries = record { retries = retries; units = replicate units untouched }

-- the unit of a number, where there is one
abbrev pub unit_at : State → ℕ → Progress
unit_at s unit = slice_index_or s.units unit untouched

-- one unit is replaced by what f makes of it
abbrev pub changed : State → ℕ → (Progress → Progress) → State
changed s unit f = record { retries = s.retries; units = slice_set s.units unit (f (unit_at s unit)) }

abbrev pub answered : State → ℕ → Bool
answered s unit = (unit_at s unit).is_answered

-- unanswered, and more strikes hit it than the retries allow
abbrev pub is_spent : ℕ → Progress → Bool
is_spent retries x = not x.is_answered && nat_lt retries x.strikes

-- unanswered, and neither spent nor dry
abbrev pub is_open : ℕ → Progress → Bool
is_open retries x = not x.is_answered && (not (is_spent retries x) && not x.is_dry)

-- who holds a unit

abbrev pub is_unheld : Holders → Bool
is_unheld Nobody = true
is_unheld _ = false

abbrev pub is_held_by : ℕ → Holders → Bool
is_held_by worker Nobody = false
is_held_by worker (One v) = v == worker
is_held_by worker (Two v w) = v == worker || w == worker

-- held once, and not by this worker
abbrev pub is_held_once_by_another : ℕ → Holders → Bool
is_held_once_by_another worker (One v) = not (v == worker)
is_held_once_by_another worker _ = false

-- the unit that a worker holds
abbrev pub holding : State → ℕ → Option ℕ
holding s worker = position (λ x. is_held_by worker x.holders) s.units

-- what a worker is given

-- open, and held by nobody
abbrev pub may_begin : ℕ → Progress → Bool
may_begin retries x = is_open retries x && is_unheld x.holders

-- open, held once, and not by this worker
abbrev pub may_back_up : ℕ → ℕ → Progress → Bool
may_back_up retries worker x = is_open retries x && is_held_once_by_another worker x.holders

abbrev pub or_else : Option ℕ → Option ℕ → Option ℕ
or_else (Some unit) other = Some unit
or_else None other = other

-- the least unit that may begin, and the least that a worker may back up

abbrev pub first_free : State → Option ℕ
first_free s = position (may_begin s.retries) s.units

abbrev pub first_backup : State → ℕ → Option ℕ
first_backup s worker = position (may_back_up s.retries worker) s.units

abbrev pub choice : State → ℕ → Option ℕ
choice s worker = or_else (first_free s) (first_backup s worker)

-- the attempt is the number of the unit's earlier assignments
abbrev pub grant_of : State → Option ℕ → Grant
grant_of s (Some unit) = grants.Work unit (unit_at s unit).assigned
grant_of s None = grants.Finished

abbrev pub grant : State → ℕ → Grant
grant s worker = grant_of s (choice s worker)

-- an answer is a repeat where the unit was answered before
abbrev pub reply_of : Bool → Reply
reply_of true = Repeat
reply_of false = First

-- what an event makes of its unit

abbrev pub joined_by : ℕ → Holders → Holders
joined_by worker Nobody = One worker
joined_by worker (One v) = Two v worker
joined_by worker (Two v w) = Two v w

abbrev pub left_by : ℕ → Holders → Holders
left_by worker Nobody = Nobody
left_by worker (One v) = if v == worker then Nobody else One v
left_by worker (Two v w) = if v == worker then One w else if w == worker then One v else Two v w

-- a strike is counted; want of memory, or a future that was not driven, leaves the unit dry
abbrev pub strikes_after : Why → ℕ → ℕ
strikes_after Struck n = n + 1
strikes_after _ n = n

abbrev pub dry_after : Why → Bool → Bool
dry_after Memory b = true
dry_after Undriven b = true
dry_after _ b = b

abbrev pub when_assigned : ℕ → Progress → Progress
when_assigned worker x = record { holders = joined_by worker x.holders; strikes = x.strikes; assigned = x.assigned + 1; is_dry = x.is_dry; is_answered = x.is_answered }

abbrev pub when_answered : ℕ → Progress → Progress
when_answered worker x = record { holders = left_by worker x.holders; strikes = x.strikes; assigned = x.assigned; is_dry = x.is_dry; is_answered = true }

abbrev pub when_lost : ℕ → Why → Progress → Progress
when_lost worker why x = record { holders = left_by worker x.holders; strikes = strikes_after why x.strikes; assigned = x.assigned; is_dry = dry_after why x.is_dry; is_answered = x.is_answered }

-- the state after each of the three calls

abbrev pub after_grant : State → ℕ → Grant → State
after_grant s worker (grants.Work unit attempt) = changed s unit (when_assigned worker)
after_grant s worker grants.Finished = s

abbrev pub after_assign : State → ℕ → State
after_assign s worker = after_grant s worker (grant s worker)

abbrev pub after_answer : State → ℕ → ℕ → State
after_answer s worker unit = changed s unit (when_answered worker)

abbrev pub after_lose : State → ℕ → ℕ → Why → State
after_lose s worker unit why = changed s unit (when_lost worker why)

-- only an answered unit is lost as cancelled
abbrev pub may_lose : Why → Bool → Bool
may_lose Cancelled answered = answered
may_lose _ answered = true

-- events with their replies, and the state after a list of them

abbrev pub holds_none : Option ℕ → Bool
holds_none None = true
holds_none (Some unit) = false

abbrev pub holds_this : ℕ → Option ℕ → Bool
holds_this unit None = false
holds_this unit (Some held) = held == unit

abbrev pub is_work : ℕ → ℕ → Grant → Bool
is_work unit attempt (grants.Work u n) = u == unit && n == attempt
is_work unit attempt grants.Finished = false

abbrev pub is_finished : Grant → Bool
is_finished (grants.Work u n) = false
is_finished grants.Finished = true

abbrev pub is_reply : Reply → Bool → Bool
is_reply First answered = not answered
is_reply Repeat answered = answered

-- the event of a call that asked for a unit
abbrev pub asked : ℕ → Grant → Happened
asked worker (grants.Work unit attempt) = Assigned worker unit attempt
asked worker grants.Finished = Finished worker

-- the event's condition holds, and its reply is the one that the rules give
abbrev pub is_legal : State → Happened → Bool
is_legal s (Assigned w u n) = holds_none (holding s w) && is_work u n (grant s w)
is_legal s (Finished w) = holds_none (holding s w) && is_finished (grant s w)
is_legal s (Answered w u r) = holds_this u (holding s w) && is_reply r (answered s u)
is_legal s (Lost w u why) = holds_this u (holding s w) && may_lose why (answered s u)

abbrev pub after : State → Happened → State
after s (Assigned w u n) = changed s u (when_assigned w)
after s (Finished w) = s
after s (Answered w u r) = after_answer s w u
after s (Lost w u why) = after_lose s w u why

-- one step, defined where the event is legal
abbrev pub assignment_step : State → Happened → Option State
assignment_step s e = if is_legal s e then Some (after s e) else None

-- the state after a list of events, defined where each is the rules' own step
abbrev pub replay : State → List Happened → Option State
replay s [] = Some s
replay s (e ∷ es) = option_and_then (λ t. replay t es) (assignment_step s e)
