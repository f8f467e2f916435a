-- Our own rule for what stands in memory: the calls of one kind are numbered from 1, and a list says which fail.
use Rattle.std.specs.Prelude.{ℕ, ◌+◌, ◌-◌, ◌^◌, ◌==◌, min, Bool, List, [], ◌∷◌, ◌++◌}
use Rattle.std.specs.List.{list_any}
use Rattle.cr_world.specs.declared.calls.Calls.{Calls}

-- how many calls were made, the numbers of those that are to fail, and how many failed
pub record CallLog : Type 0 where
  pub made : ℕ
  pub failing : List ℕ
  pub failed : ℕ

abbrev pub log_of : Calls → CallLog
log_of calls = record { made = calls.made; failing = calls.failing.items; failed = calls.failed }

-- No call was made, and none is to fail.
abbrev pub no_calls : CallLog
no_calls = record { made = 0; failing = []; failed = 0 }

-- one more, up to the last value of a counter
abbrev pub one_more : ℕ → ℕ
one_more n = min (n + 1) (2 ^ 64 - 1)

-- the number of the next call is listed
abbrev pub next_fails : CallLog → Bool
next_fails log = list_any (λ n. n == one_more log.made) log.failing

-- the call with this number is to fail, too
abbrev pub with_failing : CallLog → ℕ → CallLog
with_failing log n = record { made = log.made; failing = log.failing ++ n ∷ []; failed = log.failed }

-- one more call was made
abbrev pub after_call : CallLog → CallLog
after_call log = record { made = one_more log.made; failing = log.failing; failed = log.failed }

-- one more call failed
abbrev pub after_fault : CallLog → CallLog
after_fault log = record { made = log.made; failing = log.failing; failed = one_more log.failed }
