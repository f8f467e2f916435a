-- What the code answers of the list of an `#if`.
use Rattle.std.specs.Prelude.{◌≡◌, Bool, not, Result, Ok, Err, ℤ}
use Rattle.cr_cond.specs.declared.CondFault.{CondFault}
use Rattle.cr_cond.specs.declared.CondFault.TheVariants.{OutOfMemory}
use Rattle.cr_cond.specs.Value.{is_zero_int}

abbrev pub truth_of : Result ℤ CondFault → Result Bool CondFault
truth_of (Ok n) = Ok (not (is_zero_int n))
truth_of (Err fault) = Err fault

-- The answer is the expected one; only want of memory is free.
abbrev pub IsTruth : Result ℤ CondFault → Result Bool CondFault → Type 0
IsTruth expected (Err OutOfMemory) = Unit {0}
IsTruth expected result = result ≡ truth_of expected
