-- Numbers on the command line (our own rule).
use Rattle.std.specs.Prelude.{ℕ, ◌+◌, ◌-◌, ◌*◌, Bool, false, ◌&&◌, List, [], ◌∷◌, Option, Some, None, if◌then◌else◌, nat_le}
use Rattle.cr_base.specs.Names.{is_digit}

-- the number that decimal digits go on to from one so far, up to 2^32 - 1
abbrev pub digits_from : ℕ → List ℕ → Option ℕ
digits_from value [] = Some value
digits_from value (digit ∷ rest) =
    if is_digit digit && nat_le (10 * value + (digit - 48)) 4294967295 then digits_from (10 * value + (digit - 48)) rest else None

-- a number from 0 to 2^32 - 1, in one decimal digit or more
abbrev pub number_of : List ℕ → Option ℕ
number_of [] = None
number_of (digit ∷ rest) = digits_from 0 (digit ∷ rest)

abbrev pub is_within : ℕ → ℕ → Option ℕ → Bool
is_within least most None = false
is_within least most (Some number) = nat_le least number && nat_le number most

-- a number in a range
abbrev pub is_number_in : ℕ → ℕ → List ℕ → Bool
is_number_in least most text = is_within least most (number_of text)
