-- The forms of numbers (C11 6.4.4.1, 6.4.4.2).
use Rattle.std.specs.Prelude.{ℕ, Bool, false, cond, ◌&&◌, ◌||◌, List, [], ◌∷◌, ◌==◌, nat_le, bytes_eq, codes}
use Rattle.std.specs.List.{list_any, slice_split}
use Rattle.cr_base.specs.Names.{is_digit}
use Rattle.cr_phase7.specs.declared.number.Radix.{Radix}
use Rattle.cr_phase7.specs.declared.number.Radix.TheVariants.{Octal, Decimal, Hexadecimal}

-- whether a text is one of the words, which blanks part
abbrev pub is_among : List ℕ → List ℕ → Bool
is_among text words = list_any (λ word. bytes_eq word text) (slice_split (λ b. b == 32) words)

abbrev pub is_digit_of : ℕ → Radix → Bool
is_digit_of b Octal = nat_le 48 b && nat_le b 55
is_digit_of b Decimal = is_digit b
is_digit_of b Hexadecimal = is_digit b || ((nat_le 97 b && nat_le b 102) || (nat_le 65 b && nat_le b 70))

-- what stands behind the digits at the front
abbrev pub after_digits : Radix → List ℕ → List ℕ
after_digits radix [] = []
after_digits radix (b ∷ bs) = cond (is_digit_of b radix) (after_digits radix bs) (b ∷ bs)

abbrev pub starts_with_digit : Radix → List ℕ → Bool
starts_with_digit radix [] = false
starts_with_digit radix (b ∷ bs) = is_digit_of b radix

-- none, `u`, `l`, `ll`, or `u` and one of these in either order
unfoldable pub integer_suffixes : List ℕ
integer_suffixes = codes " u U l L ll LL ul uL ull uLL Ul UL Ull ULL lu lU llu llU Lu LU LLu LLU"

unfoldable pub floating_suffixes : List ℕ
floating_suffixes = codes " f F l L"

abbrev pub is_integer_suffix : List ℕ → Bool
is_integer_suffix text = is_among text integer_suffixes

abbrev pub is_floating_suffix : List ℕ → Bool
is_floating_suffix text = is_among text floating_suffixes

-- digits, at least one, and a suffix
abbrev pub is_whole : Radix → List ℕ → Bool
is_whole radix text = starts_with_digit radix text && is_integer_suffix (after_digits radix text)

abbrev pub is_mark : ℕ → Radix → Bool
is_mark b Hexadecimal = b == 112 || b == 80
is_mark b _ = b == 101 || b == 69

-- the exponent's digits and a floating suffix
abbrev pub is_exponent_digits : List ℕ → Bool
is_exponent_digits text = starts_with_digit Decimal text && is_floating_suffix (after_digits Decimal text)

abbrev pub is_signed_exponent : List ℕ → Bool
is_signed_exponent [] = false
is_signed_exponent (b ∷ bs) = cond (b == 43 || b == 45) (is_exponent_digits bs) (is_exponent_digits (b ∷ bs))

abbrev pub is_exponent : Radix → List ℕ → Bool
is_exponent radix [] = false
is_exponent radix (b ∷ bs) = is_mark b radix && is_signed_exponent bs

-- a decimal fraction needs no exponent
abbrev pub may_end : List ℕ → Radix → Bool
may_end text Hexadecimal = false
may_end text _ = is_floating_suffix text

abbrev pub ends_fraction : Radix → List ℕ → Bool
ends_fraction radix text = may_end text radix || is_exponent radix text

-- what stands behind the whole digits; some: there are such digits
abbrev pub is_fraction : Radix → Bool → List ℕ → Bool
is_fraction radix some [] = false
is_fraction radix some (b ∷ bs) = cond (b == 46) ((some || starts_with_digit radix bs) && ends_fraction radix (after_digits radix bs)) (some && is_exponent radix (b ∷ bs))

abbrev pub is_floating : Radix → List ℕ → Bool
is_floating radix text = is_fraction radix (starts_with_digit radix text) (after_digits radix text)

-- in hexadecimal, behind `0x`
abbrev pub is_hexadecimal : List ℕ → Bool
is_hexadecimal [] = false
is_hexadecimal (b ∷ bs) = (b == 120 || b == 88) && (is_whole Hexadecimal bs || is_floating Hexadecimal bs)

-- a whole number that isn't hexadecimal: an octal one begins with 0
abbrev pub is_plain_integer : List ℕ → Bool
is_plain_integer [] = false
is_plain_integer (b ∷ bs) = cond (b == 48) (is_whole Octal (b ∷ bs)) (is_whole Decimal (b ∷ bs))

abbrev pub is_prefixed : List ℕ → Bool
is_prefixed [] = false
is_prefixed (b ∷ bs) = b == 48 && is_hexadecimal bs

-- an integer constant or a floating constant
abbrev pub is_number : List ℕ → Bool
is_number text = is_prefixed text || (is_plain_integer text || is_floating Decimal text)
