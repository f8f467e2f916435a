-- Which texts are exactly one preprocessing token (C11 6.4), and of which kind.
use Rattle.std.specs.Prelude.{ℕ, Bool, true, false, not, ◌&&◌, ◌||◌, ◌==◌, if◌then◌else◌, List, [], ◌∷◌, bytes_eq, codes, Option, Some, None}
use Rattle.std.specs.List.{list_any, slice_split}
use Rattle.cr_base.specs.Names.{is_identifier, is_word_byte, is_digit}
use Rattle.cr_base.specs.declared.token.PpKind.{PpKind}
use Rattle.cr_base.specs.declared.token.PpKind.TheVariants.{Ident, Number, Char, Str, Punct, Stray}

-- a sign directly behind e, E, p or P
abbrev pub is_exponent_sign : ℕ → ℕ → Bool
is_exponent_sign a b = (b == 43 || b == 45) && ((a == 101 || a == 69) || (a == 112 || a == 80))

-- a letter, a digit, `_`, `.` or the sign of an exponent; a is the byte before
abbrev pub is_number_byte : ℕ → ℕ → Bool
is_number_byte a b = is_word_byte b || (b == 46 || is_exponent_sign a b)

abbrev pub are_number_bytes : ℕ → List ℕ → Bool
are_number_bytes a [] = true
are_number_bytes a (b ∷ bs) = is_number_byte a b && are_number_bytes b bs

abbrev pub is_digit_and_more : List ℕ → Bool
is_digit_and_more [] = false
is_digit_and_more (b ∷ bs) = is_digit b && are_number_bytes b bs

-- C11 6.4.8: a digit, or `.` and a digit, and bytes of a number
abbrev pub is_number : List ℕ → Bool
is_number [] = false
is_number (b ∷ bs) = is_digit_and_more (b ∷ bs) || (b == 46 && is_digit_and_more bs)

abbrev pub is_empty : List ℕ → Bool
is_empty [] = true
is_empty (b ∷ bs) = false

-- The first quote that no backslash stands before is the text's last byte, and no line feed is among them; escaped says
-- that a backslash stands directly before.
abbrev pub ends_with_quote : ℕ → Bool → List ℕ → Bool
ends_with_quote quote escaped [] = false
ends_with_quote quote true (b ∷ bs) = not (b == 10) && ends_with_quote quote false bs
ends_with_quote quote false (b ∷ bs) =
    if b == 92 then ends_with_quote quote true bs else if b == quote then is_empty bs else not (b == 10) && ends_with_quote quote false bs

abbrev pub begins_with : ℕ → List ℕ → Bool
begins_with a [] = false
begins_with a (b ∷ bs) = b == a

-- one quote, what is between, which is nothing only where that may be, and another quote
abbrev pub is_in_quotes : ℕ → Bool → List ℕ → Bool
is_in_quotes quote may_be_empty [] = false
is_in_quotes quote may_be_empty (b ∷ bs) = b == quote && ((may_be_empty || not (begins_with quote bs)) && ends_with_quote quote false bs)

-- in quotes, behind `L`, `u`, `U` or nothing
abbrev pub is_behind_letter : ℕ → Bool → List ℕ → Bool
is_behind_letter quote may_be_empty [] = false
is_behind_letter quote may_be_empty (b ∷ bs) =
    is_in_quotes quote may_be_empty (b ∷ bs) || ((b == 76 || (b == 117 || b == 85)) && is_in_quotes quote may_be_empty bs)

-- C11 6.4.4.4: at least one element between apostrophes
abbrev pub is_char : List ℕ → Bool
is_char text = is_behind_letter 39 false text

-- in quotes, behind `u8`
abbrev pub is_utf8_string : List ℕ → Bool
is_utf8_string (a ∷ b ∷ bs) = a == 117 && (b == 56 && is_in_quotes 34 true bs)
is_utf8_string _ = false

-- C11 6.4.5
abbrev pub is_string : List ℕ → Bool
is_string text = is_behind_letter 34 true text || is_utf8_string text

-- C11 6.4.6, with the six digraphs at the end
unfoldable pub punctuators : List (List ℕ)
punctuators = slice_split (λ b. b == 32) (codes "[ ] ( ) { } . -> ++ -- & * + - ~ ! / % << >> < > <= >= == != ^ | && || ? : ; ... = *= /= %= += -= <<= >>= &= ^= |= , # ## <: :> <% %> %: %:%:")

unfoldable pub is_punctuator : List ℕ → Bool
is_punctuator text = list_any (λ mark. bytes_eq mark text) punctuators

-- white space: tab, line feed, vertical tab, form feed, carriage return and blank
abbrev pub is_white : ℕ → Bool
is_white b = b == 32 || ((b == 9 || b == 10) || ((b == 11 || b == 12) || b == 13))

-- any other one byte, as a quote that isn't closed
abbrev pub is_stray : List ℕ → Bool
is_stray [] = false
is_stray (b ∷ bs) = is_empty bs && not (is_white b)

-- the kind of the one preprocessing token that a text is as a whole
abbrev pub one_token : List ℕ → Option PpKind
one_token text =
    if is_identifier text then Some Ident
    else if is_number text then Some Number
    else if is_char text then Some Char
    else if is_string text then Some Str
    else if is_punctuator text then Some Punct
    else if is_stray text then Some Stray
    else None
