-- Which texts are preprocessing tokens, comments and white space: tests on a whole text, in which no
-- joined line is left (C11 6.4).
use Rattle.std.specs.Prelude.{ℕ, Bool, true, false, not, ◌&&◌, ◌||◌, ◌==◌, List, [], ◌∷◌, codes, Option, Some, None, if◌then◌else◌}
use Rattle.std.specs.List.{list_any, list_all}
use Rattle.std.specs.Option.{option_map}
use Rattle.cr_base.specs.Names.{is_digit, is_word_byte, is_identifier}
use Rattle.cr_base.specs.declared.token.PpKind.{PpKind}
use Rattle.cr_base.specs.declared.token.PpKind.TheVariants.{Ident, Number, Char, Str, Punct}

-- the byte is one of these
abbrev pub is_one_of : List ℕ → ℕ → Bool
is_one_of bytes b = list_any (λ x. x == b) bytes

abbrev pub is_empty : List ℕ → Bool
is_empty [] = true
is_empty (b ∷ bs) = false

-- the text begins with this byte
abbrev pub starts_with : ℕ → List ℕ → Bool
starts_with q [] = false
starts_with q (b ∷ bs) = b == q

-- what may go on a number behind this byte: digits, letters, `_`, `.`, and a sign behind e, E, p or P (C11 6.4.8)
abbrev pub goes_on_behind : ℕ → ℕ → Bool
goes_on_behind a b = is_word_byte b || b == 46 || (is_one_of (codes "+-") b && is_one_of (codes "eEpP") a)

abbrev pub goes_on_a_number : ℕ → List ℕ → Bool
goes_on_a_number a [] = true
goes_on_a_number a (b ∷ bs) = goes_on_behind a b && goes_on_a_number b bs

abbrev pub is_digit_and_more : List ℕ → Bool
is_digit_and_more [] = false
is_digit_and_more (b ∷ bs) = is_digit b && goes_on_a_number b bs

-- a digit, or `.` and a digit, and what goes on a number (C11 6.4.8)
abbrev pub is_number : List ℕ → Bool
is_number [] = false
is_number (b ∷ bs) = is_digit_and_more (b ∷ bs) || (b == 46 && is_digit_and_more bs)

-- Elements and then the quote, with nothing behind it, on one line. An element is a backslash with any byte,
-- or any byte but the quote and the backslash (C11 6.4.4.4, 6.4.5).
abbrev pub is_elements_and : ℕ → List ℕ → Bool
is_elements_and q [] = false
is_elements_and q (a ∷ []) = a == q
is_elements_and q (a ∷ b ∷ bs) =
    if a == 92 then not (b == 10) && is_elements_and q bs
    else not (a == q) && not (a == 10) && is_elements_and q (b ∷ bs)

-- a quote, elements and the quote
abbrev pub is_quoted : ℕ → List ℕ → Bool
is_quoted q [] = false
is_quoted q (b ∷ bs) = b == q && is_elements_and q bs

-- the same between single quotes, with one element at least
abbrev pub is_quoted_char : List ℕ → Bool
is_quoted_char [] = false
is_quoted_char (b ∷ bs) = b == 39 && (not (starts_with 39 bs) && is_elements_and 39 bs)

-- a text that passes, alone or behind `L`, `u` or `U`
abbrev pub is_behind_prefix : (List ℕ → Bool) → List ℕ → Bool
is_behind_prefix test [] = test []
is_behind_prefix test (b ∷ bs) = test (b ∷ bs) || (is_one_of (codes "LuU") b && test bs)

-- a text that passes, behind `u8`
abbrev pub is_behind_u8 : (List ℕ → Bool) → List ℕ → Bool
is_behind_u8 test (a ∷ b ∷ bs) = a == 117 && (b == 56 && test bs)
is_behind_u8 test _ = false

-- a character constant (C11 6.4.4.4)
abbrev pub is_char : List ℕ → Bool
is_char text = is_behind_prefix is_quoted_char text

-- a string literal (C11 6.4.5)
abbrev pub is_string : List ℕ → Bool
is_string text = is_behind_prefix (is_quoted 34) text || is_behind_u8 (is_quoted 34) text

-- Of two bytes: one of these with `=` behind it, one of these twice, or `->` and the digraphs of two bytes.
abbrev pub is_pair : ℕ → ℕ → Bool
is_pair a b =
    (is_one_of (codes "=!<>*/%+-&^|") a && b == 61)
    || (is_one_of (codes "+-<>&|#") a && a == b)
    || (a == 45 && b == 62)
    || (a == 60 && is_one_of (codes ":%") b)
    || (is_one_of (codes ":%") a && b == 62)
    || (a == 37 && b == 58)

-- `...`, `<<=` and `>>=`
abbrev pub is_triple : ℕ → ℕ → ℕ → Bool
is_triple a b c = (a == 46 && (b == 46 && c == 46)) || (is_one_of (codes "<>") a && (a == b && c == 61))

-- a punctuator (C11 6.4.6)
abbrev pub is_punctuator : List ℕ → Bool
is_punctuator [] = false
is_punctuator (a ∷ []) = is_one_of (codes "[](){}.&*+-~!/%<>^|?:;=,#") a
is_punctuator (a ∷ b ∷ []) = is_pair a b
is_punctuator (a ∷ b ∷ c ∷ []) = is_triple a b c
is_punctuator (a ∷ b ∷ c ∷ d ∷ []) = a == 37 && (b == 58 && (c == 37 && d == 58))
is_punctuator _ = false

-- the kind of the preprocessing token that a text is, if it is exactly one (C11 6.4); a stray byte is none here
unfoldable pub token_kind : List ℕ → Option PpKind
token_kind text =
    if is_identifier text then Some Ident
    else if is_number text then Some Number
    else if is_char text then Some Char
    else if is_string text then Some Str
    else if is_punctuator text then Some Punct
    else None

-- the first `*/` ends the text
abbrev pub is_up_to_end : List ℕ → Bool
is_up_to_end [] = false
is_up_to_end (a ∷ []) = false
is_up_to_end (a ∷ b ∷ bs) = if a == 42 && b == 47 then is_empty bs else is_up_to_end (b ∷ bs)

-- `/*` up to the first `*/` behind it, or `//` and what else is on the line (C11 6.4.9)
abbrev pub is_comment : List ℕ → Bool
is_comment (a ∷ b ∷ bs) = a == 47 && ((b == 42 && is_up_to_end bs) || (b == 47 && list_all (λ c. not (c == 10)) bs))
is_comment _ = false

-- blank, tab, vertical tab or form feed (C11 6.4), or, as an own rule of this project, a carriage return
abbrev pub is_blank_byte : ℕ → Bool
is_blank_byte b = is_one_of (32 ∷ 9 ∷ 11 ∷ 12 ∷ 13 ∷ []) b

abbrev pub is_blank : List ℕ → Bool
is_blank [] = false
is_blank (b ∷ bs) = is_blank_byte b && is_empty bs

abbrev pub is_line_end : List ℕ → Bool
is_line_end [] = false
is_line_end (b ∷ bs) = b == 10 && is_empty bs

-- what a file is cut into: white space, ends of lines, comments, and tokens
pub data Part : Type 0 where
  Blank : Part
  LineEnd : Part
  Comment : Part
  Piece : PpKind → Part

-- the part that a text is as a whole, if it is one
unfoldable pub part_of : List ℕ → Option Part
part_of text =
    if is_blank text then Some Blank
    else if is_line_end text then Some LineEnd
    else if is_comment text then Some Comment
    else option_map Piece (token_kind text)
