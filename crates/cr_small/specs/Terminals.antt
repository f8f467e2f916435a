-- What a token is in the grammar of the small form.
use Rattle.std.specs.Prelude.{ℕ, Bool, false, not, ◌&&◌, ◌||◌, List, [], ◌∷◌, length, if◌then◌else◌, ◌==◌, nat_lt, bytes_eq, codes}
use Rattle.std.specs.List.{list_all}
use Rattle.cr_base.specs.Names.{is_digit, is_identifier, is_keyword}
use Rattle.cr_lex.specs.Lexing.{Token}
use Rattle.cr_small.specs.declared.terminal.Terminal.{Terminal}
use Rattle.cr_small.specs.declared.terminal.Terminal.TheVariants as terminal

-- an identifier that is no keyword (C11 6.4.1, 6.4.2.1)
unfoldable pub is_name : List ℕ → Bool
is_name text = is_identifier text && not (is_keyword text)

-- 0, or digits that begin with another one
abbrev pub is_number : List ℕ → Bool
is_number [] = false
is_number (digit ∷ rest) = list_all is_digit (digit ∷ rest) && (not (digit == 48) || not (nat_lt 0 (length rest)))

-- one of the punctuators ( ) { } ; = +
abbrev pub punctuator : List ℕ → Terminal
punctuator [] = terminal.Other
punctuator (byte ∷ []) =
    if byte == 40 then terminal.Open
    else if byte == 41 then terminal.Close
    else if byte == 123 then terminal.Begin
    else if byte == 125 then terminal.End
    else if byte == 59 then terminal.Semicolon
    else if byte == 61 then terminal.Assign
    else if byte == 43 then terminal.Plus
    else terminal.Other
punctuator (byte ∷ next ∷ rest) = terminal.Other

-- what a token is in the grammar
unfoldable pub terminal_of : List ℕ → Terminal
terminal_of text =
    if bytes_eq text (codes "int") then terminal.Int
    else if bytes_eq text (codes "void") then terminal.Void
    else if bytes_eq text (codes "return") then terminal.Return
    else if bytes_eq text (codes "static") then terminal.Static
    else if bytes_eq text (codes "extern") then terminal.Extern
    else if is_name text then terminal.Name
    else if is_number text then terminal.Number
    else punctuator text

abbrev pub begins_with_underscore : List ℕ → Bool
begins_with_underscore [] = false
begins_with_underscore (byte ∷ rest) = byte == 95

-- no token begins with an underscore: names that do are outside the small form
abbrev pub has_plain_names : List Token → Bool
has_plain_names tokens = list_all (λ t. not (begins_with_underscore t.text)) tokens
