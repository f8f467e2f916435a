-- How the code goes over a file: a part by its first byte, and then byte by byte. No public clause rests on these.
use Rattle.std.specs.Prelude.{ℕ, zero, suc, ◌≡◌, ◌+◌, ◌<◌, ◌≤◌, Bool, false, not, ◌&&◌, ◌||◌, ◌==◌, List, [], ◌∷◌, drop, length, slice_index, nat_lt, codes, Option, Some, None, Result, Ok, Err, if◌then◌else◌}
use Rattle.std.specs.Option.{option_map, unwrap_or}
use Rattle.cr_base.specs.Names.{is_digit, is_word_byte, starts_name}
use Rattle.cr_base.specs.declared.token.PpKind.{PpKind}
use Rattle.cr_base.specs.declared.token.PpKind.TheVariants.{Ident, Number, Char, Str, Punct, Stray}
use Rattle.cr_lex.specs.Spellings.{is_one_of, goes_on_behind, is_pair, is_triple, is_blank_byte}
use Rattle.cr_lex.specs.Joins.{rest, line_at, Cell, is_trigraph}
use Rattle.cr_lex.specs.declared.part.Found.{Found}
use Rattle.cr_lex.specs.declared.part.Found.TheVariants as found
use Rattle.cr_lex.specs.declared.part.Part.{Part}
use Rattle.cr_lex.specs.declared.part.Marks.{Marks}
use Rattle.cr_lex.specs.declared.cell.Byte.{Byte}

-- the cell of a byte
abbrev pub cell_of : List ℕ → ℕ → Cell
cell_of bytes at = record { byte = slice_index bytes at; at = at; line = line_at bytes at; trigraph = is_trigraph (drop at bytes) }

-- a byte that the code found, which is part of no join
pub record IsByte (bytes : List ℕ) (b : Byte) : Type 0 where
  pub within : b.at < length bytes
  pub byte : b.byte ≡ slice_index bytes b.at
  pub cell : rest bytes b.at ≡ cell_of bytes b.at ∷ rest bytes (b.at + 1)

-- the offset behind so many cells, which begin at or behind an offset
abbrev pub behind : ℕ → ℕ → List Cell → ℕ
behind zero from cs = from
behind (suc n) from [] = from
behind (suc n) from (c ∷ cs) = behind n (c.at + 1) cs

-- how many bytes at the front pass
abbrev pub run : (ℕ → Bool) → List ℕ → ℕ
run test [] = 0
run test (b ∷ bs) = if test b then suc (run test bs) else 0

abbrev pub run_end : (ℕ → Bool) → ℕ → List Cell → ℕ
run_end test from [] = from
run_end test from (c ∷ cs) = if test c.byte then run_end test (c.at + 1) cs else from

-- how many bytes at the front go on a number behind a byte
abbrev pub number_run : ℕ → List ℕ → ℕ
number_run a [] = 0
number_run a (b ∷ bs) = if goes_on_behind a b then suc (number_run b bs) else 0

abbrev pub number_end : ℕ → ℕ → List Cell → ℕ
number_end a from [] = from
number_end a from (c ∷ cs) = if goes_on_behind a c.byte then number_end c.byte (c.at + 1) cs else from

-- how many bytes there are up to the closing quote and with it; escaped: a backslash that escapes is directly before
abbrev pub closing : ℕ → Bool → List ℕ → Option ℕ
closing q escaped [] = None
closing q escaped (b ∷ bs) =
    if b == 10 then None
    else if not escaped && b == q then Some 1
    else option_map suc (closing q (not escaped && b == 92) bs)

-- the offset behind the closing quote, or that of the end of the line
abbrev pub closed : ℕ → Bool → ℕ → List Cell → Result ℕ ℕ
closed q escaped from [] = Err from
closed q escaped from (c ∷ cs) =
    if c.byte == 10 then Err c.at
    else if not escaped && c.byte == q then Ok (c.at + 1)
    else closed q (not escaped && c.byte == 92) (c.at + 1) cs

-- how many bytes there are up to the next `*/` and with it; star: a `*` is directly before
abbrev pub block : Bool → List ℕ → Option ℕ
block star [] = None
block star (b ∷ bs) = if star && b == 47 then Some 1 else option_map suc (block (b == 42) bs)

abbrev pub block_end : Bool → List Cell → Option ℕ
block_end star [] = None
block_end star (c ∷ cs) = if star && c.byte == 47 then Some (c.at + 1) else block_end (c.byte == 42) cs

-- not a line feed
abbrev pub is_not_line_feed : ℕ → Bool
is_not_line_feed b = not (b == 10)

abbrev pub ok : Result ℕ ℕ → Option ℕ
ok (Ok end) = Some end
ok (Err end) = None

-- Each of these quotes before an offset is not closed on its line.
abbrev pub Unclosed : ℕ → ℕ → List Cell → Type 0
Unclosed q limit [] = Unit {0}
Unclosed q limit (c ∷ cs) = (c.at < limit → c.byte ≡ q → ok (closed q false (c.at + 1) cs) ≡ None) × Unclosed q limit cs

-- each single quote before the one offset, and each double quote before the other, is not closed
pub record AreMarks (bytes : List ℕ) (at : ℕ) (marks : Marks) : Type 0 where
  pub char : Unclosed 39 marks.char (rest bytes at)
  pub string : Unclosed 34 marks.string (rest bytes at)

abbrev pub part : Found → ℕ → Part
part what end = record { found = what; end = end }

-- the first cell has this byte
abbrev pub starts_at : ℕ → List Cell → Bool
starts_at q [] = false
starts_at q (c ∷ cs) = c.byte == q

-- where a character ends behind its first quote, if it is closed and has an element
abbrev pub char_end : ℕ → List Cell → Option ℕ
char_end from cs = if starts_at 39 cs then None else ok (closed 39 false from cs)

-- where a string ends behind its first quote, if it is closed
abbrev pub string_end : ℕ → List Cell → Option ℕ
string_end from cs = ok (closed 34 false from cs)

abbrev pub char_part : ℕ → List Cell → Option Part
char_part from cs = option_map (part (found.Piece Char)) (char_end from cs)

abbrev pub string_part : ℕ → List Cell → Option Part
string_part from cs = option_map (part (found.Piece Str)) (string_end from cs)

-- a literal behind its first quote
abbrev pub literal_part : ℕ → ℕ → List Cell → Option Part
literal_part q from cs =
    if q == 39 then char_part from cs
    else if q == 34 then string_part from cs
    else None

-- a string behind `u8`
abbrev pub u8_part : List Cell → Option Part
u8_part [] = None
u8_part (c ∷ cs) = if c.byte == 34 then string_part (c.at + 1) cs else None

abbrev pub is_quote : ℕ → Bool
is_quote b = b == 39 || b == 34

abbrev pub is_wide : ℕ → Bool
is_wide b = is_one_of (codes "LuU") b

-- a literal behind a prefix that begins with a byte
abbrev pub prefixed_part : ℕ → List Cell → Option Part
prefixed_part a [] = None
prefixed_part a (c ∷ cs) =
    if is_wide a && is_quote c.byte then literal_part c.byte (c.at + 1) cs
    else if a == 117 && c.byte == 56 then u8_part cs
    else None

-- a literal behind a letter, or else a word
abbrev pub word_part : ℕ → ℕ → List Cell → Part
word_part a from cs = unwrap_or (prefixed_part a cs) (part (found.Piece Ident) (run_end is_word_byte from cs))

-- a literal behind its quote, or else a stray quote
abbrev pub quote_part : ℕ → ℕ → List Cell → Part
quote_part q from cs = unwrap_or (literal_part q from cs) (part (found.Piece Stray) from)

abbrev pub pair_end : ℕ → List Cell → Option ℕ
pair_end a [] = None
pair_end a (c ∷ cs) = if is_pair a c.byte then Some (c.at + 1) else None

abbrev pub triple_end : ℕ → List Cell → Option ℕ
triple_end a (c ∷ d ∷ cs) = if is_triple a c.byte d.byte then Some (d.at + 1) else None
triple_end a _ = None

-- `%:%:`
abbrev pub is_quad : ℕ → ℕ → ℕ → ℕ → Bool
is_quad a b c d = a == 37 && (b == 58 && (c == 37 && d == 58))

abbrev pub quad_end : ℕ → List Cell → Option ℕ
quad_end a (c ∷ d ∷ e ∷ cs) = if is_quad a c.byte d.byte e.byte then Some (e.at + 1) else None
quad_end a _ = None

abbrev pub is_single : ℕ → Bool
is_single a = is_one_of (codes "[](){}.&*+-~!/%<>^|?:;=,#") a

abbrev pub single_found : ℕ → Found
single_found a = if is_single a then found.Piece Punct else found.Piece Stray

abbrev pub or_else : Option ℕ → Option ℕ → Option ℕ
or_else None other = other
or_else (Some end) other = Some end

-- a punctuator, or else a stray byte
abbrev pub punct_part : ℕ → ℕ → List Cell → Part
punct_part a from cs =
    unwrap_or
    (option_map (part (found.Piece Punct)) (or_else (quad_end a cs) (or_else (triple_end a cs) (pair_end a cs))))
    (part (single_found a) from)

-- behind `.`
abbrev pub dot_part : ℕ → List Cell → Part
dot_part from [] = punct_part 46 from []
dot_part from (c ∷ cs) =
    if is_digit c.byte then part (found.Piece Number) (number_end c.byte (c.at + 1) cs) else punct_part 46 from (c ∷ cs)

-- behind `/*`, up to this end of the comment
abbrev pub block_part : ℕ → Option ℕ → Part
block_part from None = part found.OpenComment from
block_part from (Some end) = part found.Space end

-- behind `/`
abbrev pub slash_part : ℕ → List Cell → Part
slash_part from [] = punct_part 47 from []
slash_part from (c ∷ cs) =
    if c.byte == 42 then block_part (c.at + 1) (block_end false cs)
    else if c.byte == 47 then part found.Space (run_end is_not_line_feed (c.at + 1) cs)
    else punct_part 47 from (c ∷ cs)

-- the part that begins with a byte and goes on in the cells behind it
abbrev pub part_behind : ℕ → ℕ → List Cell → Part
part_behind a from cs =
    if is_blank_byte a then part found.Space from
    else if a == 10 then part found.LineEnd from
    else if starts_name a then word_part a from cs
    else if is_digit a then part (found.Piece Number) (number_end a from cs)
    else if a == 46 then dot_part from cs
    else if is_quote a then quote_part a from cs
    else if a == 47 then slash_part from cs
    else punct_part a from cs

-- an offset from another on, and which it is
abbrev pub IsReached : List ℕ → ℕ → ℕ → ℕ → Type 0
IsReached bytes from end at = (from ≤ at) × (at ≤ length bytes) × (at ≡ end)

abbrev pub IsReachedAt : List ℕ → ℕ → Option ℕ → Option ℕ → Type 0
IsReachedAt bytes from end None = end ≡ None
IsReachedAt bytes from end (Some at) = (from ≤ at) × (at ≤ length bytes) × (end ≡ Some at)

abbrev pub IsClosed : List ℕ → ℕ → Result ℕ ℕ → Result ℕ ℕ → Type 0
IsClosed bytes from end (Ok at) = (from ≤ at) × (at ≤ length bytes) × (end ≡ Ok at)
IsClosed bytes from end (Err at) = end ≡ Err at

-- a part that ends within the bytes
abbrev pub IsPart : List ℕ → ℕ → Part → Part → Type 0
IsPart bytes from want got = (from ≤ got.end) × (got.end ≤ length bytes) × (got ≡ want)

abbrev pub IsPartAt : List ℕ → ℕ → Option Part → Option Part → Type 0
IsPartAt bytes from want None = want ≡ None
IsPartAt bytes from want (Some got) = (from ≤ got.end) × (got.end ≤ length bytes) × (want ≡ Some got)

-- the cells that stand before an offset
abbrev pub upto : ℕ → List Cell → List Cell
upto end [] = []
upto end (c ∷ cs) = if nat_lt c.at end then c ∷ upto end cs else []

-- the cells from one offset up to another
abbrev pub own_cells : List ℕ → ℕ → ℕ → List Cell
own_cells bytes at end = upto end (rest bytes at)

-- the kind of a part that is a token, where it is whole
abbrev pub whole_kind : Bool → Found → Option PpKind
whole_kind whole (found.Piece Stray) = None
whole_kind whole (found.Piece kind) = if whole then Some kind else None
whole_kind whole _ = None
