-- Our own rule for the words of a `command`, which is part of how a shell reads one.
use Rattle.std.specs.Prelude.{ℕ, ◌==◌, Bool, true, false, ◌||◌, List, [], ◌∷◌, map, filter, Option, Some, None, option_map, if◌then◌else◌}
use Rattle.std.specs.List.{filter_map, slice_split}
use Rattle.cr_compdb.specs.declared.command.Piece.{Piece}
use Rattle.cr_compdb.specs.declared.command.Piece.TheVariants as piece

-- blank, tab, line feed and carriage return part words
abbrev pub is_blank : ℕ → Bool
is_blank byte = byte == 32 || byte == 9 || byte == 10 || byte == 13

-- a byte that a backslash keeps inside double quotes: a double quote, a backslash, `$`, a backquote, a line feed
abbrev pub is_kept : ℕ → Bool
is_kept byte = byte == 34 || byte == 92 || byte == 36 || byte == 96 || byte == 10

-- a piece in front of those that follow it, where those can be read
abbrev pub then_more : Piece → Option (List Piece) → Option (List Piece)
then_more first more = option_map (λ pieces. first ∷ pieces) more

abbrev mutual
  -- the pieces of a text outside quotes
  pub bare : List ℕ → Option (List Piece)
  bare [] = Some []
  bare (byte ∷ rest) =
      if is_blank byte then then_more piece.Gap (bare rest)
      else if byte == 39 then then_more piece.Quote (single rest)
      else if byte == 34 then then_more piece.Quote (double rest)
      else if byte == 92 then escaped rest
      else then_more (piece.Byte byte) (bare rest)

  -- the pieces of what follows a backslash: it keeps the next byte
  pub escaped : List ℕ → Option (List Piece)
  escaped [] = None
  escaped (byte ∷ rest) = then_more (piece.Byte byte) (bare rest)

  -- the pieces inside single quotes, which keep every byte
  pub single : List ℕ → Option (List Piece)
  single [] = None
  single (byte ∷ rest) = if byte == 39 then bare rest else then_more (piece.Byte byte) (single rest)

  -- the pieces inside double quotes
  pub double : List ℕ → Option (List Piece)
  double [] = None
  double (byte ∷ rest) =
      if byte == 34 then bare rest
      else if byte == 92 then double_escaped rest
      else then_more (piece.Byte byte) (double rest)

  -- the pieces of what follows a backslash inside double quotes: it keeps some bytes, and else stands for itself
  pub double_escaped : List ℕ → Option (List Piece)
  double_escaped [] = None
  double_escaped (byte ∷ rest) =
      if is_kept byte then then_more (piece.Byte byte) (double rest)
      else then_more (piece.Byte 92) (then_more (piece.Byte byte) (double rest))

abbrev pub is_gap : Piece → Bool
is_gap (piece.Byte byte) = false
is_gap piece.Quote = false
is_gap piece.Gap = true

abbrev pub byte_of : Piece → Option ℕ
byte_of (piece.Byte byte) = Some byte
byte_of piece.Quote = None
byte_of piece.Gap = None

-- some piece is there
abbrev pub is_word : List Piece → Bool
is_word [] = false
is_word (first ∷ more) = true

-- the words between gaps
abbrev pub words_in : List Piece → List (List ℕ)
words_in pieces = map (filter_map byte_of) (filter is_word (slice_split is_gap pieces))

-- the words of a command, or nothing where a quote isn't closed or a backslash outside quotes ends it
unfoldable pub command_words : List ℕ → Option (List (List ℕ))
command_words text = option_map words_in (bare text)
