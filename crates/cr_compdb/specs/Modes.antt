-- What the bytes of a command that are still to come give, by where the next one stands.
use Rattle.std.specs.Prelude.{ℕ, ◌≡◌, List, ◌∷◌, ◌++◌, Option, option_map}
use Rattle.cr_compdb.specs.declared.command.Piece.{Piece}
use Rattle.cr_compdb.specs.declared.command.Mode.{Mode}
use Rattle.cr_compdb.specs.declared.command.Mode.TheVariants as mode
use Rattle.cr_compdb.specs.Command.{bare, escaped, single, double, double_escaped}

-- the pieces of a rest
abbrev pub pieces_from : List ℕ → Mode → Option (List Piece)
pieces_from rest mode.Bare = bare rest
pieces_from rest mode.Escaped = escaped rest
pieces_from rest mode.Single = single rest
pieces_from rest mode.Double = double rest
pieces_from rest mode.DoubleEscaped = double_escaped rest

-- the pieces that were found, and those of the rest
abbrev pub behind : List Piece → Option (List Piece) → Option (List Piece)
behind found more = option_map (λ pieces. found ++ pieces) more

-- One more byte was taken: found pieces and rest give together what they gave.
abbrev pub Goes : Mode → ℕ → Mode → List Piece → List Piece → Type 0
Goes mode byte next old new = (rest : List ℕ) → behind old (pieces_from (byte ∷ rest) mode) ≡ behind new (pieces_from rest next)
