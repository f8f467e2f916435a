use Rattle.std.proofs.Common.{◌≡◌, drop}
use Rattle.cr_compdb.specs.Command.{bare}
use Rattle.cr_compdb.specs.Modes.{behind, pieces_from}
use Rattle.cr_compdb.proofs.command.pieces_of.Given as goal

abbrev pub invariant-loop-byte : goal.invariant-loop-byte
invariant-loop-byte l = behind l.pieces.items (pieces_from (drop l.byte-index l.text) l.mode) ≡ bare l.text
