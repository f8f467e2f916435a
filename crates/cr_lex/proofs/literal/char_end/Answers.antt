use Rattle.std.proofs.Common.{sym, subst, ◌+◌}
use Rattle.cr_lex.specs.Scanning.{cell_of, Unclosed}
use Rattle.cr_lex.specs.Joins.{rest}
use Rattle.cr_lex.proofs.Marks.{unclosed_here, rest_rises}
use Rattle.cr_lex.proofs.literal.char_end.Goals as goal

pub returns-in-Err-clause-marks : goal.returns-in-Err-clause-marks
returns-in-Err-clause-marks c =
    let bytes = c.args.bytes.now in
    let at = c.args.quote.at in
    let here = unclosed_here 39 c.in-Err.stop (cell_of bytes at) (rest bytes (at + 1)) (rest_rises bytes (at + 1)) c.in-Err.ensures in
    record { char = subst (Unclosed 39 c.in-Err.stop) (sym c.requires.quote.cell) here; string = c.requires.marks.string }
