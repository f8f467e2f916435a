use Rattle.std.proofs.Common.{◌+◌, ◌∙◌, ap}
use Rattle.cr_lex.specs.Lexing.{cut}
use Rattle.cr_lex.specs.Joins.{rest}
use Rattle.cr_lex.specs.Standing.{left_at, before}
use Rattle.cr_lex.proofs.First.{found_next, own_ends, marks_behind}
use Rattle.cr_lex.proofs.Found.{found_is_first}
use Rattle.cr_lex.proofs.spot.next_part.Goals as goal

pub returns-clause-gives : goal.returns-clause-gives
unfolding left_at
returns-clause-gives c =
    let bytes = c.args.bytes.now in
    let at = c.args.first.at in
    let f = found_is_first _ _ (at + 1) (rest bytes (at + 1)) c.part_at-part.result c.requires.first.byte c.part_at-part.ensures.part.2 in
    ap (λ r. cut (before c.args.spot) 0 r) c.requires.same
    ∙ found_next bytes (before c.args.spot) at c.requires.first.cell f.0 _ _ f.1 f.2

pub returns-clause-ends : goal.returns-clause-ends
returns-clause-ends c =
    let bytes = c.args.bytes.now in
    let at = c.args.first.at in
    let f = found_is_first _ _ (at + 1) (rest bytes (at + 1)) c.part_at-part.result c.requires.first.byte c.part_at-part.ensures.part.2 in
    own_ends bytes (before c.args.spot) at c.requires.first.cell f.0 _ f.1

pub returns-clause-marks : goal.returns-clause-marks
returns-clause-marks c =
    let bytes = c.args.bytes.now in
    let at = c.args.first.at in
    let f = found_is_first _ _ (at + 1) (rest bytes (at + 1)) c.part_at-part.result c.requires.first.byte c.part_at-part.ensures.part.2 in
    marks_behind bytes f.0 (at + 1) _ _ f.1 c.part_at-part.ensures.marks
