use Rattle.std.proofs.Common.{◌≡◌, ◌∙◌, sym, true, false}
use Rattle.std.specs.List.{list_all}
use Rattle.cr_lex.specs.Scanning.{is_not_line_feed}
use Rattle.cr_lex.proofs.Lines.{lined}
use Rattle.cr_lex.proofs.Spots.{nothing_known}
use Rattle.cr_lex.proofs.Whole.{whole_is, empty_is}
use Rattle.cr_lex.proofs.kind.token_kind.Goals as goal

pub returns-then-not-is_one_line : goal.returns-then-not-is_one_line
returns-then-not-is_one_line c = let h : list_all is_not_line_feed c.args.text.now ≡ false = sym c.is_one_line.ensures ∙ c.if-not-is_one_line.true in sym (lined c.args.text.now h)

pub part_at-part-requires-clause-marks : goal.part_at-part-requires-clause-marks
part_at-part-requires-clause-marks c = nothing_known c.args.text.now c.in-Some.first.at c.no_marks-marks.result c.no_marks-marks.ensures

pub returns-in-Some : goal.returns-in-Some
returns-in-Some c =
    let h : list_all is_not_line_feed c.args.text.now ≡ true = sym c.is_one_line.ensures ∙ c.if-not-is_one_line.false in
    c.whole_kind.ensures ∙ whole_is c.args.text.now c.in-Some.first c.part_at-part.result h c.in-Some.ensures.1 c.in-Some.ensures.2 c.part_at-part.ensures.part.2

pub returns-in-None : goal.returns-in-None
returns-in-None c =
    let h : list_all is_not_line_feed c.args.text.now ≡ true = sym c.is_one_line.ensures ∙ c.if-not-is_one_line.false in
    empty_is c.args.text.now h c.in-None.ensures
