use Rattle.std.proofs.Common.{arith, ◌∙◌, sym, refl}
use Rattle.cr_lex.proofs.Cells.{rest_byte, rest_join, rest_end, join_within}
use Rattle.cr_lex.proofs.cell.byte_from.Goals as goal

pub loop-at-preserved : goal.loop-at-preserved
loop-at-preserved c =
    let fits = join_within c.args.bytes.now c.loop-at.at c.join_len-joined.result c.loop-at-test.true c.join_len-joined.ensures in
    let same = rest_join c.args.bytes.now c.loop-at.at c.join_len-joined.result c.loop-at-test.true c.join_len-joined.ensures c.if-joined-eq0.false fits in
    record { within = fits; from = omega arith; same = c.loop-at.invariant.same ∙ sym same }

pub returns-then-joined-eq0 : goal.returns-then-joined-eq0
returns-then-joined-eq0 c =
    let cell = rest_byte c.args.bytes.now c.loop-at.at c.loop-at-test.true (sym c.join_len-joined.ensures ∙ c.if-joined-eq0.true) in
    (c.loop-at.invariant.from, record { within = c.loop-at-test.true; byte = refl; cell = cell }, c.loop-at.invariant.same)

pub returns : goal.returns
returns c = c.loop-at.invariant.same ∙ rest_end c.args.bytes.now c.loop-at.at (omega arith)
