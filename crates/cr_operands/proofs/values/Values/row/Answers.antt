use Rattle.std.proofs.Common.{◌≡◌, ◌-◌, ◌≤◌, length, reverse, subst, sym, Some, ap, ◌∙◌, arith}
use Rattle.std.proofs.lemmas.List.{length-reverse}
use Rattle.cr_operands.specs.Kept.{chain, IsBelow}
use Rattle.cr_operands.proofs.Marks.{none_below, row_at}
use Rattle.cr_operands.proofs.values.Values.row.Goals as goal

pub returns-then-mark-eq0 : goal.returns-then-mark-eq0
returns-then-mark-eq0 c = ap (λ n. chain n c.args.self.now.rows) (omega (arith, c.if-mark-eq0.true)) ∙ none_below c.args.self.now.rows

pub returns-else-mark-eq0 : goal.returns-else-mark-eq0
returns-else-mark-eq0 c =
    let within : c.args.mark ≤ length (reverse c.self.inside.rows.items) = subst (λ v. c.args.mark ≤ length v.rows) (sym c.self.view_is) c.requires in
    let count : length (reverse c.self.inside.rows.items) ≡ length c.self.inside.rows.items = length-reverse c.self.inside.rows.items in
    let some : 1 ≤ c.args.mark = omega (arith, c.if-mark-eq0.false) in
    subst (λ v. IsBelow v c.args.mark (Some c.index.result.now)) c.self.view_is
    (row_at c.self.inside.rows.items c.args.mark (c.args.mark - 1) c.index.result.now c.self.invariant.0 (omega (arith, some)) (omega (arith, within, count, some)) c.index.ensures)
