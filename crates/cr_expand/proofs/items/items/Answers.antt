use Rattle.std.proofs.Common.{arith, ◌++◌, sym, ap, ◌∙◌}
use Rattle.cr_macros.specs.MacroTables.{macro_text}
use Rattle.cr_expand.specs.Items.{item_texts}
use Rattle.cr_expand.proofs.Bodies.{items_skip}
use Rattle.cr_expand.proofs.items.items.Goals as goal

pub loop-i-preserved-then-skip-gt0 : goal.loop-i-preserved-then-skip-gt0
loop-i-preserved-then-skip-gt0 c = record {
  count = omega (arith, c.loop-i.invariant.count);
  named = c.loop-i.invariant.named;
  items =
      ap (λ l. item_texts c.args.names.now c.loop-i.items.items ++ l) (sym (items_skip c.args.names.now (macro_text c.args.names.now c.args.m.now) c.loop-i.beside c.loop-i.skip c.items-body.result.now c.loop-i.i c.if-skip-gt0.true c.loop-i-test.true))
      ∙ c.loop-i.invariant.items;
}
