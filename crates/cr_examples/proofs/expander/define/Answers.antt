use Rattle.std.proofs.Common.{◌≤◌, sym, subst, length, arith}
use Rattle.std.specs.List.{All}
use Rattle.cr_expand.specs.Items.{IsTokenNamed}
use Rattle.cr_examples.proofs.expander.define.Goals as goal

pub returns-in-Ok-clause-macros : goal.returns-in-Ok-clause-macros
returns-in-Ok-clause-macros c =
    c.defined_macros_are_known.ensures.defined c.words.new.names c.deref.result.now c.args.macros.now c.define.new.self
    (c.defined_macros_are_known.ensures.later c.args.names.now c.words.new.names c.args.macros.now c.in_ok-line.ensures.grows c.requires.macros)
    (subst (All (IsTokenNamed c.words.new.names)) (sym c.deref.ensures.value) c.in_ok-line.ensures.named)
    (subst (λ l. length l ≤ 33554432) (sym c.deref.ensures.value) (omega (arith, c.in_ok-line.ensures.short)))
    c.in-Ok.ensures.defines
