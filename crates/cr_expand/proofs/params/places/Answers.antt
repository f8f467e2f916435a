use Rattle.indexmap.specs.IndexMap.{get}
use Rattle.std.proofs.Common.{◌==◌}
use Rattle.cr_expand.proofs.Numbers.{number_step}
use Rattle.cr_expand.proofs.params.places.Goals as goal

pub loop-i-preserved : goal.loop-i-preserved
loop-i-preserved c =
    λ other. number_step c.args.names.now c.loop-i.i _ other (get (λ a b. a.0 == b.0) c.loop-i.places other) _ c.loop-i-test.true (c.loop-i.invariant other) (c.in_ok-put.ensures other)
