use Rattle.std.proofs.Common.{refl, sym, inr}
use Rattle.cr_class.proofs.graph.first_of.Goals as goal

pub returns-in_ok-insert-in-None : goal.returns-in_ok-insert-in-None
returns-in_ok-insert-in-None g c = inr (sym c.in-None.ensures.value, refl, λ q. c.in_ok-insert-in-None.ensures.updates.0 (record c.args.item { now = q }))
