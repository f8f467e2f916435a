use Rattle.std.proofs.Common.{List}
use Rattle.cr_ll.specs.Derivation.{Item}
use Rattle.cr_nodes.specs.Falling.{at_most}
use Rattle.cr_acting.specs.Binding.{source_by}
use Rattle.cr_sema.specs.Walking.{HasCome, IsNext}
use Rattle.cr_sema.proofs.walk.Walk.lead.Given as goal

abbrev pub invariant-nodes : goal.invariant-nodes
invariant-nodes l =
    (es : List Item) → HasCome (source_by l.words) es l.fn.self → IsNext (source_by l.words) es l.event → HasCome (source_by l.words) es l.self

abbrev pub decreases-nodes : goal.decreases-nodes
decreases-nodes l =
    at_most l.self.nodes
