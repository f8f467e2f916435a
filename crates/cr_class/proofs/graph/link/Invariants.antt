use Rattle.std.proofs.Common.{◌≡◌, length, map}
use Rattle.cr_class.specs.Graph.{AreLinked}
use Rattle.cr_class.proofs.graph.link.Given as goal

abbrev pub invariant-loop-i : goal.invariant-loop-i
invariant-loop-i l = (length l.links.items ≡ length l.initial.links.items) × AreLinked (map (λ v. v.items) l.initial.links.items) (map (λ v. v.items) l.links.items) l.i l.leaders
