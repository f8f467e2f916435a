use Rattle.cr_groups.specs.Outward.{IsHere, beside}
use Rattle.cr_groups.proofs.Around.{Reached}
use Rattle.cr_groups.proofs.outward.add_outward.Given as goal

abbrev pub invariant-outward : goal.invariant-outward
invariant-outward l = Reached l.paths l.sought.path l.limit (λ q. IsHere l.groups.entries (beside q l.sought) l.before l.sort l.site) l.initial.facts l.facts l.at l.deep

abbrev pub decreases-outward : goal.decreases-outward
decreases-outward l = l.at
