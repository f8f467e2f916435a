use Rattle.cr_groups.specs.Nearest.{IsFoundAt}
use Rattle.cr_groups.proofs.Inward.{Left}
use Rattle.cr_groups.proofs.innermost.nearest.Given as goal

abbrev pub invariant-outward : goal.invariant-outward
invariant-outward l = Left l.paths l.sought.path (IsFoundAt l.groups.entries l.sought l.before l.sort) l.at

abbrev pub decreases-outward : goal.decreases-outward
decreases-outward l = l.at
