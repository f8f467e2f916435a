use Rattle.cr_groups.specs.Nearest.{IsFoundAt}
use Rattle.cr_groups.proofs.Inward.{Passed}
use Rattle.cr_groups.proofs.innermost.outermost.Given as goal

abbrev pub invariant-outward : goal.invariant-outward
invariant-outward l = Passed l.paths l.sought.path (IsFoundAt l.groups.entries l.sought l.before l.sort) l.at l.best

abbrev pub decreases-outward : goal.decreases-outward
decreases-outward l = l.at
