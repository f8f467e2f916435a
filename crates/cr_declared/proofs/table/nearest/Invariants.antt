use Rattle.cr_declared.proofs.Nearest.{Reached}
use Rattle.cr_declared.proofs.table.nearest.Given as goal

abbrev pub invariant-outward : goal.invariant-outward
invariant-outward l = Reached l.paths l.here.entries l.place l.space l.name l.at

abbrev pub decreases-outward : goal.decreases-outward
decreases-outward l = l.at
