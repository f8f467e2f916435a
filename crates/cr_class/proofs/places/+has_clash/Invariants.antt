use Rattle.std.proofs.Common.{length}
use Rattle.cr_class.proofs.places.+has_clash.Given as goal

abbrev pub decreases-has_clash : goal.decreases-has_clash
decreases-has_clash l = length l.keys.now
