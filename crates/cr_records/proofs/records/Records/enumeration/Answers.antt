use Rattle.std.proofs.Common.{subst}
use Rattle.cr_records.specs.Kept.{IsKept}
use Rattle.cr_records.proofs.Announcing.{made_records}
use Rattle.cr_records.proofs.Growing.{records_stay}
use Rattle.cr_records.proofs.records.Records.enumeration.Goals as goal

pub returns-clause-same : goal.returns-clause-same
returns-clause-same c =
    (records_stay c.args.types.now c.make.new.self c.args.self.now c.in_ok-n.ensures.keeps (made_records _ _ _ c.in_ok-n.ensures.ok) (subst IsKept c.self.view_is c.self.invariant.0) c.requires.of).1
