use Rattle.cr_bound.proofs.Membering.{record_ended}
use Rattle.cr_bound.proofs.bound.Bound.end_record.Goals as goal

pub returns-clause-ok : goal.returns-clause-ok
returns-clause-ok c = record_ended c.args.self.now _ _ c.in-Some.is c.in_ok-end_record.ensures.ok (λ source h. c.in_ok-end_record.ensures.spelled source tt h)
