use Rattle.std.proofs.Common.{subst, sym}
use Rattle.cr_records.specs.Kept.{IsOf}
use Rattle.cr_records.proofs.records.Records.complete.Goals as goal

pub returns-clause-of : goal.returns-clause-of
returns-clause-of c = λ t of.
    let before = subst (IsOf t) (sym c.self.view_is) of in
    record { held = before.held; unions = before.unions }
