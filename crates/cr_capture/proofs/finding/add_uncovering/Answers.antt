use Rattle.cr_capture.proofs.Asked.{uncovering}
use Rattle.cr_capture.proofs.finding.add_uncovering.Goals as goal

pub returns-in_ok-add_sought : goal.returns-in_ok-add_sought
returns-in_ok-add_sought c =
    uncovering c.args.scopes.now c.args.old c.args.old c.args.token c.args.name c.in-Some.than _ _
    (c.is_same.ensures.0 c.if-not-is_same.false)
    c.in-Some.ensures
    c.in_ok-add_sought.ensures
