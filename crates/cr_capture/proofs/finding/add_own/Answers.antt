use Rattle.cr_capture.proofs.Declared.{own}
use Rattle.cr_capture.proofs.finding.add_own.Goals as goal

pub returns : goal.returns
returns c =
    own c.args.scopes.now c.args.names.old c.args.names.new c.args.c _ c.get.ensures _ _
    (c.is_same.ensures.0 c.if-not-is_same.false)
    c.in_ok-add_beside.ensures
