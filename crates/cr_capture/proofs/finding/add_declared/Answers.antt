use Rattle.cr_capture.proofs.Declared.{declared}
use Rattle.cr_capture.proofs.finding.add_declared.Goals as goal

pub returns : goal.returns
returns c =
    declared c.args.scopes.now c.args.names.old c.args.names.new c.args.d _ _ _ _ c.in_ok-add_own.ensures c.in_ok-add_others.ensures c.in_ok-add_linked.ensures
