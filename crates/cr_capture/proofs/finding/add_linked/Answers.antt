use Rattle.cr_capture.proofs.Declared.{both_linked}
use Rattle.cr_capture.proofs.finding.add_linked.Goals as goal

pub returns : goal.returns
returns c =
    both_linked c.args.scopes.now c.args.names.old c.args.names.new c.args.c _ _
    (c.is_linked_as.ensures.0 c.if-not-is_linked_as.false)
    c.in_ok-add_first_linked.ensures
