use Rattle.cr_capture.proofs.Named.{captured}
use Rattle.cr_capture.proofs.finding.add_captured.Goals as goal

pub returns : goal.returns
returns c =
    captured c.args.scopes.now c.args.names.old c.args.names.new c.args.space c.args.name c.args.token c.args.denoted _ _ _
    (c.is_same.ensures.0 c.if-not-is_same.false)
    c.depth_of-than.ensures
    c.in_ok-add_sought.ensures
