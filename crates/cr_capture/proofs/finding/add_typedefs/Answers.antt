use Rattle.cr_capture.proofs.Asked.{typedefs}
use Rattle.cr_capture.proofs.finding.add_typedefs.Goals as goal

pub returns : goal.returns
returns c =
    typedefs c.args.scopes.now c.args.names.old c.args.names.new c.args.token c.args.name c.args.parameter c.innermost-than.result _ _
    (c.is_read_anew.ensures.0 c.if-not-is_read_anew.false)
    c.innermost-than.ensures
    c.in_ok-add_sought.ensures
