use Rattle.cr_capture.proofs.Asked.{asked}
use Rattle.cr_capture.proofs.finding.add_asked.Goals as goal

pub returns : goal.returns
returns c =
    asked c.args.scopes.now c.args.names.old c.args.names.new c.args.token c.args.name c.args.parameter _ _ _ _ c.in_ok-add_typedefs.ensures c.in_ok-add_uncovering.ensures c.in_ok-add_parameter.ensures
