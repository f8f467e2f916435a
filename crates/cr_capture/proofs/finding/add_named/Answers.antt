use Rattle.cr_capture.proofs.Named.{named}
use Rattle.cr_capture.proofs.finding.add_named.Goals as goal

pub returns : goal.returns
returns c =
    named c.args.scopes.now c.args.names.old c.args.names.new c.args.space c.args.name c.args.token c.args.denoted _ _ _ c.in_ok-add_captured.ensures c.in_ok-add_hidden.ensures
