use Rattle.cr_capture.proofs.Named.{hidden_pair}
use Rattle.cr_capture.proofs.finding.add_hidden.Goals as goal

pub returns-in_ok-push : goal.returns-in_ok-push
returns-in_ok-push c =
    hidden_pair c.args.scopes.now c.args.names.old c.args.names.new c.args.space c.args.name c.args.token c.args.denoted c.in-Some.d _ _ c.lookup_means.ensures c.requires
    (c.is_same.ensures.0 c.if-not-is_same.false)
    c.in-Some.ensures
    (c.is_visible_from.ensures.0 c.if-not-is_visible_from.false)
    c.in_ok-push.ensures.items
