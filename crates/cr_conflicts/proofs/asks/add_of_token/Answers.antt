use Rattle.std.proofs.Common.{sym, ◌∙◌}
use Rattle.cr_conflicts.proofs.Tokened.{no_token, of_token}
use Rattle.cr_conflicts.proofs.asks.add_of_token.Goals as goal

pub returns-in_default : goal.returns-in_default
returns-in_default c =
    no_token c.args.rows.now c.args.groups.now.entries c.args.names.old c.args.declared.now.entries c.args.token c.args.site _ c.requires.declared c.first_at.ensures _ c.in_default.is

pub returns : goal.returns
returns c =
    of_token c.args.rows.now c.args.groups.now.entries c.args.names.old c.args.declared.now.entries c.args.token c.args.site _ c.requires.declared c.first_at.ensures _ _ c.in-Some.n _ _
    c.in-Some.is (sym c.row_at.ensures ∙ c.in-Some-row_at.is) c.slot_as.ensures c.in_ok-add_at.ensures
