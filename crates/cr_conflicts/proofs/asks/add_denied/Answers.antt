use Rattle.std.proofs.Common.{refl, sym, true≢false}
use Rattle.std.specs.Prelude.{IsTrue}
use Rattle.cr_conflicts.proofs.Tokened.{not_old, is_old}
use Rattle.cr_conflicts.proofs.asks.add_denied.Goals as goal

pub returns-then-not-is_same : goal.returns-then-not-is_same
returns-then-not-is_same c =
    not_old c.args.tokens.now c.args.paths.now c.args.rows.now c.args.groups.now.entries c.args.names.old c.args.names.new c.args.asked.token c.args.asked.path c.args.asked.before (IsTrue c.args.parameter) _ _
    c.name_in-name.ensures c.place_in-site.ensures _ _ (λ e. true≢false (sym (c.if-not-is_same.ensures.1 e))) c.in_ok-add_if_new.ensures

pub returns : goal.returns
returns c =
    is_old c.args.tokens.now c.args.paths.now c.args.rows.now c.args.groups.now.entries c.args.names.old c.args.names.new c.args.asked.token c.args.asked.path c.args.asked.before (IsTrue c.args.parameter) _ _
    c.name_in-name.ensures c.place_in-site.ensures _ _ _ (c.if-not-is_same.ensures.0 refl) c.in_ok-add_if_new.ensures c.in_ok-add_of_old.ensures
