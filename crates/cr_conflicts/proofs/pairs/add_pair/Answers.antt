use Rattle.std.proofs.Common.{arith}
use Rattle.cr_conflicts.specs.Pairs.{find_least}
use Rattle.cr_conflicts.proofs.Beside.{no_pair, low_pair, one_pair}
use Rattle.cr_conflicts.proofs.pairs.add_pair.Goals as goal

pub returns-in_default : goal.returns-in_default
returns-in_default c = no_pair c.args.names.old c.args.names.new c.args.tokens.now c.args.groups.now.entries (find_least c.args.leasts.now.entries) c.args.row _ c.beside.ensures _ c.in_default.is

pub returns-then-row-least : goal.returns-then-row-least
returns-then-row-least c = low_pair c.args.names.old c.args.names.new c.args.tokens.now c.args.groups.now.entries (find_least c.args.leasts.now.entries) c.args.row _ c.beside.ensures _ _ c.in-Some.is c.if-row-least.true

pub returns : goal.returns
returns c =
    one_pair c.args.names.old c.args.names.new c.args.tokens.now c.args.groups.now.entries (find_least c.args.leasts.now.entries) c.args.row _ c.beside.ensures _ _ _ _ _ c.in-Some.is (omega (arith, c.if-row-least.false)) c.slot_as.ensures c.place_in-site.ensures c.in_ok-add_at.ensures
