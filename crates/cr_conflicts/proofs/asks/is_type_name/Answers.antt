use Rattle.std.specs.Prelude.{IsTrue}
use Rattle.cr_conflicts.proofs.Tokened.{type_name}
use Rattle.cr_conflicts.proofs.asks.is_type_name.Goals as goal

pub returns-in-Some : goal.returns-in-Some
returns-in-Some c =
    type_name c.args.paths.now c.args.groups.now.entries c.args.name c.args.asked.path c.args.asked.before c.requires.distinct (IsTrue c.is_of_typedef.result) _ _ _
    c.ordinary.ensures c.ordinary-in-Some.ensures c.in-Some.ensures c.is_of_typedef.ensures
