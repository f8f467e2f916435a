use Rattle.cr_run.specs.Table.{RisesIn}
use Rattle.cr_run.proofs.Tables.{table_more}
use Rattle.cr_run.proofs.survey.Survey.add.Goals as goal

pub returns-clause-placed : goal.returns-clause-placed
returns-clause-placed c old key next one table =
    table_more c.facts_are_ordered.ensures (RisesIn old) key c.args.self.now (record { files = c.insert.new.self; last = c.args.number; facts = c.union.new.self; total = c.saturating_add-total.result })
    c.args.path c.args.found table one c.in_ok-insert.ensures.entries next c.in_ok-union.ensures.ok
