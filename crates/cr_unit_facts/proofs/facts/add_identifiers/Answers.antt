use Rattle.cr_groups.specs.Rows.{source_of}
use Rattle.cr_unit_facts.proofs.AllTold.{rows_tell}
use Rattle.cr_unit_facts.proofs.facts.add_identifiers.Goals as goal

pub returns : goal.returns
returns c =
    rows_tell c.args.unit (source_of c.args.table.now c.args.tokens.now) c.args.names.old c.args.names.new c.args.paths.now c.args.rows.now c.args.uses.now c.args.members.now c.args.records.now c.args.hidden.now c.args.tables.now _ _ _ _ _
    c.in_ok-add_all_declared.ensures c.in_ok-add_all_members.ensures c.in_ok-add_all_uses.ensures c.in_ok-add_all_tokens.ensures
