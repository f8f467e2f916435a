use Rattle.std.proofs.Common.{subst}
use Rattle.cr_groups.specs.Rows.{source_of}
use Rattle.cr_groups.specs.Adding.{Adds}
use Rattle.cr_unit_facts.specs.Whole.{RowsTell}
use Rattle.cr_unit_facts.proofs.AllTold.{facts_told}
use Rattle.cr_unit_facts.proofs.facts.facts_of_unit.Goals as goal

pub returns : goal.returns
returns c =
    facts_told c.args.unit (source_of c.args.table.now c.args.tokens.now) c.args.names.old c.args.names.new c.args.paths.now c.args.rows.now c.args.uses.now c.args.members.now c.args.records.now c.args.hidden.now c.in_ok-tables.tables _ _
    c.requires.kept c.requires.apart c.requires.formed c.requires.sound c.in_ok-tables.ensures
    (subst (λ z. Adds z c.add_identifiers.new.facts (RowsTell c.args.unit c.args.table.now c.args.tokens.now c.args.rows.now c.args.uses.now c.args.members.now c.args.records.now c.args.names.old c.args.names.new c.in_ok-tables.tables)) c.new-facts.ensures c.in_ok-add_identifiers.ensures)
    c.in_ok-add_conflicts.ensures
