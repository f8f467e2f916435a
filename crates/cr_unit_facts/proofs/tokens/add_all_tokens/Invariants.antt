use Rattle.std.proofs.Common.{◌≤◌, ◌-◌, length}
use Rattle.cr_groups.specs.Adding.{Adds}
use Rattle.cr_unit_facts.specs.Telling.{is_noted, TokensTell}
use Rattle.cr_unit_facts.proofs.tokens.add_all_tokens.Given as goal

abbrev pub invariant-each : goal.invariant-each
invariant-each l = (l.i ≤ length l.tokens) × Adds l.initial.facts l.facts (TokensTell l.tokens l.names.old l.names.new (is_noted l.hidden.entries) l.i)

abbrev pub decreases-each : goal.decreases-each
decreases-each l = length l.tokens - l.i
