use Rattle.std.proofs.Common.{◌≡◌, ◌≤◌, ◌-◌, length, take}
use Rattle.cr_types.specs.Types.{Table}
use Rattle.cr_bound_facts.specs.Bound.{member_rows}
use Rattle.cr_bound_facts.proofs.rows.members_of.Given as goal

abbrev pub invariant-each : goal.invariant-each
invariant-each l = (l.n ≤ length l.records.selectors) × ((t : Table) → l.rows.items ≡ take l.n (member_rows t l.records))

abbrev pub decreases-each : goal.decreases-each
decreases-each l = length l.records.selectors - l.n
