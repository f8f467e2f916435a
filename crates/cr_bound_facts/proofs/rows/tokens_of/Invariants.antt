use Rattle.std.proofs.Common.{◌≡◌, ◌≤◌, ◌-◌, length, take}
use Rattle.cr_bound_facts.specs.Bound.{record_tokens}
use Rattle.cr_bound_facts.proofs.rows.tokens_of.Given as goal

abbrev pub invariant-each : goal.invariant-each
invariant-each l = (l.n ≤ length l.records) × (l.tokens.items ≡ take l.n (record_tokens l.records))

abbrev pub decreases-each : goal.decreases-each
decreases-each l = length l.records - l.n
