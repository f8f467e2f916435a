use Rattle.std.proofs.Common.{◌≡◌}
use Rattle.std.specs.FinSet.{empty}
use Rattle.cr_facts.proofs.Members.{fresh}
use Rattle.cr_facts.proofs.fact_set.FactSet.missing.Given as goal

abbrev pub invariant-loop-fact : goal.invariant-loop-fact
invariant-loop-fact l = fresh l.self l.missing l.fact-iterator ≡ fresh l.self empty l.initial.fact-iterator
