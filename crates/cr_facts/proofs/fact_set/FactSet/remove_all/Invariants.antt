use Rattle.std.proofs.Common.{◌≡◌}
use Rattle.cr_facts.proofs.Members.{removed}
use Rattle.cr_facts.proofs.fact_set.FactSet.remove_all.Given as goal

abbrev pub invariant-loop-fact : goal.invariant-loop-fact
invariant-loop-fact l = removed l.self l.fact-iterator ≡ removed l.initial.self l.initial.fact-iterator
