use Rattle.std.proofs.Common.{◌≡◌}
use Rattle.cr_facts.proofs.Members.{added, IsWithin}
use Rattle.cr_facts.proofs.fact_set.FactSet.insert_all.Given as goal

abbrev pub invariant-loop-fact : goal.invariant-loop-fact
invariant-loop-fact l = (added l.self l.fact-iterator ≡ added l.initial.self l.initial.fact-iterator) × IsWithin l.initial.self l.self
