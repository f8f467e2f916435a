use Rattle.std.proofs.Common.{◌≡◌}
use Rattle.cr_expand.proofs.hide_sets.HideSets.lead.Given as goal

abbrev pub invariant-loop-i : goal.invariant-loop-i
invariant-loop-i l = l.self ≡ l.initial.self
