use Rattle.std.proofs.Common.{◌≡◌, ◌++◌}
use Rattle.std.specs.List.{filter_map}
use Rattle.cr_class.specs.Declarations.{key_shown_at}
use Rattle.cr_class.proofs.target.keys_at.Given as goal

abbrev pub invariant-loop-fact : goal.invariant-loop-fact
invariant-loop-fact l = l.keys.items ++ filter_map (key_shown_at l.snapshot l.facts l.first) l.fact-iterator ≡ filter_map (key_shown_at l.snapshot l.facts l.first) l.initial.fact-iterator
