use Rattle.std.proofs.Common.{◌≡◌, ◌++◌}
use Rattle.std.specs.List.{filter_map}
use Rattle.cr_class.specs.Declarations.{denoted_key}
use Rattle.cr_class.proofs.target.denoted_keys.Given as goal

abbrev pub invariant-loop-fact : goal.invariant-loop-fact
invariant-loop-fact l = l.keys.items ++ filter_map (denoted_key l.facts l.place) l.fact-iterator ≡ filter_map (denoted_key l.facts l.place) l.initial.fact-iterator
