use Rattle.std.proofs.Common.{◌≡◌, ◌++◌}
use Rattle.std.specs.List.{filter_map}
use Rattle.cr_class.specs.Verdict.{macro_place}
use Rattle.cr_class.proofs.places.macro_places.Given as goal

abbrev pub invariant-loop-fact : goal.invariant-loop-fact
invariant-loop-fact l = l.places.items ++ filter_map macro_place l.fact-iterator ≡ filter_map macro_place l.initial.fact-iterator
