use Rattle.std.proofs.Common.{◌≡◌, ◌++◌}
use Rattle.std.specs.List.{filter_map}
use Rattle.std.specs.BTreeSet as tree
use Rattle.cr_class.specs.RenameClass.{key_cmp, place_cmp}
use Rattle.cr_class.specs.Verdict.{capture_place}
use Rattle.cr_class.proofs.places.capture_places.Given as goal

abbrev pub invariant-loop-fact : goal.invariant-loop-fact
invariant-loop-fact l = l.places.items ++ filter_map (capture_place (tree.contains key_cmp l.members.keys) (tree.contains place_cmp l.members.places)) l.fact-iterator ≡ filter_map (capture_place (tree.contains key_cmp l.members.keys) (tree.contains place_cmp l.members.places)) l.initial.fact-iterator
