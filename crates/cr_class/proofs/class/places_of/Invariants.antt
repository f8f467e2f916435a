use Rattle.std.proofs.Common.{◌≡◌, ◌++◌}
use Rattle.std.specs.List.{filter_map}
use Rattle.std.specs.BTreeSet as tree
use Rattle.cr_class.specs.RenameClass.{key_cmp}
use Rattle.cr_class.specs.Declarations.{known_place}
use Rattle.cr_class.proofs.class.places_of.Given as goal

abbrev pub invariant-loop-fact : goal.invariant-loop-fact
invariant-loop-fact l =
    l.places.items ++ filter_map (known_place (tree.contains key_cmp l.keys)) l.fact-iterator ≡ filter_map (known_place (tree.contains key_cmp l.keys)) l.initial.fact-iterator
