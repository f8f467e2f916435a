use Rattle.std.proofs.Common.{◌≡◌, take}
use Rattle.std.specs.List.{filter}
use Rattle.std.specs.Option.{option_map}
use Rattle.cr_class.specs.ShownOrder.{path_of}
use Rattle.cr_class.specs.Verdict.{is_unwritable_path}
use Rattle.cr_class.proofs.files.unwritable_places.Given as goal

abbrev pub invariant-loop-place : goal.invariant-loop-place
invariant-loop-place l = l.found.items ≡ filter (λ p. is_unwritable_path (option_map (λ r. r.now) l.root) (path_of l.snapshot p)) (take l.place-index l.places)
