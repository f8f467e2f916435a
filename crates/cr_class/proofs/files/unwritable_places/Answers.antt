use Rattle.std.specs.Option.{option_map}
use Rattle.cr_class.specs.ShownOrder.{path_of}
use Rattle.cr_class.specs.Verdict.{is_unwritable_path}
use Rattle.cr_class.proofs.Given.{filtered_all}
use Rattle.cr_class.proofs.files.unwritable_places.Goals as goal

pub returns : goal.returns
returns c = filtered_all (λ p. is_unwritable_path (option_map (λ r. r.now) c.args.root) (path_of c.args.snapshot.now p)) c.args.places.now c.loop-place.found.items c.loop-place.place-index c.loop-place-test.false c.loop-place.invariant
