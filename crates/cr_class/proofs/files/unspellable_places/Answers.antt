use Rattle.cr_class.specs.Verdict.{is_unspellable_at, bytes_of}
use Rattle.cr_class.proofs.Given.{filtered_all}
use Rattle.cr_class.proofs.files.unspellable_places.Goals as goal

pub returns : goal.returns
returns c = filtered_all (λ p. is_unspellable_at c.args.old.now c.args.new.now (bytes_of c.args.snapshot.now p) p.offset) c.args.places.now c.loop-place.found.items c.loop-place.place-index c.loop-place-test.false c.loop-place.invariant
