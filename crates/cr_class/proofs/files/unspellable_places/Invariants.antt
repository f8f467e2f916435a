use Rattle.std.proofs.Common.{◌≡◌, take}
use Rattle.std.specs.List.{filter}
use Rattle.cr_class.specs.Verdict.{is_unspellable_at, bytes_of}
use Rattle.cr_class.proofs.files.unspellable_places.Given as goal

abbrev pub invariant-loop-place : goal.invariant-loop-place
invariant-loop-place l = l.found.items ≡ filter (λ p. is_unspellable_at l.old l.new (bytes_of l.snapshot p) p.offset) (take l.place-index l.places)
