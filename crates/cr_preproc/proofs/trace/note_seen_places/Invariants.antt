use Rattle.std.proofs.Common.{◌≡◌, ◌++◌, map, drop}
use Rattle.cr_preproc.proofs.trace.note_seen_places.Given as goal

abbrev pub invariant-loop-s : goal.invariant-loop-s
invariant-loop-s l = l.places.items ++ map (λ s. s.place) (drop l.s-index l.seen) ≡ l.fn.places.items ++ map (λ s. s.place) l.seen
