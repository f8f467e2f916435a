use Rattle.std.proofs.Common.{◌≡◌, ◌≤◌, ◌+◌, length, drop, map}
use Rattle.cr_expand.specs.Held.{watch_of}
use Rattle.cr_expand.specs.Parts.{IsFilling, joins}
use Rattle.cr_expand.proofs.fill.fill.Given as goal

abbrev pub invariant-loop-i : goal.invariant-loop-i
invariant-loop-i l = record {
  room : length l.names ≤ length l.fn.names + l.i;
  joins : length l.names + joins l.parts.items ≤ length l.fn.names + l.i;
  same : (l.notes.from ≡ l.fn.notes.from) × (l.notes.to ≡ l.fn.notes.to);
  filling : IsFilling (watch_of l.fn.names l.fn.notes) l.fn.notes.seen.items l.notes.seen.items l.fn.names l.names l.sets l.name (map (λ v. v.items) l.raw) (map (λ v. v.items) l.full) l.items (drop l.i l.items) l.parts.items;
}
