use Rattle.std.proofs.Common.{◌≡◌, ◌≤◌, ◌+◌, length, drop}
use Rattle.cr_expand.specs.Held.{watch_of}
use Rattle.cr_expand.specs.Pasting.{IsPasting, pending}
use Rattle.cr_expand.specs.Parts.{joins}
use Rattle.cr_expand.proofs.pasting.paste_all.Given as goal

abbrev pub invariant-loop-i : goal.invariant-loop-i
invariant-loop-i l = record {
  room : length l.names + pending l.state.pasting + joins (drop l.i l.parts) ≤ length l.fn.names + joins l.parts;
  same : (l.notes.from ≡ l.fn.notes.from) × (l.notes.to ≡ l.fn.notes.to);
  pasting : IsPasting (watch_of l.fn.names l.fn.notes) l.fn.notes.seen.items l.notes.seen.items l.fn.names l.names l.fn.sets l.sets l.name l.parts (drop l.i l.parts) l.state;
}
