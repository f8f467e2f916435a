use Rattle.std.proofs.Common.{◌≡◌, ◌+◌, ◌≤◌, ◌++◌, length, take, drop}
use Rattle.indexmap.specs.IndexMap.{spare}
use Rattle.cr_typing.specs.Kept.{AreNew}
use Rattle.cr_typing.proofs.record_members.put_names.Given as goal

abbrev pub invariant-loop-i : goal.invariant-loop-i
invariant-loop-i l = record {
  entries : l.names.entries ≡ l.fn.names.entries ++ take l.i l.more;
  room : length l.more ≤ l.i + spare l.names;
  absent : AreNew l.names.entries (drop l.i l.more);
}
