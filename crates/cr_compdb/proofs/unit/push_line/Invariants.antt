use Rattle.std.proofs.Common.{◌≡◌, ◌++◌, take}
use Rattle.cr_compdb.specs.Entries.{one_line}
use Rattle.cr_compdb.proofs.unit.push_line.Given as goal

abbrev pub invariant-loop-byte : goal.invariant-loop-byte
invariant-loop-byte l = l.text.items ≡ l.initial.text.items ++ one_line (take l.byte-index l.middle)
