use Rattle.std.proofs.Common.{◌≡◌, drop}
use Rattle.cr_typing.specs.Members.{redeclared}
use Rattle.cr_typing.proofs.record_members.RecordMembers.redeclared.Given as goal

abbrev pub invariant-loop-i : goal.invariant-loop-i
invariant-loop-i l = l.least ≡ redeclared l.self (drop l.i l.more)
