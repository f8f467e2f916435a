use Rattle.std.proofs.Common.{◌≡◌, ◌++◌}
use Rattle.cr_typing.proofs.record_members.RecordMembers.named.Given as goal

abbrev pub invariant-loop-name : goal.invariant-loop-name
invariant-loop-name l = l.named.items ++ l.name-iterator ≡ l.self.named
