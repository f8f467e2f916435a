use Rattle.std.proofs.Common.{◌≡◌, ◌++◌, drop, length}
use Rattle.cr_base.specs.Substitution.{Rise, substituted_from}
use Rattle.cr_run.proofs.edits.apply.Given as goal

abbrev pub invariant-loop-offset : goal.invariant-loop-offset
invariant-loop-offset l =
    (l.edited.items ++ substituted_from l.from (drop l.offset-index l.offsets) l.old_len l.new (drop l.from l.bytes) ≡ substituted_from 0 l.offsets l.old_len l.new l.bytes)
    × Rise l.from (drop l.offset-index l.offsets) l.old_len (length l.bytes)
