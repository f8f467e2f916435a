use Rattle.std.proofs.Common.{◌≡◌, ◌++◌, drop}
use Rattle.cr_base.specs.Substitution.{substituted_from}
use Rattle.cr_edit.proofs.edits.apply.Given as goal

abbrev pub invariant-loop-offset : goal.invariant-loop-offset
invariant-loop-offset l =
    l.edited.items ++ substituted_from l.from (drop l.offset-index l.offsets) l.old_len l.new l.rest ≡ substituted_from 0 l.offsets l.old_len l.new l.bytes
