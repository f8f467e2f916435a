use Rattle.std.proofs.Common.{◌+◌, ◌-◌, vec_len}
use Rattle.std.specs.Io.KnownBytes.{Consumes}
use Rattle.cr_world.proofs.dir_tree.fill.Given as goal

-- what was read so far is what the file began with
abbrev pub invariant-chunks : goal.invariant-chunks
invariant-chunks g l = Consumes (g.F.Read.remaining l.initial.file) (g.F.Read.remaining l.file) l.into.items

abbrev pub decreases-chunks : goal.decreases-chunks
decreases-chunks g l = (l.max + 1) - vec_len l.into
