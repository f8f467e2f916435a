use Rattle.std.proofs.Common.{◌≡◌, take}
use Rattle.cr_compdb.specs.Entries.{directories}
use Rattle.cr_compdb.proofs.unit.directories.Given as goal

abbrev pub invariant-loop-setting : goal.invariant-loop-setting
invariant-loop-setting l = l.paths.items ≡ directories l.home l.option (take l.setting-index l.settings)
