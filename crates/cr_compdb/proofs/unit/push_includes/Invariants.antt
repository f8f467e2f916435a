use Rattle.std.proofs.Common.{◌≡◌, ◌++◌, take}
use Rattle.std.specs.List.{flat_map}
use Rattle.cr_compdb.specs.Entries.{include_line}
use Rattle.cr_compdb.proofs.unit.push_includes.Given as goal

abbrev pub invariant-loop-setting : goal.invariant-loop-setting
invariant-loop-setting l = l.text.items ≡ l.initial.text.items ++ flat_map include_line (take l.setting-index l.settings)
