use Rattle.std.proofs.Common.{◌≡◌, ◌++◌, take}
use Rattle.std.specs.List.{flat_map}
use Rattle.cr_compdb.specs.Entries.{macro_line}
use Rattle.cr_compdb.proofs.unit.push_macros.Given as goal

abbrev pub invariant-loop-setting : goal.invariant-loop-setting
invariant-loop-setting l = l.text.items ≡ l.initial.text.items ++ flat_map macro_line (take l.setting-index l.settings)
