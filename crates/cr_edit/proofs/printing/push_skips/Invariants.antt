use Rattle.std.proofs.Common.{◌≡◌, ◌++◌, drop}
use Rattle.std.specs.List.{flat_map}
use Rattle.cr_edit.specs.Report.{skip_line}
use Rattle.cr_edit.proofs.printing.push_skips.Given as goal

abbrev pub invariant-loop-skip : goal.invariant-loop-skip
invariant-loop-skip l = l.text.items ++ flat_map skip_line (drop l.skip-index l.skipped) ≡ l.fn.text.items ++ flat_map skip_line l.skipped
