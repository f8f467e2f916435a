use Rattle.std.proofs.Common.{◌≡◌, ◌++◌, drop, map}
use Rattle.std.specs.List.{flat_map}
use Rattle.cr_run.specs.Report.{skip_line}
use Rattle.cr_run.specs.Seen.{skip_of_code}
use Rattle.cr_run.proofs.report.push_skips.Given as goal

abbrev pub invariant-loop-skip : goal.invariant-loop-skip
invariant-loop-skip l = l.text.items ++ flat_map skip_line (map skip_of_code (drop l.skip-index l.skipped)) ≡ l.fn.text.items ++ flat_map skip_line (map skip_of_code l.skipped)
