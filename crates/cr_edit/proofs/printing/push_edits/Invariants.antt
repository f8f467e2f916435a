use Rattle.std.proofs.Common.{◌≡◌, ◌++◌, drop, map}
use Rattle.std.specs.List.{flat_map}
use Rattle.cr_edit.specs.Report.{edit_lines}
use Rattle.cr_edit.specs.Seen.{edit_of_code}
use Rattle.cr_edit.proofs.printing.push_edits.Given as goal

abbrev pub invariant-loop-edit : goal.invariant-loop-edit
invariant-loop-edit l = l.text.items ++ flat_map edit_lines (map edit_of_code (drop l.edit-index l.edits)) ≡ l.fn.text.items ++ flat_map edit_lines (map edit_of_code l.edits)
