use Rattle.std.proofs.Common.{◌≡◌, ◌++◌, drop}
use Rattle.std.specs.List.{flat_map}
use Rattle.cr_edit.specs.Seen.{edited_lines}
use Rattle.cr_edit.proofs.printing.push_files.Given as goal

abbrev pub invariant-loop-edit : goal.invariant-loop-edit
invariant-loop-edit l = l.text.items ++ flat_map edited_lines (drop l.edit-index l.edits) ≡ l.fn.text.items ++ flat_map edited_lines l.edits
