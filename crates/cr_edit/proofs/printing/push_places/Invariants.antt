use Rattle.std.proofs.Common.{◌≡◌, ◌++◌, drop}
use Rattle.std.specs.List.{flat_map}
use Rattle.cr_edit.specs.Report.{edit_line}
use Rattle.cr_edit.proofs.printing.push_places.Given as goal

abbrev pub invariant-loop-offset : goal.invariant-loop-offset
invariant-loop-offset l = l.text.items ++ flat_map (edit_line l.path) (drop l.offset-index l.offsets) ≡ l.fn.text.items ++ flat_map (edit_line l.path) l.offsets
