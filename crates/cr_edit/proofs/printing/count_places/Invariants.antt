use Rattle.std.proofs.Common.{◌≡◌, ◌+◌, drop, map}
use Rattle.cr_edit.specs.Report.{count_places}
use Rattle.cr_edit.specs.Seen.{edit_of_code}
use Rattle.cr_edit.proofs.printing.count_places.Given as goal

abbrev pub invariant-loop-edit : goal.invariant-loop-edit
invariant-loop-edit l = l.count + count_places (map edit_of_code (drop l.edit-index l.edits)) ≡ count_places (map edit_of_code l.edits)
