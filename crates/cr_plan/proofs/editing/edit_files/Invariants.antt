use Rattle.std.proofs.Common.{◌≡◌, ◌++◌, map}
use Rattle.cr_plan.specs.Editing.{shown_entries, edit_over}
use Rattle.cr_plan.specs.Outcome.{offsets_of}
use Rattle.cr_plan.proofs.editing.edit_files.Given as goal

abbrev pub invariant-loop-path : goal.invariant-loop-path
invariant-loop-path l = l.edits.items ++ map (edit_over l.snapshot l.old_len l.new) (shown_entries l.path-iterator) ≡ map (edit_over l.snapshot l.old_len l.new) (offsets_of l.snapshot l.places)
