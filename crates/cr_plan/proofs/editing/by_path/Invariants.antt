use Rattle.std.proofs.Common.{◌≡◌, drop}
use Rattle.std.specs.Prelude.{fold}
use Rattle.cr_plan.specs.Editing.{shown_entries}
use Rattle.cr_plan.specs.Outcome.{offsets_of, with_place}
use Rattle.cr_plan.proofs.editing.by_path.Given as goal

abbrev pub invariant-loop-place : goal.invariant-loop-place
invariant-loop-place l = fold (with_place l.snapshot) (shown_entries l.by_path.entries) (drop l.place-index l.places) ≡ offsets_of l.snapshot l.places
