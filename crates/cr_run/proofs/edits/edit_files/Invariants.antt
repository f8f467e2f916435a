use Rattle.std.proofs.Common.{◌≡◌, ◌++◌, map}
use Rattle.cr_run.specs.Editing.{AllRise, edits_of}
use Rattle.cr_run.proofs.edits.edit_files.Given as goal

abbrev pub invariant-loop-path : goal.invariant-loop-path
invariant-loop-path l =
    ((goal.iterator-loop-path).can_next l.path-iterator) × ((goal.iterator-loop-path).is_finite l.path-iterator)
    × (l.edits.items ++ edits_of (map (λ v. v.items) l.places) l.old l.new l.path-iterator ≡ edits_of (map (λ v. v.items) l.places) l.old l.new l.survey.files.entries)
    × AllRise (map (λ v. v.items) l.places) l.old l.path-iterator
