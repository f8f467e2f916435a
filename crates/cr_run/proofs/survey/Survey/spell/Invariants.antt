use Rattle.std.proofs.Common.{◌≡◌}
use Rattle.cr_run.specs.Held.{refusal_of_entries}
use Rattle.cr_run.proofs.survey.Survey.spell.Given as goal

abbrev pub invariant-loop-path : goal.invariant-loop-path
invariant-loop-path l =
    ((goal.iterator-loop-path).can_next l.path-iterator) × ((goal.iterator-loop-path).is_finite l.path-iterator)
    × (refusal_of_entries l.path-iterator ≡ refusal_of_entries l.self.files.entries)
