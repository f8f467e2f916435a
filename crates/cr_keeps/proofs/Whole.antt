-- The joined law from the laws of the product.
use Rattle.cr_keeps.proofs.JoinedStated.{Laws, Lemmas}
use Rattle.cr_keeps.proofs.WholeStated.{LowerLaws, VerdictsKeepUnits}
use Rattle.cr_keeps.proofs.Premises.{class_tokens, conflicts, events}
use Rattle.cr_keeps.proofs.Links.{keys_move_apart}
use Rattle.cr_keeps.proofs.Places.{one_spelling_a_place, old_names_are_identifiers, placed_finals_are_old}
use Rattle.cr_keeps.proofs.Renamed.{tokens_are_renamed}
use Rattle.cr_keeps.proofs.Editing.{files_are_editable}
use Rattle.cr_keeps.proofs.Shifts.{shifts_keep_apart}
use Rattle.cr_keeps.proofs.Lengths.{lengths_shift}
use Rattle.cr_keeps.proofs.NewNames.{new_names}
use Rattle.cr_keeps.proofs.Standing.{names_stand_whole}
use Rattle.cr_keeps.proofs.Ordered.{places_are_ordered}
use Rattle.cr_keeps.proofs.Joined.{laws_join}

module _ (lower : LowerLaws) where
  laws : Laws
  laws = record {
    preprocessing = lower.preprocessing;
    traces = lower.traces;
    numbers = lower.numbered;
    goes_on = lower.goes_on;
    tokens7 = lower.tokens7;
    units = lower.units;
    consistent = lower.consistent;
    spelled = lower.spelled;
    tell = lower.tell;
    one_key = lower.one_key;
    move = lower.move;
    apart = keys_move_apart;
    class_tokens = class_tokens;
    conflicts = conflicts;
    events = events;
    renamed = tokens_are_renamed;
    identifiers = old_names_are_identifiers lower.numbers lower.order lower.stand lower.tokens7;
    placed = placed_finals_are_old lower.numbers lower.order lower.stand lower.tokens7;
    one_spelling = one_spelling_a_place lower.numbers lower.order lower.stand lower.tokens7;
  }

  lemmas : Lemmas
  lemmas = record {
    tests = lower.tests;
    editable = files_are_editable lower.numbers lower.order lower.stand lower.tokens7 names_stand_whole places_are_ordered;
    shifts = λ names files units old new target facts class means. shifts_keep_apart lower.numbers lower.order lower.stand lower.tokens7 lower.lexing lengths_shift names files units old new target facts class means
        (files_are_editable lower.numbers lower.order lower.stand lower.tokens7 names_stand_whole places_are_ordered names files units old new target facts class means);
    lengths = lengths_shift;
    only_new = new_names;
  }

pub verdicts_keep_units : VerdictsKeepUnits
verdicts_keep_units lower = laws_join (laws lower) (lemmas lower)
