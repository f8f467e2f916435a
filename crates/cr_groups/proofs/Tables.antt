-- What a table over slots tells of each slot, by the test of equal slots.
use Rattle.std.proofs.Common.{◌≡◌, Option, List, cond, sym, ◌∙◌, ap}
use Rattle.std.specs.Map.{lookup}
use Rattle.cr_declared.specs.declared.rows.Slot.{Slot}
use Rattle.cr_declared.specs.Rows.{same_slot}
use Rattle.cr_declared.proofs.Tables.{eq_slot, slots_same as slots_are_same}
use Rattle.cr_groups.proofs.Taken.{slots_turned}

pub find_same : {V : Type 0} (a : Slot) (es : List (Slot × V)) → lookup (same_slot a) es ≡ lookup (eq_slot a) es
find_same a es = sym (λ j. lookup (λ b. slots_are_same a b j) es)

pub found_after : {V : Type 0} (s : Slot) (before after : List (Slot × V)) (r : Option V)
    → ((a : Slot) → lookup (eq_slot a) after ≡ cond (eq_slot s a) r (lookup (eq_slot a) before))
    → (a : Slot) → lookup (same_slot a) after ≡ cond (same_slot a s) r (lookup (same_slot a) before)
found_after s before after r h a =
    find_same a after ∙ h a ∙ (λ j. cond (slots_are_same s a j) r (sym (find_same a before) j))
    ∙ ap (λ b. cond b r (lookup (same_slot a) before)) (slots_turned s a)
