-- What the table of slots tells of each slot, by the test of equal slots.
use Rattle.std.proofs.Common.{◌≡◌, Bool, ◌&&◌, eqb, Option, List, cond, refl, sym, ◌∙◌}
use Rattle.std.specs.Map.{lookup}
use denote.Enum.Bare.{sameb}
use Rattle.cr_scope.specs.declared.Space.{Space}
use Rattle.cr_scope.specs.declared.Space.TheVariants as space
use Rattle.cr_scope.specs.contracts.Space.{the_type}
use Rattle.cr_scope.specs.Declarations.{same_space}
use Rattle.cr_declared.specs.declared.rows.Slot.{Slot}
use Rattle.cr_declared.specs.declared.table.Ends.{Ends}
use Rattle.cr_declared.specs.Rows.{same_slot}
use Rattle.cr_declared.specs.Kept.{find_slot}

spaces_same : (a b : Space) → sameb the_type a b ≡ same_space a b
spaces_same space.Label space.Label = refl
spaces_same space.Label space.Tag = refl
spaces_same space.Label space.Ordinary = refl
spaces_same space.Tag space.Label = refl
spaces_same space.Tag space.Tag = refl
spaces_same space.Tag space.Ordinary = refl
spaces_same space.Ordinary space.Label = refl
spaces_same space.Ordinary space.Tag = refl
spaces_same space.Ordinary space.Ordinary = refl

-- the derived test
abbrev pub eq_slot : Slot → Slot → Bool
eq_slot a b = eqb a.path b.path && (sameb the_type a.space b.space && eqb a.name.0 b.name.0)

pub slots_same : (a b : Slot) → eq_slot a b ≡ same_slot a b
slots_same a b = λ j. eqb a.path b.path && (spaces_same a.space b.space j && eqb a.name.0 b.name.0)

pub find_same : (a : Slot) (es : List (Slot × Ends)) → find_slot a es ≡ lookup (eq_slot a) es
find_same a es = sym (λ j. lookup (λ b. slots_same a b j) es)

pub found_after : (s : Slot) (before after : List (Slot × Ends)) (r : Option Ends)
    → ((a : Slot) → lookup (eq_slot a) after ≡ cond (eq_slot s a) r (lookup (eq_slot a) before))
    → (a : Slot) → find_slot a after ≡ cond (same_slot s a) r (find_slot a before)
found_after s before after r h a = find_same a after ∙ h a ∙ (λ j. cond (slots_same s a j) r (sym (find_same a before) j))
