-- The declarations of a unit by slots.
use Rattle.std.specs.Prelude.{Option, List}
use Rattle.std.specs.Map.{lookup}
use Rattle.cr_declared.specs.declared.rows.Slot.{Slot}
use Rattle.cr_declared.specs.Rows.{same_slot}
use Rattle.cr_groups.specs.declared.groups.Group.{Group}

abbrev pub find_group : Slot → List (Slot × Group) → Option Group
find_group s es = lookup (same_slot s) es
