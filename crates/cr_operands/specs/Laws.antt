-- Laws over the operands that are kept.
use Rattle.std.specs.Prelude.{◌≡◌}
use Rattle.cr_types.specs.Types.{Table, Keeps}
use Rattle.cr_operands.specs.declared.operands.Operands.{Operands}
use Rattle.cr_operands.specs.declared.target.Target.{Target}
use Rattle.cr_operands.specs.Operands.{IsHeld, IsTarget, target_of, Grows, Same}

-- As types are added the same operands are seen.
abbrev pub OperandsStay : Type 0
OperandsStay =
    (t u : Table) (o : Operands) → Keeps t u → IsHeld t o → Grows t o u o × Same t o u o

-- What stays in two changes stays in both.
abbrev pub GrowthsFollow : Type 0
GrowthsFollow =
    (t u v : Table) (o p q : Operands) → Grows t o u p → Grows u p v q → Grows t o v q

-- As types are added a target is the same.
abbrev pub TargetsStay : Type 0
TargetsStay =
    (t u : Table) (a : Target) → Keeps t u → IsTarget t a
    → IsTarget u a × (target_of u a ≡ target_of t a)
