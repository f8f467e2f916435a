-- What is kept of a node that begins, for its end.
use Rattle.std.specs.Prelude.{◌≡◌, Bool, if◌then◌else◌, List}
use Rattle.cr_grammar.specs.declared.symbols.NonTerm.{NonTerm}
use Rattle.cr_types.specs.Types.{CType, Table}
use Rattle.cr_binding.specs.State.{State}
use Rattle.cr_typing.specs.declared.expressions.Op.TheVariants as op
use Rattle.cr_typing.specs.ExpressionTypes.{binary_type}
use Rattle.cr_binding.specs.Specifying.{words_ended}
use Rattle.cr_binding.specs.Expressions.{on_two}
use Rattle.cr_binding.specs.Initialising.{InBraces, item_within}
use Rattle.cr_known.specs.Known.{Saved, Aiming, saved_for, put_back, ended_alone, ended_by}
use Rattle.cr_bound.specs.Saving.{saved_by, unaimed, IsTypedSaved}
use Rattle.cr_operands.specs.declared.operands.Operands.{Operands}
use Rattle.cr_operands.specs.Operands.{target_of, values_at, IsTarget, IsMark, Grows}
use Rattle.cr_acting.specs.declared.ends.Saving.{Saving}
use Rattle.cr_acting.specs.declared.ends.Saving.TheVariants as saving
use Rattle.cr_acting.specs.declared.ends.Kept.{Kept}
use Rattle.cr_acting.specs.declared.ends.Aims.{Aims}
use Rattle.cr_acting.specs.declared.ends.Aims.TheVariants as aims
use Rattle.cr_acting.specs.declared.ends.Ending.{Ending}
use Rattle.cr_acting.specs.declared.ends.Ending.TheVariants as ends
use Rattle.cr_acting.specs.declared.binding.Binding.{Binding}
use Rattle.cr_acting.specs.Binding.{Change, state_of}

-- what is put back
abbrev pub kept_by : Table → Saving → Saved
kept_by t (saving.Declaring x) = saved_by t x
kept_by t (saving.Aiming x) = Aiming (target_of t x)

-- the operands that there were
abbrev pub values_by : Table → Operands → Kept → List CType
values_by t o k = values_at t o k.mark

abbrev pub IsTypedSaving : Table → Saving → Type 0
IsTypedSaving t (saving.Declaring x) = IsTypedSaved t x
IsTypedSaving t (saving.Aiming x) = IsTarget t x

-- its types and records are the table's, and its mark was given
abbrev pub IsKept : Table → Operands → Kept → Type 0
IsKept t o k = IsTypedSaving t k.saving × IsMark o k.mark

-- The same is kept.
pub record KeptStays (t : Table) (o : Operands) (k : Kept) (u : Table) (p : Operands) : Type 0 where
  pub kept : IsKept u p k
  pub saved : kept_by u k.saving ≡ kept_by t k.saving
  pub values : values_by u p k ≡ values_by t o k

-- As types and operands are added, what is kept is the same.
abbrev pub AllKeptStays : Type 0
AllKeptStays = (t u : Table) (o p : Operands) (k : Kept) → Grows t o u p → IsKept t o k → KeptStays t o k u p

-- ---- what a node keeps

abbrev pub saved_as : Aims → NonTerm → State → Saved
saved_as aims.AfterList m s = Aiming (item_within s InBraces s.target)
saved_as aims.Same m s = Aiming s.target
saved_as aims.Nothing m s = unaimed (saved_for m s)

-- what ends with a node by itself
abbrev pub ended_as : Ending → State → State
ended_as ends.Results s = record s { values = on_two (binary_type op.Generic) s.values }
ended_as ends.Words s = words_ended s
ended_as ends.Nothing s = s

-- this is what the end of a node wants that begins here
pub record IsKeptFor (m : NonTerm) (b : Binding) (k : Kept) : Type 0 where
  pub saved : kept_by b.types k.saving ≡ saved_for m (state_of b)
  pub values : values_by b.types b.operands k ≡ (state_of b).values
  pub kept : IsKept b.types b.operands k

-- ---- what an end does

abbrev pub ending_alone : NonTerm → (childless : Bool) → Change
ending_alone m childless t s = ended_alone m childless s

abbrev pub putting_back : Saved → Change
putting_back x t s = put_back x s

abbrev pub leaving : (leaves : Bool) → List CType → Change
leaving leaves values t s = record s { values = if leaves then s.values else values }

abbrev pub ending : (above node : NonTerm) → (childless : Bool) → Saved → List CType → Change
ending above m childless x values t s = ended_by above m childless x values s
