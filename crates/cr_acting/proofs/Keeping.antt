-- What is kept of a node stays as types and operands are added.
use Rattle.std.proofs.Common.{◌≡◌, Bool, false, List, sym, ap}
use Rattle.cr_types.specs.Types.{CType, Table, Keeps}
use Rattle.cr_binding.specs.Source.{Source}
use Rattle.cr_binding.specs.State.{State}
use Rattle.cr_known.specs.Known.{Aiming}
use Rattle.cr_bound.specs.Saving.{SavedStay}
use Rattle.cr_operands.specs.Laws.{TargetsStay}
use Rattle.cr_operands.specs.Operands.{with_values}
use Rattle.cr_acting.specs.declared.ends.Saving.{Saving}
use Rattle.cr_acting.specs.declared.ends.Saving.TheVariants as saving
use Rattle.cr_acting.specs.Ends.{kept_by, leaving, IsTypedSaving, AllKeptStays}

saving_stays : SavedStay → TargetsStay → (t u : Table) → Keeps t u → (x : Saving) → IsTypedSaving t x
    → IsTypedSaving u x × (kept_by u x ≡ kept_by t x)
saving_stays saved targets t u keeps (saving.Declaring x) h = saved t u x keeps h
saving_stays saved targets t u keeps (saving.Aiming x) h = (let y = targets t u x keeps h in (y.0, ap Aiming y.1))

pub kept_stays : SavedStay → TargetsStay → AllKeptStays
kept_stays saved targets t u o p k grows h =
    let x = saving_stays saved targets t u grows.types k.saving h.0 in
    let y = grows.marks k.mark h.1 in
    record { kept = (x.0, y.0); saved = x.1; values = y.1 }

-- operands that aren't left to the node above are gone
pub left_so : (leaves : Bool) → leaves ≡ false → (values : List CType) (source : Source) (s : State)
    → with_values values s ≡ leaving leaves values source s
left_so leaves h values source s = ap (λ l. leaving l values source s) (sym h)
