-- What is saved of a node that begins, as binding sees it.
use Rattle.std.specs.Prelude.{◌≡◌, option_map, IfSome}
use Rattle.cr_types.specs.Types.{Table, IsTypeNo, IsRecNo, Keeps}
use Rattle.cr_known.specs.Known.{Saved, Nothing, Gathering, Filling, Aiming}
use Rattle.cr_bound.specs.declared.saved.Saved.{Saved as Kept}
use Rattle.cr_bound.specs.declared.saved.Saved.TheVariants as kept
use Rattle.cr_bound.specs.Kept.{number, pending_by}

abbrev pub saved_by : Table → Kept → Saved
saved_by t kept.Nothing = Nothing
saved_by t (kept.Gathering p) = Gathering (pending_by t p)
saved_by t (kept.Filling r) = Filling (option_map number r)

-- but for the object of an initialiser
abbrev pub unaimed : Saved → Saved
unaimed Nothing = Nothing
unaimed (Gathering p) = Gathering p
unaimed (Filling r) = Filling r
unaimed (Aiming x) = Nothing

-- its types and records are the table's
abbrev pub IsTypedSaved : Table → Kept → Type 0
IsTypedSaved t kept.Nothing = Unit {0}
IsTypedSaved t (kept.Gathering p) = IfSome p.base (IsTypeNo t)
IsTypedSaved t (kept.Filling r) = IfSome r (IsRecNo t)

abbrev pub SavedStay : Type 0
SavedStay = (t u : Table) (x : Kept) → Keeps t u → IsTypedSaved t x → IsTypedSaved u x × (saved_by u x ≡ saved_by t x)
