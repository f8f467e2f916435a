-- Laws over the records that are kept.
use Rattle.std.specs.Prelude.{◌≡◌, ℕ, Some, Result, Ok, Err, map}
use Rattle.cr_base.specs.declared.token.Name.{Name}
use Rattle.cr_base.specs.declared.cause.IllCause.{IllCause}
use Rattle.cr_types.specs.Types.{Table, Keeps}
use Rattle.cr_typing.specs.declared.fault.TypeFault.{TypeFault}
use Rattle.cr_typing.specs.declared.members.MemberNo.{MemberNo}
use Rattle.cr_typing.specs.Initialisers.{type_of_member}
use Rattle.cr_typing.specs.Initialisers as typing
use Rattle.cr_typing.specs.Members.{Members, listed}
use Rattle.cr_typing.specs.Members as members
use Rattle.cr_binding.specs.Source.{Source}
use Rattle.cr_binding.specs.State.{Member, State}
use Rattle.cr_binding.specs.Initialising as binding
use Rattle.cr_binding.specs.RecordMembers.{member_in}
use Rattle.cr_records.specs.Kept.{RecordTable, IsKept, IsOf, placed_at}
use Rattle.cr_records.specs.Records.{with_records, placed_in, AreSpelled, cause_of}

-- As types are added the same records are seen.
abbrev pub RecordsStay : Type 0
RecordsStay = (t u : Table) (x : RecordTable) → Keeps t u → u.records ≡ t.records → IsKept x → IsOf t x
    → IsOf u x × ((s : State) → with_records u x s ≡ with_records t x s)

-- what a name selects in record number r: the same member, or nothing for the same cause
abbrev pub IsNamedIn : Table → Members → ℕ → Result Member IllCause → Result MemberNo TypeFault → Type 0
IsNamedIn t m r b (Ok k) = b ≡ Ok (placed_in t r (placed_at m k))
IsNamedIn t m r b (Err f) = b ≡ Err (cause_of f)

-- What is told of a record's members by their numbers is what binding sees: the types of those that are written in it where
-- it is complete, whether it is a union, and which of them a name selects.
pub record AreTold (t : Table) (x : RecordTable) (s : State) : Type 0 where
  pub written : (r : ℕ) → map (type_of_member t x.typing) (typing.complete (listed x.typing r)) ≡ map Some (binding.complete (with_records t x s) r)
  pub unions : (r : ℕ) → typing.is_union t r ≡ binding.is_union (with_records t x s) r
  pub named : (source : Source) → AreSpelled source x → (r : ℕ) (name : Name)
      → IsNamedIn t x.typing r (member_in source (with_records t x s) r name) (members.member_in (listed x.typing r) name)

abbrev pub MembersAreTold : Type 0
MembersAreTold = (t : Table) (x : RecordTable) (s : State) → IsKept x → IsOf t x → AreTold t x s
