-- What binding sees of the records that are kept.
use Rattle.std.specs.Prelude.{◌≡◌, ℕ, Some, Result, Ok, Err, List, [], ◌∷◌, ◌++◌, map}
use Rattle.cr_base.specs.declared.token.Name.{Name}
use Rattle.cr_base.specs.declared.cause.IllCause.{IllCause}
use Rattle.cr_base.specs.declared.cause.IllCause.TheVariants as cause
use Rattle.cr_types.specs.declared.RecNo.{RecNo}
use Rattle.cr_types.specs.Types.{CType, Table, type_at}
use Rattle.cr_typing.specs.declared.fault.TypeFault.{TypeFault}
use Rattle.cr_typing.specs.declared.fault.TypeFault.TheVariants as type_fault
use Rattle.cr_typing.specs.declared.members.Placed.{Placed}
use Rattle.cr_typing.specs.Members.{Members}
use Rattle.cr_binding.specs.Source.{Source, name_at}
use Rattle.cr_binding.specs.Declaring.{failed}
use Rattle.cr_binding.specs.State.{Record, Written, Member, State}
use Rattle.cr_binding.specs.RecordMembers.{add_member, add_anonymous}
use Rattle.cr_binding.specs.Tags.{record_of as number_of_record}
use Rattle.cr_records.specs.declared.fault.RecordFault.{RecordFault}
use Rattle.cr_records.specs.declared.fault.RecordFault.TheVariants as fault
use Rattle.cr_records.specs.declared.rows.RecordRow.{RecordRow}
use Rattle.cr_records.specs.declared.rows.Selector.{Selector}
use Rattle.cr_records.specs.declared.rows.Selected.{Selected}
use Rattle.cr_records.specs.declared.rows.Member.{Member as MemberRow}
use Rattle.cr_records.specs.Kept.{RecordTable, placed_at, name_of}

abbrev pub record_of : RecordRow → Record
record_of r = record { token = r.token; is_union = r.is_union }

abbrev pub written_by : Table → Placed → Written
written_by t p = record { holder = p.member.rec.0; type = type_at t p.member.ty }

abbrev pub placed_in : Table → ℕ → Placed → Member
placed_in t r p =
    record { holder = r; own = p.member.rec.0; place = p.place; token = p.member.token; type = type_at t p.member.ty }

abbrev pub member_by : Table → Members → Selector → Member
member_by t m x = placed_in t x.holder.0 (placed_at m x.member)

abbrev pub members_by : Table → RecordTable → List Member
members_by t x = map (member_by t x.typing) x.selectors

-- a state with these records
abbrev pub with_records : Table → RecordTable → State → State
with_records t x s =
    record s {
      records = map record_of x.records;
      written = map (written_by t) x.typing.all;
      members = members_by t x;
      completed = x.completed;
      ended = map {A = RecNo} (λ r. r.0) x.ended;
    }

-- each name that selects is spelled as the token of its member
abbrev pub AreSpelledBy : Source → Members → List Selector → Type 0
AreSpelledBy t m [] = Unit {0}
AreSpelledBy t m (x ∷ xs) =
    (name_of (placed_at m x.member) ≡ name_at t (placed_at m x.member).member.token) × AreSpelledBy t m xs

abbrev pub AreSpelled : Source → RecordTable → Type 0
AreSpelled t x = AreSpelledBy t x.typing x.selectors

-- a row is what a member is, with its name
abbrev pub member_of : Table → MemberRow → Member
member_of t x =
    record { holder = x.holder.0; own = x.own.0; place = x.place; token = x.token; type = type_at t x.ty }

-- the cause of a selection that fails
abbrev pub cause_of : TypeFault → IllCause
cause_of type_fault.NoMember = cause.NoMember
cause_of type_fault.NotRecord = cause.NotRecord
cause_of type_fault.GenericType = cause.GenericType
cause_of type_fault.Elision = cause.Elision
cause_of _ = cause.Redeclared

-- what is selected is a member, or refused for the same cause
abbrev pub IsSelected : Table → Result Member IllCause → Result Selected IllCause → Type 0
IsSelected t r (Ok x) = (m : Member) × (r ≡ Ok m) × (m.token ≡ x.token) × (m.type ≡ type_at t x.ty)
IsSelected t r (Err c) = r ≡ Err c

-- ---- what calls do

-- token i has this name
abbrev pub IsNamed : ℕ → Name → Source → Type 0
IsNamed i name t = name_at t i ≡ name

-- what is done to the records, where tokens are spelled so
abbrev pub Does : (Source → Type 0) → Table → RecordTable → (Source → State → State) → RecordTable → Type 0
Does P t old f new = (source : Source) (s : State) → P source → AreSpelled source old
    → with_records t new s ≡ f source (with_records t old s)

-- names stay spelled
abbrev pub KeepsSpelling : (Source → Type 0) → RecordTable → RecordTable → Type 0
KeepsSpelling P old new = (source : Source) → P source → AreSpelled source old → AreSpelled source new

-- a member is added to record number r: one with its name at token i, or an anonymous one, whose names select in r too
abbrev pub adding : ℕ → ℕ → CType → Source → State → State
adding r i c t s = add_member t (Some r) (Some i) c s

abbrev pub splicing : ℕ → CType → Source → State → State
splicing r c t s = add_anonymous t (Some r) (number_of_record c) c s

-- a name is there already, so that nothing is done: the token is that of the fault
abbrev pub Repeats : (Source → Type 0) → Table → RecordTable → (Source → State → State) → ℕ → Type 0
Repeats P t old f i = (source : Source) (s : State) → P source → AreSpelled source old
    → f source (with_records t old s) ≡ failed cause.Redeclared i (with_records t old s)

-- what a fault says, which only want of memory doesn't
abbrev pub Refuses : RecordFault → (ℕ → Type 0) → Type 0
Refuses (fault.Redeclared i) P = P i
Refuses fault.OutOfMemory P = Unit {0}

abbrev pub Always : Source → Type 0
Always t = Unit {0}

-- one more record
abbrev pub recorded : RecordRow → State → State
recorded r s = record s { records = s.records ++ record_of r ∷ [] }
