-- The members of structures and unions (C11 6.7.2.1), and what selects them (6.5.2.3).
use Rattle.std.specs.Prelude.{◌≡◌, ◌≢◌, ℕ, ◌<◌, Bool, true, false, not, ◌==◌, nat_lt, if◌then◌else◌, Option, Some, None, unwrap_or, is_some, option_map, Result, Ok, Err, List, [], ◌∷◌, ◌++◌, length, filter, slice_get}
use Rattle.std.specs.Map.{lookup}
use Rattle.cr_base.specs.declared.token.Name.{Name}
use Rattle.cr_types.specs.declared.RecNo.{RecNo}
use Rattle.cr_types.specs.Types.{CType, Mixed, Ptr, Rec, Table, IsTypeNo, IsRecNo}
use Rattle.cr_typing.specs.declared.members.MemberNo.{MemberNo}
use Rattle.cr_typing.specs.declared.members.MemberData.{MemberData}
use Rattle.cr_typing.specs.declared.members.Named.{Named}
use Rattle.cr_typing.specs.declared.members.Placed.{Placed}
use Rattle.cr_typing.specs.declared.fault.TypeFault.{TypeFault}
use Rattle.cr_typing.specs.declared.fault.TypeFault.TheVariants as fault
use Rattle.cr_typing.specs.ExpressionTypes.{decayed}

-- The members of a record: those that are declared in it, in order, an anonymous record being one; those that names
-- select in it, where those of an anonymous record stand in its place, and so on (6.7.2.1p13); and whether its list ended.
pub record Listed : Type 0 where
  pub declared : List MemberNo
  pub named : List (Name × Named)
  pub ended : Bool

-- All members by their numbers, each with its number in its record, and the records that have members.
pub record Members : Type 0 where
  pub all : List Placed
  pub records : List (RecNo × Listed)

abbrev pub no_members : Members
no_members = record { all = []; records = [] }

abbrev pub nothing_listed : Listed
nothing_listed = record { declared = []; named = []; ended = false }

-- the members of record number r
abbrev pub listed_in : List (RecNo × Listed) → ℕ → Listed
listed_in records r = unwrap_or (lookup (λ k. r == k.0) records) nothing_listed

abbrev pub listed : Members → ℕ → Listed
listed m r = listed_in m.records r

-- a number that was given out
abbrev pub IsMemberNo : Members → MemberNo → Type 0
IsMemberNo m k = k.0 < length m.all

abbrev pub data_at : Members → MemberNo → Option MemberData
data_at m k = option_map (λ p. p.member) (slice_get m.all k.0)

-- the number of a member among those that are declared in its record
abbrev pub place_at : Members → MemberNo → Option ℕ
place_at m k = option_map (λ p. p.place) (slice_get m.all k.0)

-- the types and records of all members are the table's
abbrev pub AreOfTable : Table → Members → Type 0
AreOfTable t m = (i : ℕ) (p : Placed) → slice_get m.all i ≡ Some p → IsTypeNo t p.member.ty × IsRecNo t p.member.rec

-- ---- what a name selects

abbrev pub find : Name → List (Name × Named) → Option Named
find name named = lookup (λ k. name.0 == k.0) named

abbrev pub or_no_member : Option Named → Result MemberNo TypeFault
or_no_member None = Err fault.NoMember
or_no_member (Some x) = Ok x.member

-- the member of a record with a name: one that is incomplete has none
abbrev pub member_in : Listed → Name → Result MemberNo TypeFault
member_in x name = or_no_member (if x.ended then find name x.named else None)

-- what `.name` selects of a type (6.5.2.3p1)
abbrev pub selected : Members → Name → CType → Result MemberNo TypeFault
selected m name (Rec r) = member_in (listed m r) name
selected m name Mixed = Err fault.GenericType
selected m name _ = Err fault.NotRecord

-- what `->name` selects of an operand (6.5.2.3p2)
abbrev pub selected_through : Members → Name → CType → Result MemberNo TypeFault
selected_through m name (Ptr c) = selected m name c
selected_through m name Mixed = Err fault.GenericType
selected_through m name _ = Err fault.NotRecord

abbrev pub select : Members → Bool → Name → CType → Result MemberNo TypeFault
select m arrow name c = if arrow then selected_through m name (decayed c) else selected m name c

-- ---- a member is added

-- an anonymous record brings its members in, anything else nothing
abbrev pub brought_in : Members → CType → List (Name × Named)
brought_in m (Rec r) = (listed m r).named
brought_in m _ = []

-- the number that the next member takes
abbrev pub next_member : Members → MemberNo
next_member m = record { 0 = length m.all }

-- what names select by a member: itself by its name, or the members of an anonymous record (6.7.2.1p13)
abbrev pub names_by : Members → MemberNo → ℕ → CType → Option Name → List (Name × Named)
names_by m k token c (Some name) = (name, record { member = k; token = token }) ∷ []
names_by m k token c None = brought_in m c

-- the same by a new member of this type
abbrev pub added_names : Members → MemberData → CType → List (Name × Named)
added_names m member c = names_by m (next_member m) member.token c member.name

-- those whose name is there already
abbrev pub repeated : Listed → List (Name × Named) → List (Name × Named)
repeated x named = filter (λ e. is_some (find e.0 x.named)) named

abbrev pub lesser : ℕ → Option ℕ → ℕ
lesser n None = n
lesser n (Some k) = if nat_lt k n then k else n

-- the least of their tokens
abbrev pub least_token : List (Name × Named) → Option ℕ
least_token [] = None
least_token (e ∷ es) = Some (lesser e.1.token (least_token es))

-- the token of a member whose name is there already: of several the least (6.7.2.1, 6.2.3)
abbrev pub redeclared : Listed → List (Name × Named) → Option ℕ
redeclared x named = least_token (repeated x named)

-- the same for a new member of this type
abbrev pub clash : Members → MemberData → CType → Option ℕ
clash m member c = redeclared (listed m member.rec.0) (added_names m member c)

-- why names aren't added to a record: one is there already, or memory was wanting
abbrev pub RefusesNames : Listed → List (Name × Named) → TypeFault → Type 0
RefusesNames x named (fault.Redeclared token) = redeclared x named ≡ Some token
RefusesNames x named fault.OutOfMemory = Unit {0}
RefusesNames x named _ = ⊥

-- why a new member of this type isn't
abbrev pub IsRefused : Members → MemberData → CType → TypeFault → Type 0
IsRefused m member c f = RefusesNames (listed m member.rec.0) (added_names m member c) f

abbrev pub with_member : Listed → MemberNo → List (Name × Named) → Listed
with_member x k named = record { declared = x.declared ++ k ∷ []; named = x.named ++ named; ended = x.ended }

-- a member with its number in its record
abbrev pub placed : Members → MemberData → Placed
placed m member = record { member = member; place = length (listed m member.rec.0).declared }

-- a member is added to its record, with these names
pub record Puts (old : Members) (member : MemberData) (named : List (Name × Named)) (new : Members) : Type 0 where
  pub all : new.all ≡ old.all ++ placed old member ∷ []
  pub this : listed new member.rec.0 ≡ with_member (listed old member.rec.0) (next_member old) named
  pub others : (q : ℕ) → q ≢ member.rec.0 → listed new q ≡ listed old q

-- a member of this type is added
abbrev pub Adds : Members → MemberData → CType → Members → Type 0
Adds old member c new = Puts old member (added_names old member c) new

abbrev pub is_empty : List MemberNo → Bool
is_empty [] = true
is_empty _ = false

-- the record's list ends; nothing tells a record without members from one whose list didn't
abbrev pub ended : Listed → Listed
ended x = record { declared = x.declared; named = x.named; ended = not (is_empty x.declared) }

pub record Ends (old : Members) (r : RecNo) (new : Members) : Type 0 where
  pub all : new.all ≡ old.all
  pub this : listed new r.0 ≡ ended (listed old r.0)
  pub others : (q : ℕ) → q ≢ r.0 → listed new q ≡ listed old q
