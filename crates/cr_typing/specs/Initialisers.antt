-- What the items of an initialiser in braces take (C11 6.7.9). Where braces are left out the items of an inner list
-- aren't parted from those that follow: what stands there is unknown until a designator tells it.
use Rattle.std.specs.Prelude.{ℕ, ◌+◌, Bool, true, false, not, ◌==◌, nat_lt, is_some, unwrap_or, if◌then◌else◌, Option, Some, None, option_map, option_and_then, IfSome, Result, Ok, Err, List, [], length, slice_get}
use Rattle.cr_base.specs.declared.token.Name.{Name}
use Rattle.cr_types.specs.declared.TypeNo.{TypeNo}
use Rattle.cr_types.specs.Types.{CType, Arr, Rec, Table, IsTypeNo, type_at, union_at}
use Rattle.cr_typing.specs.declared.fault.TypeFault.{TypeFault}
use Rattle.cr_typing.specs.declared.fault.TypeFault.TheVariants as fault
use Rattle.cr_typing.specs.declared.initialisers.Desig.{Desig}
use Rattle.cr_typing.specs.declared.initialisers.Desig.TheVariants.{Index, Dot}
use Rattle.cr_typing.specs.declared.initialisers.ItemKind.{ItemKind}
use Rattle.cr_typing.specs.declared.initialisers.ItemKind.TheVariants.{Value, StringValue}
use Rattle.cr_typing.specs.declared.initialisers.InitList.{InitList}
use Rattle.cr_typing.specs.declared.initialisers.Reached.{Reached}
use Rattle.cr_typing.specs.declared.members.MemberNo.{MemberNo}
use Rattle.cr_typing.specs.declared.members.Placed.{Placed}
use Rattle.cr_typing.specs.ExpressionTypes.{same_type}
use Rattle.cr_typing.specs.Members.{Members, Listed, listed, member_in}

-- What an item takes, and the place after it. No object: it is unknown, and so is the place where there is none.
pub record Taken : Type 0 where
  pub object : Option CType
  pub after : Option ℕ

-- A list in braces: the object that it initialises; the place of the next item, which is the number of a declared member
-- of a record, an anonymous one counted, and 0 in an array or a scalar; and what the designators of the item reached.
pub record Braces : Type 0 where
  pub object : Option CType
  pub place : Option ℕ
  pub reached : Option Taken

-- ---- a list as it is kept, by the types of its numbers

abbrev pub taken_of : Table → Reached → Taken
taken_of t x = record { object = option_map (type_at t) x.object; after = x.after }

abbrev pub object_of : Table → Option TypeNo → Option CType
object_of t = option_map (type_at t)

abbrev pub braces_of : Table → InitList → Braces
braces_of t x = record { object = object_of t x.object; place = x.place; reached = option_map (taken_of t) x.reached }

-- its types are the table's
abbrev pub AreHeld : Table → InitList → Type 0
AreHeld t x = IfSome x.object (IsTypeNo t) × IfSome x.reached (λ y. IfSome y.object (IsTypeNo t))

-- the type of a value is the table's
abbrev pub IsKindOf : Table → ItemKind → Type 0
IsKindOf t (Value n) = IsTypeNo t n
IsKindOf t _ = Unit {0}

-- ---- where a list begins

-- the members of a record that is complete
abbrev pub complete : Listed → List MemberNo
complete x = if x.ended then x.declared else []

-- the first of so many places, where there is one
abbrev pub first_in : ℕ → Option ℕ
first_in count = if nat_lt 0 count then Some 0 else None

-- The first member of a record that is complete where the list begins (6.7.9p17), the element of an array, or the scalar.
abbrev pub first_place : Members → Option CType → Option ℕ
first_place m (Some (Rec r)) = first_in (length (complete (listed m r)))
first_place m _ = Some 0

abbrev pub opened : Option CType → Option ℕ → Braces
opened c first = record { object = c; place = first; reached = None }

-- ---- the object at a place, and the place after it

abbrev pub type_of_member : Table → Members → MemberNo → Option CType
type_of_member t m k = option_map (λ p. type_at t p.member.ty) (slice_get m.all k.0)

abbrev pub is_union : Table → ℕ → Bool
is_union t r = unwrap_or (union_at t (record { 0 = r })) false

-- a member, the element, or the one scalar
abbrev pub part_at : Table → Members → ℕ → CType → Option CType
part_at t m k (Rec r) = option_and_then (type_of_member t m) (slice_get (complete (listed m r)) k)
part_at t m k (Arr c) = Some c
part_at t m k c = Some c

-- the number after k, where a member has it
abbrev pub next_in : List MemberNo → ℕ → Option ℕ
next_in ks k = if nat_lt (k + 1) (length ks) then Some (k + 1) else None

-- the next member of a structure (6.7.9p17), or any other element of an array; of a union one member is initialised
abbrev pub next_place : Table → Members → ℕ → CType → Option ℕ
next_place t m k (Rec r) = if is_union t r then None else next_in (complete (listed m r)) k
next_place t m k (Arr c) = Some 0
next_place t m k _ = None

abbrev pub object_at : Table → Members → Option CType → Option ℕ → Option CType
object_at t m c k = option_and_then (λ n. option_and_then (part_at t m n) c) k

abbrev pub place_after : Table → Members → Option CType → Option ℕ → Option ℕ
place_after t m c k = option_and_then (λ n. option_and_then (next_place t m n) c) k

-- ---- designators (6.7.9p6, p7)

-- the first of an item starts at the list's object, each later one at what the one before reached
abbrev pub from_object : Option CType → Option Taken → Option CType
from_object c None = c
from_object c (Some x) = x.object

abbrev pub starts_from : Braces → Option CType
starts_from b = from_object b.object b.reached

-- only an item with one designator tells the place after it
abbrev pub reaching : Braces → Option CType → Option ℕ → Braces
reaching b c after = record {
  object = b.object;
  place = b.place;
  reached = Some (record { object = c; after = if is_some b.reached then None else after });
}

abbrev pub element_of : Option CType → Option CType
element_of (Some (Arr c)) = Some c
element_of _ = None

abbrev pub after_index : Option CType → Option ℕ
after_index (Some (Arr c)) = Some 0
after_index _ = None

-- `[e]` reaches the element of an array, and elsewhere what is unknown
abbrev pub indexed : Braces → Braces
indexed b = reaching b (element_of (starts_from b)) (after_index b.object)

-- `.name` names a member of a record
abbrev pub dotted : Members → Name → Option CType → Result MemberNo TypeFault
dotted m name None = Err fault.Elision
dotted m name (Some (Rec r)) = member_in (listed m r) name
dotted m name (Some _) = Err fault.NotRecord

-- the place after a member of the record, where it isn't one of an anonymous record
abbrev pub after_member : Table → Members → Placed → Option CType → Option ℕ
after_member t m p (Some (Rec r)) = if r == p.member.rec.0 then next_place t m p.place (Rec r) else None
after_member t m p _ = None

abbrev pub named_by : Table → Members → Braces → Option Placed → Braces
named_by t m b None = b
named_by t m b (Some p) = reaching b (Some (type_at t p.member.ty)) (after_member t m p b.object)

abbrev pub as_named : Result MemberNo TypeFault → Result (Option MemberNo) TypeFault
as_named (Ok k) = Ok (Some k)
as_named (Err e) = Err e

-- what a designator answers: the member that it names, if it names one
abbrev pub designation : Members → Braces → Desig → Result (Option MemberNo) TypeFault
designation m b Index = Ok None
designation m b (Dot name) = as_named (dotted m name (starts_from b))

-- the list after a designator that answered so
abbrev pub designated : Table → Members → Braces → Option MemberNo → Braces
designated t m b None = indexed b
designated t m b (Some k) = named_by t m b (slice_get m.all k.0)

-- ---- items

-- An item takes what its designators reached, and without one what stands at the place.
abbrev pub taken_by : Table → Members → Braces → Option Taken → Taken
taken_by t m b None = record { object = object_at t m b.object b.place; after = place_after t m b.object b.place }
taken_by t m b (Some x) = x

abbrev pub taken : Table → Members → Braces → Taken
taken t m b = taken_by t m b b.reached

-- A value that doesn't fill the object that it takes, so that braces are left out (6.7.9p13, p20): one of another type
-- at a record, and one that is no string at an array.
abbrev pub is_short : Table → ItemKind → Option CType → Bool
is_short t (Value n) (Some (Rec r)) = not (same_type (type_at t n) (Rec r))
is_short t StringValue (Some (Rec r)) = true
is_short t (Value n) (Some (Arr c)) = true
is_short t _ _ = false

abbrev pub with_item : Table → Members → Braces → ItemKind → Braces
with_item t m b kind = record {
  object = b.object;
  place = if is_short t kind (taken t m b).object then None else (taken t m b).after;
  reached = None;
}
