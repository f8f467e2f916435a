-- What the items of initialisers take (C11 6.7.9). `Braces` are lists as in the rules of initialisers over types; here they
-- are read over the records of a unit.
use Rattle.std.specs.Prelude.{ℕ, ◌+◌, Bool, true, false, not, ◌==◌, nat_lt, if◌then◌else◌, Option, Some, None, option_and_then, Result, Ok, Err, List, [], ◌∷◌, ◌++◌, drop, length, slice_get}
use Rattle.std.specs.Option.{option_map_or}
use Rattle.cr_base.specs.declared.token.Name.{Name}
use Rattle.cr_base.specs.declared.cause.IllCause.{IllCause}
use Rattle.cr_base.specs.declared.cause.IllCause.TheVariants as cause
use Rattle.cr_grammar.specs.declared.symbols.NonTerm.{NonTerm}
use Rattle.cr_grammar.specs.declared.symbols.NonTerm.TheVariants as n
use Rattle.cr_ll.specs.Derivation.{Trees, none, token, action, node}
use Rattle.cr_types.specs.Types.{CType, Void, Arr, Rec}
use Rattle.cr_typing.specs.ExpressionTypes.{same_type}
use Rattle.cr_typing.specs.Initialisers.{Taken, Braces, first_in, opened, starts_from, reaching, indexed}
use Rattle.cr_binding.specs.Source.{Source, name_at, is_string_literal}
use Rattle.cr_binding.specs.State.{Declaration, Member, Selects, Target, Whole, Within, State}
use Rattle.cr_binding.specs.Declaring.{failed, used}
use Rattle.cr_binding.specs.RecordMembers.{written_in, is_complete, member_in}
use Rattle.cr_binding.specs.Expressions.{operand}

-- ---- the object at a place of a list, and the place after it

-- the written members of a record that is complete
abbrev pub complete : State → ℕ → List CType
complete s r = if is_complete s r then written_in s r else []

abbrev pub is_union : State → ℕ → Bool
is_union s r = option_map_or (λ x. x.is_union) (slice_get s.records r) false

-- a member, the element, or the one scalar
abbrev pub part_at : State → ℕ → CType → Option CType
part_at s k (Rec r) = slice_get (complete s r) k
part_at s k (Arr c) = Some c
part_at s k c = Some c

abbrev pub next_within : ℕ → ℕ → Option ℕ
next_within count k = if nat_lt (k + 1) count then Some (k + 1) else None

-- the next member of a structure (6.7.9p17), or any other element of an array; of a union one member is initialised
abbrev pub next_place : State → ℕ → CType → Option ℕ
next_place s k (Rec r) = if is_union s r then None else next_within (length (complete s r)) k
next_place s k (Arr c) = Some 0
next_place s k _ = None

abbrev pub object_at : State → Option CType → Option ℕ → Option CType
object_at s c k = option_and_then (λ i. option_and_then (part_at s i) c) k

abbrev pub place_after : State → Option CType → Option ℕ → Option ℕ
place_after s c k = option_and_then (λ i. option_and_then (next_place s i) c) k

-- ---- designators (6.7.9p6, p7)

-- the member that `.name` names; where braces are left out it isn't known of what: our own rule
abbrev pub dotted : Source → State → Name → Option CType → Result Member IllCause
dotted t s name None = Err cause.Elision
dotted t s name (Some (Rec r)) = member_in t s r name
dotted t s name (Some _) = Err cause.NotRecord

-- the place after a member, where no anonymous record brought it in
abbrev pub after_member : State → Member → Option CType → Option ℕ
after_member s m (Some c) = if m.own == m.holder then next_place s m.place c else None
after_member s m None = None

abbrev pub designated : State → Braces → Member → Braces
designated s b m = reaching b (Some m.type) (after_member s m b.object)

abbrev pub designating : Result Member IllCause → Braces → ℕ → State → State
designating (Err c) b i s = failed c i s
designating (Ok m) b i s = record (used (Selects i m.token) s) { target = Within (designated s b m) }

abbrev pub designator : Target → Source → ℕ → State → State
designator (Whole c) t i s = s
designator (Within b) t i s = designating (dotted t s (name_at t i) (starts_from b)) b i s

-- `[e]`, of which e is an operand
abbrev pub index_within : Target → Target
index_within (Whole c) = Whole c
index_within (Within b) = Within (indexed b)

abbrev pub index_designator : State → State
index_designator s = record s { target = index_within s.target; values = drop 1 s.values }

-- ---- items

-- what an item is: a list in braces, a value of a type, or a string literal without parentheses
pub data Item : Type 0 where
  InBraces : Item
  Value : CType → Item
  StringValue : Item

-- an item takes what its designators reached, and without one what stands at the place
abbrev pub taken_by : State → Braces → Option Taken → Taken
taken_by s b None = record { object = object_at s b.object b.place; after = place_after s b.object b.place }
taken_by s b (Some x) = x

abbrev pub taken : State → Braces → Taken
taken s b = taken_by s b b.reached

-- A value that doesn't fill the object that it takes, so that braces are left out (6.7.9p13, p20): one of another type at a
-- record, and one that is no string at an array.
abbrev pub is_short : Item → Option CType → Bool
is_short (Value c) (Some (Rec r)) = not (same_type c (Rec r))
is_short StringValue (Some (Rec r)) = true
is_short (Value c) (Some (Arr d)) = true
is_short _ _ = false

abbrev pub with_item : State → Item → Braces → Braces
with_item s x b =
    record { object = b.object; place = if is_short x (taken s b).object then None else (taken s b).after; reached = None }

abbrev pub item_within : State → Item → Target → Target
item_within s x (Whole c) = Whole c
item_within s x (Within b) = Within (with_item s x b)

-- the tokens from left to right
abbrev pub leaves : Trees → List ℕ
leaves none = []
leaves (token i next) = i ∷ leaves next
leaves (action x next) = leaves next
leaves (node m asks children next) = leaves children ++ leaves next

-- an expression that is one string literal
abbrev pub is_string : Source → List ℕ → Bool
is_string t (i ∷ []) = is_string_literal t i
is_string t _ = false

-- the item that is the expression which ended last
abbrev pub value_item : Source → State → Item
value_item t s = if is_string t (leaves s.closed) then StringValue else Value (operand s)

abbrev pub value_ended : Source → State → State
value_ended t s = record s { target = item_within s (value_item t s) s.target; values = drop 1 s.values }

-- ---- beginnings

abbrev pub last_type : List Declaration → CType
last_type [] = Void
last_type (d ∷ []) = d.type
last_type (d ∷ ds) = last_type ds

-- an initialiser is for the object that was declared last, or for a compound literal of the last operand's type
abbrev pub initialiser : NonTerm → State → State
initialiser n.InitOpt s = record s { target = Whole (last_type s.declarations) }
initialiser _ s = record s { target = Whole (operand s) }

-- the object of a list in braces: the whole object, or that of the item which the list is
abbrev pub object_of : State → Target → Option CType
object_of s (Whole c) = Some c
object_of s (Within b) = (taken s b).object

-- the first member of a record that is complete where the list begins, the element of an array, or the one scalar
abbrev pub first_place : State → Option CType → Option ℕ
first_place s (Some (Rec r)) = first_in (length (complete s r))
first_place s _ = Some 0

abbrev pub list_for : State → Option CType → Braces
list_for s c = opened c (first_place s c)

abbrev pub list_opened : State → State
list_opened s = record s { target = Within (list_for s (object_of s s.target)) }
