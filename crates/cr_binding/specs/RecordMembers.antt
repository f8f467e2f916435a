-- The members of structures and unions (C11 6.7.2.1), and what selects them (6.5.2.3). A record has two lists: the members
-- that are written in it, an anonymous record being one, and the names that select in it.
use Rattle.std.specs.Prelude.{ℕ, Bool, ◌==◌, eqb, nat_lt, if◌then◌else◌, Option, Some, None, Result, Ok, Err, List, [], ◌∷◌, ◌++◌, length, filter, map}
use Rattle.std.specs.List.{list_any, find}
use Rattle.cr_base.specs.declared.token.Name.{Name}
use Rattle.cr_base.specs.declared.cause.IllCause.{IllCause}
use Rattle.cr_base.specs.declared.cause.IllCause.TheVariants as cause
use Rattle.cr_scope.specs.Declarations.{same_name}
use Rattle.cr_types.specs.Types.{CType, Mixed, Ptr, Rec}
use Rattle.cr_typing.specs.ExpressionTypes.{decayed}
use Rattle.cr_binding.specs.Source.{Source, name_at}
use Rattle.cr_binding.specs.State.{Written, Member, State}
use Rattle.cr_binding.specs.Declaring.{failed}
use Rattle.cr_binding.specs.Specifying.{specified_type}
use Rattle.cr_binding.specs.Tags.{record_of}

-- the types of the members that are written in record number r
abbrev pub written_in : State → ℕ → List CType
written_in s r = map {A = Written} (λ x. x.type) (filter (λ x. x.holder == r) s.written)

-- the names that select in it, those of anonymous records in their place
abbrev pub members_of : State → ℕ → List Member
members_of s r = filter (λ m. m.holder == r) s.members

-- its list of members ended: it is complete (6.7.2.1p8)
abbrev pub is_complete : State → ℕ → Bool
is_complete s r = list_any (eqb r) s.ended

-- ---- selecting

abbrev pub is_named : Source → Name → Member → Bool
is_named t name m = same_name (name_at t m.token) name

abbrev pub or_no_member : Option Member → Result Member IllCause
or_no_member None = Err cause.NoMember
or_no_member (Some m) = Ok m

-- the member of a record with a name: one that is incomplete has none
abbrev pub member_in : Source → State → ℕ → Name → Result Member IllCause
member_in t s r name = or_no_member (if is_complete s r then find (is_named t name) (members_of s r) else None)

-- what `.name` selects of a type (6.5.2.3p1)
abbrev pub selected : Source → State → Name → CType → Result Member IllCause
selected t s name (Rec r) = member_in t s r name
selected t s name Mixed = Err cause.GenericType
selected t s name _ = Err cause.NotRecord

-- what `->name` selects of an operand (6.5.2.3p2)
abbrev pub selected_through : Source → State → Name → CType → Result Member IllCause
selected_through t s name (Ptr c) = selected t s name c
selected_through t s name Mixed = Err cause.GenericType
selected_through t s name _ = Err cause.NotRecord

abbrev pub select : Source → State → Bool → Name → CType → Result Member IllCause
select t s arrow name c = if arrow then selected_through t s name (decayed c) else selected t s name c

-- ---- adding

-- those whose names select in record number r already
abbrev pub repeated : Source → State → ℕ → List Member → List Member
repeated t s r new = filter (λ m. list_any (is_named t (name_at t m.token)) (members_of s r)) new

abbrev pub lesser : ℕ → Option ℕ → ℕ
lesser i None = i
lesser i (Some j) = if nat_lt j i then j else i

abbrev pub least_token : List Member → Option ℕ
least_token [] = None
least_token (m ∷ ms) = Some (lesser m.token (least_token ms))

-- a written member of a type, with the names that it brings; of names that are there already the first one is refused
abbrev pub write_unless : Option ℕ → ℕ → CType → List Member → State → State
write_unless (Some i) r c new s = failed cause.Redeclared i s
write_unless None r c new s =
    record s { written = s.written ++ (record { holder = r; type = c }) ∷ []; members = s.members ++ new }

abbrev pub write : Source → ℕ → CType → List Member → State → State
write t r c new s = write_unless (least_token (repeated t s r new)) r c new s

-- the member of a declarator with a name at token i (6.7.2.1p1)
abbrev pub named_member : ℕ → ℕ → CType → State → Member
named_member r i c s = record { holder = r; own = r; place = length (written_in s r); token = i; type = c }

abbrev pub add_member : Source → Option ℕ → Option ℕ → CType → State → State
add_member t (Some r) (Some i) c s = write t r c (named_member r i c s ∷ []) s
add_member t _ _ c s = s

-- The names of record number q, which is an anonymous member of record number r, select in r too (6.7.2.1p13).
abbrev pub brought_in : ℕ → ℕ → State → List Member
brought_in r q s = map {A = Member} (λ m. record m { holder = r }) (members_of s q)

abbrev pub add_anonymous : Source → Option ℕ → Option ℕ → CType → State → State
add_anonymous t (Some r) (Some q) c s = write t r c (brought_in r q s) s
add_anonymous t _ _ c s = s

-- A declaration of members without a declarator: a record without a tag that is specified there is an anonymous member;
-- anything else, as a typedef name, declares none.
abbrev pub splice : Source → State → State
splice t s =
    let c = specified_type s.pending in
    if s.pending.is_untagged then add_anonymous t s.filled (record_of c) c s else s

-- the list of the record ends
abbrev pub end_record : Option ℕ → State → State
end_record None s = s
end_record (Some r) s = record s { ended = s.ended ++ r ∷ [] }
