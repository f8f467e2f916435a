-- Tags, and the types that they name (C11 6.7.2.1 to 6.7.2.3).
use Rattle.std.specs.Prelude.{ℕ, eqb, if◌then◌else◌, Option, Some, None, option_and_then, [], ◌∷◌, ◌++◌, length, Bool, true, false}
use Rattle.std.specs.List.{list_any, find}
use Rattle.cr_base.specs.declared.Kind.{Kind}
use Rattle.cr_base.specs.declared.Kind.TheVariants as kind
use Rattle.cr_base.specs.declared.cause.IllCause.TheVariants as cause
use Rattle.cr_scope.specs.declared.Space.TheVariants as space
use Rattle.cr_scope.specs.Redeclaration.{repeats}
use Rattle.cr_types.specs.Types.{CType, Arith, Rec}
use Rattle.cr_binding.specs.Source.{Source}
use Rattle.cr_binding.specs.State.{Declaration, State}
use Rattle.cr_binding.specs.Entities.{is_tag_here, token_or}
use Rattle.cr_binding.specs.Declaring.{failed, declare_plain, meaning_here, declaration_at, looked_up}
use Rattle.cr_binding.specs.Specifying.{based}

abbrev pub is_record_kind : Kind → Bool
is_record_kind kind.Struct = true
is_record_kind kind.Union = true
is_record_kind _ = false

abbrev pub is_union_kind : Kind → Bool
is_union_kind kind.Union = true
is_union_kind _ = false

-- one more record, if the keyword announced one, that begins at token i
abbrev pub with_record : ℕ → State → State
with_record i s =
    if is_record_kind s.keyword
    then record s { records = s.records ++ (record { token = i; is_union = is_union_kind s.keyword }) ∷ [] }
    else s

-- the type that the keyword announced, where nothing named it before
abbrev pub new_type : State → CType
new_type s = if is_record_kind s.keyword then Rec (length s.records) else Arith

abbrev pub record_of : CType → Option ℕ
record_of (Rec r) = Some r
record_of _ = None

-- ---- a tag in the present scope

-- the first declaration of it
abbrev pub tag_here : Source → ℕ → State → Option Declaration
tag_here t i s = find (is_tag_here t s.present i) s.declarations

-- a tag of a type is declared at token i, and the type is specified
abbrev pub declare_tag : Source → ℕ → CType → State → State
declare_tag t i c s = based c (declare_plain t space.Tag s.keyword i c s)

-- the tag is declared again, or for the first time
abbrev pub tag_again : Option Declaration → Source → ℕ → State → State
tag_again None t i s = declare_tag t i (new_type s) (with_record i s)
tag_again (Some d) t i s = declare_tag t i d.type s

-- `struct T ;` declares the tag in the present scope (6.7.2.3p7)
abbrev pub tag_alone : Source → ℕ → State → State
tag_alone t i s = tag_again (tag_here t i s) t i s

-- ---- a tag that is completed

-- the members of the specified record follow
abbrev pub filling : State → State
filling s = record s { filled = option_and_then record_of s.pending.base }

abbrev pub completing : ℕ → State → State
completing i s = record s { completed = s.completed ++ i ∷ [] }

-- `struct T {` completes the tag of the present scope, which happens once (6.7.2.3p1)
abbrev pub tag_definition : Source → ℕ → State → State
tag_definition t i s =
    let first = token_or i (tag_here t i s) in
    if list_any (eqb first) s.completed then failed cause.Redeclared i s else filling (completing first (tag_alone t i s))

-- a brace at token i in the place of a tag
abbrev pub untagged : ℕ → State → State
untagged i s =
    filling (with_record i (record s { pending = record s.pending { base = Some (new_type s); is_untagged = is_record_kind s.keyword } }))

-- ---- a tag that is used

-- Any other `struct T` is the visible tag, which must have the same keyword; where none is visible it declares one in the
-- present scope (6.7.2.3p3, p8).
abbrev pub used_tag : Option ℕ → Option Declaration → Source → ℕ → State → State
used_tag k None t i s = tag_again None t i (looked_up space.Tag i None s)
used_tag k (Some d) t i s =
    if repeats false d.kind s.keyword then based d.type (looked_up space.Tag i k s) else failed cause.Redeclared i s

abbrev pub tag_use : Source → ℕ → State → State
tag_use t i s = let k = meaning_here t space.Tag i s in used_tag k (declaration_at s k) t i s
