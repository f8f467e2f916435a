-- Members by rows: their keys, and the members that would have one name in a record (C11 6.7.2.1, 6.2.3).
use Rattle.std.specs.Prelude.{◌≡◌, ℕ, ◌<◌, Bool, ◌&&◌, eqb, cond, if◌then◌else◌, max, Option, Some, None, List, length, map, slice_get, slice_index_or}
use Rattle.std.specs.List.{find}
use Rattle.cr_base.specs.declared.token.Name.{Name}
use Rattle.cr_base.specs.declared.token.Place.{Place}
use Rattle.cr_base.specs.declared.token.Tok.{Tok}
use Rattle.cr_base.specs.declared.key.Key.{Key}
use Rattle.cr_base.specs.declared.key.Key.TheVariants as key
use Rattle.cr_base.specs.declared.key.RecordKey.{RecordKey}
use Rattle.cr_base.specs.declared.key.RecordKey.TheVariants as record_key
use Rattle.cr_scope.specs.declared.Space.TheVariants as space
use Rattle.cr_scope.specs.Declarations.{same_space, same_name}
use Rattle.cr_facts.specs.declared.fact.Fact.{Fact}
use Rattle.cr_facts.specs.declared.fact.Fact.TheVariants as fact
use Rattle.cr_binding.specs.Source.{Source, no_token}
use Rattle.cr_binding.specs.State.{Member, Record, State}
use Rattle.cr_binding.specs.Keys.{record_key_by}
pub use Rattle.cr_binding.specs.Keys.{tag_kind}
use Rattle.cr_binding.specs.UnitConflicts.{MeetsAMember}
use Rattle.cr_declared.specs.declared.rows.Row.{Row}
use Rattle.cr_groups.specs.Built.{text_in}
use Rattle.cr_groups.specs.Firsts.{IsFirstOf}
use Rattle.cr_groups.specs.Rows.{name_in, place_in}
use Rattle.cr_conflicts.specs.declared.members.MemberRow.{MemberRow}

-- ---- what the rows show

abbrev pub row_of : Member → MemberRow
row_of m = record { holder = m.holder; own = m.own; token = m.token }

-- the rows show the members and the first tokens of the records
pub record AreMembers (s : State) (members : List MemberRow) (records : List ℕ) : Type 0 where
  pub members_are : members ≡ map row_of s.members
  pub records_are : records ≡ map {A = Record} (λ r. r.token) s.records

-- a member has a token, which is spelled, and the record in which it is written has one
pub record IsMember (texts : List (List ℕ)) (tokens : List Tok) (records : List ℕ) (m : MemberRow) : Type 0 where
  pub token : m.token < length tokens
  pub spelled : (name_in tokens m.token).0 < length texts
  pub own : m.own < length records
  pub first : slice_index_or records m.own 0 < length tokens

abbrev pub AreAllMembers : List (List ℕ) → List Tok → List ℕ → List MemberRow → Type 0
AreAllMembers texts tokens records members =
    (j : ℕ) (m : MemberRow) → slice_get members j ≡ Some m → IsMember texts tokens records m

abbrev pub AreAtTokens : List Tok → List MemberRow → Type 0
AreAtTokens tokens members = (j : ℕ) (m : MemberRow) → slice_get members j ≡ Some m → m.token < length tokens

-- no two members of one record have one name (C11 6.7.2.1, 6.2.3)
abbrev pub AreUnique : List Tok → List MemberRow → Type 0
AreUnique tokens members =
    (i j : ℕ) (m n : MemberRow) → slice_get members i ≡ Some m → slice_get members j ≡ Some n
    → m.holder ≡ n.holder → name_in tokens m.token ≡ name_in tokens n.token → i ≡ j

-- ---- keys

-- the declaration of a tag at a token
abbrev pub is_tag_row : ℕ → Row → Bool
is_tag_row i x = same_space x.decl.space space.Tag && eqb x.decl.token i

abbrev pub tag_token : Row → Option ℕ
tag_token x = cond (same_space x.decl.space space.Tag) (Some x.decl.token) None

abbrev pub token_record_key_in : ℕ → List Tok → ℕ → RecordKey
token_record_key_in unit tokens i = record_key_by unit i (slice_index_or tokens i no_token).origin

abbrev pub record_key_of : ℕ → List (List ℕ) → List Tok → ℕ → Option Row → RecordKey
record_key_of unit texts tokens i None = token_record_key_in unit tokens i
record_key_of unit texts tokens i (Some x) =
    if eqb x.path 0
    then record_key.Tag (tag_kind x.decl.kind) (text_in texts x.decl.name)
    else token_record_key_in unit tokens i

abbrev pub record_key_in : ℕ → List (List ℕ) → List Tok → List Row → ℕ → RecordKey
record_key_in unit texts tokens rows i = record_key_of unit texts tokens i (find (is_tag_row i) rows)

abbrev pub member_key_in : ℕ → List (List ℕ) → List Tok → List Row → List ℕ → MemberRow → Key
member_key_in unit texts tokens rows records m =
    key.Member (record_key_in unit texts tokens rows (slice_index_or records m.own 0)) (text_in texts (name_in tokens m.token))

-- ---- what members add

-- the record in which a name selects a member, where it has that name
abbrev pub holder_of : List Tok → Name → MemberRow → Option ℕ
holder_of tokens name m = cond (same_name (name_in tokens m.token) name) (Some m.holder) None

-- a member of old has one of new in the same record
abbrev pub MeetingAdds : ℕ → List (List ℕ) → List Tok → List Row → List ℕ → List MemberRow → (old new : Name) → MemberRow → Fact → Type 0
MeetingAdds unit texts tokens rows records members old new m f =
    (name_in tokens m.token ≡ old)
    × ((c : ℕ) × (first : IsFirstOf (holder_of tokens new) members (length members) m.holder c)
    × (f ≡ fact.Conflict (member_key_in unit texts tokens rows records m) (place_in tokens (max m.token first.itself.0.token))))

-- as it is meant
abbrev pub IsOfMembers : ℕ → Source → State → (old new : Name) → Fact → Type 0
IsOfMembers unit t s old new f =
    (k : Key) × (p : Place) × (f ≡ fact.Conflict k p) × MeetsAMember unit t s old new k p
