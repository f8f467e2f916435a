-- What names select in a record, by the members that are declared in it.
use Rattle.std.specs.Prelude.{◌≡◌, ℕ, Option, Some, None, List, [], ◌∷◌, ◌++◌, slice_get}
use Rattle.cr_base.specs.declared.token.Name.{Name}
use Rattle.cr_types.specs.Types.{Rec, Table, type_at}
use Rattle.cr_typing.specs.declared.members.MemberNo.{MemberNo}
use Rattle.cr_typing.specs.declared.members.Named.{Named}
use Rattle.cr_typing.specs.declared.members.Placed.{Placed}
use Rattle.cr_typing.specs.Members.{Members, listed, names_by}

abbrev pub names_of : Table → Members → MemberNo → Option Placed → List (Name × Named)
names_of t m k None = []
names_of t m k (Some p) = names_by m k p.member.token (type_at t p.member.ty) p.member.name

-- the names of members one after another, where those of an anonymous record's members stand in its place (6.7.2.1p13)
abbrev pub spliced : Table → Members → List MemberNo → List (Name × Named)
spliced t m [] = []
spliced t m (k ∷ ks) = names_of t m k (slice_get m.all k.0) ++ spliced t m ks

-- so it is in each record
abbrev pub AreSpliced : Table → Members → Type 0
AreSpliced t m = (q : ℕ) → (listed m q).named ≡ spliced t m (listed m q).declared

-- record number r is an anonymous member
abbrev pub IsAnonymous : Table → Members → ℕ → Type 0
IsAnonymous t m r =
    (i : ℕ) × (p : Placed) × (slice_get m.all i ≡ Some p) × (p.member.name ≡ None) × (type_at t p.member.ty ≡ Rec r)
