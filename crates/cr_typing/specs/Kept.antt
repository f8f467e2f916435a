-- What a record's names keep.
use Rattle.std.specs.Prelude.{◌≡◌, ℕ, ◌<◌, None, Some, List, [], ◌∷◌, ◌++◌, length, slice_get}
use Rattle.cr_base.specs.declared.token.Name.{Name}
use Rattle.cr_typing.specs.declared.members.Named.{Named}
use Rattle.cr_typing.specs.declared.members.MemberNo.{MemberNo}
use Rattle.cr_typing.specs.Members.{Members, Listed, listed, find}

-- none of the later names is there already, and no two of them are the same
abbrev pub AreNew : List (Name × Named) → List (Name × Named) → Type 0
AreNew earlier [] = Unit {0}
AreNew earlier (e ∷ es) = (find e.0 earlier ≡ None) × AreNew (earlier ++ e ∷ []) es

-- what names select are members below n
abbrev pub AreNamedBelow : ℕ → List (Name × Named) → Type 0
AreNamedBelow n named = (name : Name) (x : Named) → find name named ≡ Some x → x.member.0 < n

-- the members that a record lists are below n
pub record IsListedBelow (n : ℕ) (x : Listed) : Type 0 where
  pub declared : (i : ℕ) (k : MemberNo) → slice_get x.declared i ≡ Some k → k.0 < n
  pub named : AreNamedBelow n x.named

-- what records list are members
abbrev pub AreListed : Members → Type 0
AreListed m = (q : ℕ) → IsListedBelow (length m.all) (listed m q)
