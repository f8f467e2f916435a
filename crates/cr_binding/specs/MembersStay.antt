-- What a renaming keeps of members (C11 6.2.3, 6.5.2.3).
use Rattle.std.specs.Prelude.{◌≡◌, ℕ, Bool, true, Ok, List, [], Contains}
use Rattle.cr_base.specs.declared.Name.{Name}
use Rattle.cr_binding.specs.Source.{Source, name_at}
use Rattle.cr_binding.specs.State.{Member, State}
use Rattle.cr_binding.specs.RecordMembers.{member_in, repeated}
use Rattle.cr_binding.specs.ActionsStay.{IsRespelled}

-- the tokens of a class have the name old
abbrev pub AreSpelled : (ℕ → Bool) → Name → Source → Type 0
AreSpelled class old t = (i : ℕ) → class i ≡ true → name_at t i ≡ old

-- a name selects one member of a record
abbrev pub AreDistinct : Source → List Member → Type 0
AreDistinct t ms =
    (m n : Member) → Contains ms m → Contains ms n → m.holder ≡ n.holder → name_at t m.token ≡ name_at t n.token → m.token ≡ n.token

-- no member of the class has one of the name new beside it in a record
abbrev pub MeetNone : (ℕ → Bool) → Name → Source → List Member → Type 0
MeetNone class new t ms =
    (m n : Member) → Contains ms m → Contains ms n → m.holder ≡ n.holder → class m.token ≡ true → name_at t n.token ≡ new → ⊥

-- A token that selects a member of a record, and is renamed just where that is, selects it after the renaming.
abbrev pub KeepsSelection : Type 0
KeepsSelection =
    (class : ℕ → Bool) (old new : Name) (t u : Source) (s : State) (r i : ℕ) (m : Member)
    → IsRespelled class new t u
    → AreSpelled class old t
    → AreDistinct t s.members
    → MeetNone class new t s.members
    → member_in t s r (name_at t i) ≡ Ok m
    → class i ≡ class m.token
    → member_in u s r (name_at u i) ≡ Ok m

-- Members whose names aren't in a record yet are new to it after the renaming.
abbrev pub KeepsNewMembers : Type 0
KeepsNewMembers =
    (class : ℕ → Bool) (old new : Name) (t u : Source) (s : State) (r : ℕ) (more : List Member)
    → IsRespelled class new t u
    → AreSpelled class old t
    → ((m n : Member) → Contains more m → Contains s.members n → n.holder ≡ r → class m.token ≡ true → name_at t n.token ≡ new → ⊥)
    → ((m n : Member) → Contains more m → Contains s.members n → n.holder ≡ r → class n.token ≡ true → name_at t m.token ≡ new → ⊥)
    → repeated t s r more ≡ []
    → repeated u s r more ≡ []
