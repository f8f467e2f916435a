-- How conflicts are found.
use Rattle.std.specs.Prelude.{◌≡◌, ℕ, ◌≤◌, ◌⊎◌, ◌↔◌, Bool, true, false, not, ◌&&◌, ltb, Option, Some, None, List, Contains, max, min}
use Rattle.std.specs.Option.{unwrap_or}
use Rattle.cr_base.specs.declared.Name.{Name}
use Rattle.cr_base.specs.declared.Kind.{Kind}
use Rattle.cr_base.specs.declared.Kind.TheVariants as kind
use Rattle.cr_scope.specs.declared.Space.{Space}
use Rattle.cr_scope.specs.declared.Space.TheVariants as space
use Rattle.cr_scope.specs.declared.DeclNo.{DeclNo}
use Rattle.cr_scope.specs.Declarations.{Entry, Flat, depth, number, lookup}
use Rattle.cr_scope.specs.Linkage.{has_linkage, linked}
use Rattle.cr_capture.specs.declared.finding.Sort.{Sort}
use Rattle.cr_capture.specs.declared.finding.Sort.TheVariants as sort
use Rattle.cr_capture.specs.Conflicts.{Pair, IsEntry, Shows, IsCaptured, IsHidden, Collides, AreBothLinked, FindsTypedef, FollowsTypedef}

-- of two lists the later one holds what the earlier one holds and what P is true of
abbrev pub Adds : List Pair → List Pair → (Pair → Type 0) → Type 0
Adds before after P = (x : Pair) → Contains after x ↔ (Contains before x ⊎ P x)

abbrev pub is_typedef : Kind → Bool
is_typedef kind.Typedef = true
is_typedef _ = false

abbrev pub is_of : Kind → Sort → Bool
is_of k sort.Any = true
is_of k sort.Typedef = is_typedef k
is_of k sort.Other = not (is_typedef k)

abbrev pub is_over : ℕ → Option ℕ → Bool
is_over d None = true
is_over d (Some than) = ltb than d

-- whether d is of a sort and deeper than a depth
abbrev pub IsFit : Flat → Sort → Option ℕ → DeclNo → Bool → Type 0
IsFit f sort than d b = (e : Entry) × IsEntry f d e × (b ≡ (is_of e.decl.kind sort && is_over (depth e) than))

-- d is a visible declaration of a name, of a sort and deeper than a depth
abbrev pub IsSought : Flat → Space → Name → Sort → Option ℕ → DeclNo → Type 0
IsSought f s name sort than d =
    (e : Entry) × Shows f s name d e × ((is_of e.decl.kind sort && is_over (depth e) than) ≡ true)

abbrev pub SoughtPair : Flat → Space → Name → Sort → Option ℕ → ℕ → Pair → Type 0
SoughtPair f s name sort than token x = (d : DeclNo) × (x ≡ (Some d, token)) × IsSought f s name sort than d

-- a depth is that of the outermost visible typedef of a name
pub record IsOutermost (f : Flat) (name : Name) (n : ℕ) : Type 0 where
  pub itself : DeclNo
  pub outer : Entry
  pub seen : Shows f space.Ordinary name itself outer
  pub sort : is_typedef outer.decl.kind ≡ true
  pub at : depth outer ≡ n
  pub least : (d : DeclNo) (e : Entry) → Shows f space.Ordinary name d e → is_typedef e.decl.kind ≡ true → n ≤ depth e

abbrev pub HasNoTypedef : Flat → Name → Type 0
HasNoTypedef f name =
    (d : DeclNo) (e : Entry) → Shows f space.Ordinary name d e → is_typedef e.decl.kind ≡ true → ⊥

-- a token is the later one of those of two declarations
abbrev pub IsLater : Flat → DeclNo → DeclNo → ℕ → Type 0
IsLater f c d token =
    (e : Entry) × (g : Entry) × IsEntry f c e × IsEntry f d g × (token ≡ max e.decl.token g.decl.token)

-- d, of a name, stands in one scope and space with c
pub record IsBeside (f : Flat) (c : DeclNo) (name : Name) (d : DeclNo) (token : ℕ) : Type 0 where
  pub itself : Entry
  pub there : IsEntry f c itself
  pub beside : Entry
  pub other_there : IsEntry f d beside
  pub named : beside.decl.name ≡ name
  pub one_scope : itself.path ≡ beside.path
  pub one_space : itself.decl.space ≡ beside.decl.space
  pub at : token ≡ max itself.decl.token beside.decl.token

abbrev pub BesidePair : Flat → DeclNo → Name → Option DeclNo → Pair → Type 0
BesidePair f c name named x =
    (d : DeclNo) × (token : ℕ) × (x ≡ (Some (unwrap_or named d), token)) × IsBeside f c name d token

-- the depth of a declaration, where there is one
abbrev pub IsDepthOf : Flat → Option DeclNo → Option ℕ → Type 0
IsDepthOf f None n = n ≡ None
IsDepthOf f (Some d) n = (e : Entry) × IsEntry f d e × (n ≡ Some (depth e))

abbrev pub least : ℕ → Option ℕ → ℕ
least d None = d
least d (Some n) = min n d

-- a name is visible in the scope of a denoted declaration or in a deeper one
abbrev pub IsVisibleFrom : Flat → Space → Name → Option DeclNo → Type 0
IsVisibleFrom f s name None = (d : DeclNo) × (e : Entry) × Shows f s name d e
IsVisibleFrom f s name (Some c) =
    (d : DeclNo) × (e : Entry) × (g : Entry) × Shows f s name d e × IsEntry f c g × (depth g ≤ depth e)

-- the conflicts of an identifier that is looked up
abbrev pub CapturedPair : Flat → (old new : Name) → Space → Name → ℕ → Option DeclNo → Pair → Type 0
CapturedPair f old new s name token denoted x =
    (d : DeclNo) × (x ≡ (Some d, token)) × IsCaptured f old new s name denoted d

abbrev pub HiddenPair : Flat → (old new : Name) → Space → Name → ℕ → Option DeclNo → Pair → Type 0
HiddenPair f old new s name token denoted x =
    (d : DeclNo) × (x ≡ (Some d, token)) × IsHidden f old new s name denoted d

-- a typedef is read anew: the token is new, or a parameter of the name old
abbrev pub IsReadAnew : (old new : Name) → Name → Bool → Type 0
IsReadAnew old new name parameter = (name ≡ new) ⊎ ((name ≡ old) × (parameter ≡ true))

abbrev pub TypedefPair : Flat → (old new : Name) → Name → ℕ → Bool → Pair → Type 0
TypedefPair f old new name token parameter x =
    FindsTypedef f old new name token x ⊎ FollowsTypedef f old new name token parameter x

-- the conflicts of a declaration c, where the pair names c itself, and where it names another
abbrev pub OwnCollision : Flat → (old new : Name) → DeclNo → Pair → Type 0
OwnCollision f old new c x =
    (d : DeclNo) × (token : ℕ) × (x ≡ (Some d, token)) × Collides f old new c d token × (c ≡ d)

abbrev pub OtherCollision : Flat → (old new : Name) → DeclNo → Pair → Type 0
OtherCollision f old new c x =
    (d : DeclNo) × (token : ℕ) × (x ≡ (Some d, token)) × (h : Collides f old new c d token) × (c ≡ h.other)

abbrev pub LinkedCollision : Flat → (old new : Name) → DeclNo → Pair → Type 0
LinkedCollision f old new c x =
    (d : DeclNo) × (token : ℕ) × (x ≡ (Some d, token)) × AreBothLinked f old new c d token

-- c has linkage, under one of two names
abbrev pub IsLinkedAs : Flat → (old new : Name) → DeclNo → Type 0
IsLinkedAs f old new c =
    (e : Entry) × IsEntry f c e × (has_linkage e.decl.linkage ≡ true) × ((e.decl.name ≡ old) ⊎ (e.decl.name ≡ new))

-- both names have linkage: the first declaration of old that has it, with the later one of the two first tokens
pub record IsLinked (f : Flat) (old new : Name) (d : DeclNo) (token : ℕ) : Type 0 where
  pub first_old : linked old f.entries ≡ Some (number d)
  pub of_old : Entry
  pub old_there : IsEntry f d of_old
  pub other : DeclNo
  pub first_new : linked new f.entries ≡ Some (number other)
  pub of_new : Entry
  pub new_there : IsEntry f other of_new
  pub at : token ≡ max of_old.decl.token of_new.decl.token

abbrev pub LinkedPair : Flat → (old new : Name) → Pair → Type 0
LinkedPair f old new x = (d : DeclNo) × (token : ℕ) × (x ≡ (Some d, token)) × IsLinked f old new d token

-- a mention that declares a tag means nothing while no declaration is visible
abbrev pub MeansNothing : Flat → Space → Name → Option DeclNo → Type 0
MeansNothing f s name denoted = (denoted ≡ None) × (lookup f.present s name f.entries ≡ None)

abbrev pub IsUnseen : Flat → Name → Type 0
IsUnseen f name = (d : DeclNo) (e : Entry) → Shows f space.Ordinary name d e → ⊥

-- a depth is that of the innermost visible declaration of a name
pub record IsInnermost (f : Flat) (name : Name) (n : ℕ) : Type 0 where
  pub itself : DeclNo
  pub inner : Entry
  pub seen : Shows f space.Ordinary name itself inner
  pub at : depth inner ≡ n
  pub greatest : (d : DeclNo) (e : Entry) → Shows f space.Ordinary name d e → depth e ≤ n
