-- Which declarations of a name old can't be given the name new, since one mention would change its meaning (C11 6.2.1,
-- 6.2.2). A conflict is a pair: the declaration, and the token at which the change would be seen.
use Rattle.std.specs.Prelude.{◌≡◌, ℕ, ◌<◌, ◌≤◌, ◌⊎◌, Bool, true, Option, Some, None, slice_get, max}
use Rattle.cr_base.specs.declared.Name.{Name}
use Rattle.cr_base.specs.declared.Kind.TheVariants as kind
use Rattle.cr_scope.specs.declared.Space.{Space}
use Rattle.cr_scope.specs.declared.Space.TheVariants as space
use Rattle.cr_scope.specs.declared.DeclNo.{DeclNo}
use Rattle.cr_scope.specs.Declarations.{Entry, Flat, depth, is_prefix, lookup, number}
use Rattle.cr_scope.specs.Meaning.{Sees, IsLookup}
use Rattle.cr_scope.specs.Linkage.{has_linkage, linked}
use Rattle.cr_capture.specs.declared.Mention.{Mention}
use Rattle.cr_capture.specs.declared.Mention.TheVariants as mention

-- A declaration of old and a token. In place of a declaration None stands for the parameter that the token declares,
-- which isn't in the list yet.
abbrev pub Pair : Type 0
Pair = Option DeclNo × ℕ

-- the declaration d has the entry e
abbrev pub IsEntry : Flat → DeclNo → Entry → Type 0
IsEntry f d e = slice_get f.entries (number d) ≡ Some e

-- the declaration d, with the entry e, is visible under this name; others may hide it
abbrev pub Shows : Flat → Space → Name → DeclNo → Entry → Type 0
Shows f s name d e = Sees f.present s name f.entries (number d) e

abbrev pub IsTypedef : Entry → Type 0
IsTypedef e = e.decl.kind ≡ kind.Typedef

-- The scope of e is deeper than that of what a mention denotes. A tag that a mention declares isn't denoted yet.
abbrev pub IsDeeperThan : Flat → Entry → Option DeclNo → Type 0
IsDeeperThan f e None = Unit {0}
IsDeeperThan f e (Some c) = (g : Entry) × IsEntry f c g × (depth g < depth e)

-- (a) A mention of new, where d, of the name old, is visible in a deeper scope than what the mention denotes.
pub record IsCaptured (f : Flat) (old new : Name) (s : Space) (name : Name) (denoted : Option DeclNo) (d : DeclNo) : Type 0 where
  pub mentions : name ≡ new
  pub itself : Entry
  pub seen : Shows f s old d itself
  pub deeper : IsDeeperThan f itself denoted

-- what a mention denotes, or the tag that it declares
abbrev pub IsMeant : Flat → Space → Name → DeclNo → Option DeclNo → Type 0
IsMeant f s name d None = lookup f.present s name f.entries ≡ Some (number d)
IsMeant f s name d (Some c) = d ≡ c

-- The scope of g is that of e or deeper. For the tag that a mention declares any scope counts.
abbrev pub IsNotOutside : Entry → Entry → Option DeclNo → Type 0
IsNotOutside g e None = Unit {0}
IsNotOutside g e (Some c) = depth e ≤ depth g

-- (b) A mention of old that denotes d, where new is visible in the scope of d or in a deeper one.
pub record IsHidden (f : Flat) (old new : Name) (s : Space) (name : Name) (denoted : Option DeclNo) (d : DeclNo) : Type 0 where
  pub mentions : name ≡ old
  pub meant : IsMeant f s name d denoted
  pub itself : Entry
  pub there : IsEntry f d itself
  pub other : DeclNo
  pub over : Entry
  pub seen : Shows f s new other over
  pub inside : IsNotOutside over itself denoted

-- (c) The declaration c is one of two in one scope and name space, of which d has the name old and the other new. The
-- token is the later one of theirs.
pub record Collides (f : Flat) (old new : Name) (c : DeclNo) (d : DeclNo) (token : ℕ) : Type 0 where
  pub itself : Entry
  pub there : IsEntry f d itself
  pub named : itself.decl.name ≡ old
  pub other : DeclNo
  pub beside : Entry
  pub other_there : IsEntry f other beside
  pub other_named : beside.decl.name ≡ new
  pub one_scope : itself.path ≡ beside.path
  pub one_space : itself.decl.space ≡ beside.decl.space
  pub made : (c ≡ d) ⊎ (c ≡ other)
  pub at : token ≡ max itself.decl.token beside.decl.token

-- (d) The declaration c has linkage, under one of the names, and the other name has linkage in the unit too. What a
-- name with linkage means is one thing in a unit, told by its first declaration: d for old. The token is the later one
-- of the two first declarations.
pub record AreBothLinked (f : Flat) (old new : Name) (c : DeclNo) (d : DeclNo) (token : ℕ) : Type 0 where
  pub itself : Entry
  pub there : IsEntry f c itself
  pub has : has_linkage itself.decl.linkage ≡ true
  pub named : (itself.decl.name ≡ old) ⊎ (itself.decl.name ≡ new)
  pub first_old : linked old f.entries ≡ Some (number d)
  pub of_old : Entry
  pub old_there : IsEntry f d of_old
  pub other : DeclNo
  pub first_new : linked new f.entries ≡ Some (number other)
  pub of_new : Entry
  pub new_there : IsEntry f other of_new
  pub at : token ≡ max of_old.decl.token of_new.decl.token

-- d is a typedef of the name old in a deeper scope than every declaration of new
pub record IsTypedefOver (f : Flat) (old new : Name) (d : DeclNo) : Type 0 where
  pub itself : Entry
  pub seen : Shows f space.Ordinary old d itself
  pub sort : IsTypedef itself
  pub deeper : (c : DeclNo) (e : Entry) → Shows f space.Ordinary new c e → depth e < depth itself

-- d, of the name old, is no typedef and stands in a deeper scope than some typedef of old
pub record IsOverTypedef (f : Flat) (old : Name) (d : DeclNo) : Type 0 where
  pub itself : Entry
  pub seen : Shows f space.Ordinary old d itself
  pub sort : IsTypedef itself → ⊥
  pub other : DeclNo
  pub outer : Entry
  pub other_seen : Shows f space.Ordinary old other outer
  pub other_sort : IsTypedef outer
  pub deeper : depth outer < depth itself

-- the last declaration of a name in the deepest scope is a typedef
abbrev pub IsTypeName : Flat → Name → Type 0
IsTypeName f name =
    (d : DeclNo) × (e : Entry) × IsLookup f.present space.Ordinary name f.entries (number d) e × IsTypedef e

-- (e) Whether an identifier is a typedef name was asked and denied; the token declares a parameter, or denotes what is
-- built in. The answer would be another one after the renaming:
-- (e1) the token is new, which a typedef of old would then hide;
abbrev pub FindsTypedef : Flat → (old new : Name) → Name → (token : ℕ) → Pair → Type 0
FindsTypedef f old new name token x = (name ≡ new) × (d : DeclNo) × (x ≡ (Some d, token)) × IsTypedefOver f old new d

-- (e2) the token is old, and a declaration would no longer hide a typedef of old;
abbrev pub UncoversTypedef : Flat → (old : Name) → Name → (token : ℕ) → Pair → Type 0
UncoversTypedef f old name token x = (name ≡ old) × (d : DeclNo) × (x ≡ (Some d, token)) × IsOverTypedef f old d

-- (e3) the token is old and declares a parameter, which is renamed itself, and new is a typedef name;
abbrev pub TakesTypeName : Flat → (old new : Name) → Name → (token : ℕ) → (parameter : Bool) → Pair → Type 0
TakesTypeName f old new name token parameter x =
    (name ≡ old) × (parameter ≡ true) × (x ≡ (None, token)) × IsTypeName f new

-- (e4) the token is old and declares a parameter, and a typedef of old would hide what is new.
abbrev pub FollowsTypedef : Flat → (old new : Name) → Name → (token : ℕ) → (parameter : Bool) → Pair → Type 0
FollowsTypedef f old new name token parameter x =
    (name ≡ old) × (parameter ≡ true) × (d : DeclNo) × (x ≡ (Some d, token)) × IsTypedefOver f old new d

-- The conflicts that a mention makes.
abbrev pub IsConflict : Flat → (old new : Name) → Pair → Mention → Type 0
IsConflict f old new x (mention.Named s name token denoted) =
    (d : DeclNo) × (x ≡ (Some d, token))
    × (IsCaptured f old new s name denoted d ⊎ IsHidden f old new s name denoted d)
IsConflict f old new x (mention.Asked name token parameter) =
    (FindsTypedef f old new name token x ⊎ FollowsTypedef f old new name token parameter x)
    ⊎ (UncoversTypedef f old name token x ⊎ TakesTypeName f old new name token parameter x)
IsConflict f old new x (mention.Declared c) =
    (d : DeclNo) × (token : ℕ) × (x ≡ (Some d, token))
    × (Collides f old new c d token ⊎ AreBothLinked f old new c d token)

-- a named mention is of something visible, or of a tag that it has declared at its token
abbrev pub IsDenoted : Flat → Space → Name → ℕ → Option DeclNo → Type 0
IsDenoted f s name t None =
    (d : DeclNo) × (e : Entry) × IsLookup f.present s name f.entries (number d) e × (e.decl.token ≡ t)
IsDenoted f s name t (Some d) = (e : Entry) × Shows f s name d e

-- what a mention names is visible
abbrev pub IsVisible : Flat → Mention → Type 0
IsVisible f (mention.Named s name t denoted) = IsDenoted f s name t denoted
IsVisible f (mention.Asked name t parameter) = Unit {0}
IsVisible f (mention.Declared d) = (e : Entry) × IsEntry f d e × (is_prefix e.path f.present ≡ true)
