-- A renaming of declarations, and what it keeps of mentions that have no conflict (C11 6.2.1, 6.2.2).
use Rattle.std.specs.Prelude.{◌≡◌, ◌↔◌, ◌≢◌, ℕ, ◌+◌, ◌<◌, Bool, true, false, cond, Some, None, List, length, map, take, slice_get}
use Rattle.cr_base.specs.declared.Name.{Name}
use Rattle.cr_scope.specs.declared.Space.{Space}
use Rattle.cr_scope.specs.declared.Space.TheVariants as space
use Rattle.cr_scope.specs.declared.Linkage.TheVariants as linkage
use Rattle.cr_scope.specs.declared.Decl.{Decl}
use Rattle.cr_scope.specs.declared.DeclNo.{DeclNo}
use Rattle.cr_scope.specs.Declarations.{Entry, Flat, IsDeclNo, declared, entry, lookup, number}
use Rattle.cr_scope.specs.Meaning.{IsLookup}
use Rattle.cr_scope.specs.Linkage.{has_linkage, linkage_of}
use Rattle.cr_scope.specs.Redeclaration.{clashes, is_redeclared}
use Rattle.cr_capture.specs.declared.Mention.{Mention}
use Rattle.cr_capture.specs.declared.Mention.TheVariants as mention
use Rattle.cr_capture.specs.Conflicts.{IsEntry, IsConflict, IsTypeName}

-- a class of declarations, which are renamed
abbrev pub Class : Type 0
Class = Entry → Bool

-- a name after the renaming, where a declaration has it, or a mention that denotes the declaration
abbrev pub name_after : Class → (new : Name) → Entry → Name → Name
name_after class new e name = cond (class e) new name

abbrev pub renamed : Class → Name → Entry → Entry
renamed class new e = record { path = e.path; decl = record e.decl { name = name_after class new e e.decl.name } }

abbrev pub all_renamed : Class → Name → Flat → Flat
all_renamed class new f = record { scopes = f.scopes; present = f.present; entries = map (renamed class new) f.entries }

-- The declarations of the class have the name old. What has linkage under one name is one thing, so it is in the class as
-- a whole.
pub record IsRenaming (class : Class) (old new : Name) (es : List Entry) : Type 0 where
  pub differ : old ≢ new
  pub named : (i : ℕ) (e : Entry) → slice_get es i ≡ Some e → class e ≡ true → e.decl.name ≡ old
  pub whole : (i j : ℕ) (e g : Entry) → slice_get es i ≡ Some e → slice_get es j ≡ Some g → e.decl.name ≡ g.decl.name → has_linkage e.decl.linkage ≡ true → has_linkage g.decl.linkage ≡ true → class e ≡ class g

-- no conflict of a mention names a declaration of the class
abbrev pub IsFree : Class → Flat → (old new : Name) → Mention → Type 0
IsFree class f old new what =
    (d : DeclNo) (token : ℕ) (e : Entry)
    → IsConflict f old new (Some d, token) what
    → IsEntry f d e
    → class e ≡ true
    → ⊥

-- The scopes when the declaration c had just been made, as far as its conflicts depend on them.
abbrev pub up_to : Flat → DeclNo → Flat
up_to f c = record { scopes = f.scopes; present = f.present; entries = take (number c + 1) f.entries }

-- nor does one that a declaration had when it was made
abbrev pub AreFree : Class → Flat → (old new : Name) → Type 0
AreFree class f old new = (c : DeclNo) → IsDeclNo f c → IsFree class (up_to f c) old new (mention.Declared c)

-- no declaration was refused: of two the later one doesn't clash with the earlier one
abbrev pub AreAccepted : List Entry → Type 0
AreAccepted es =
    (i j : ℕ) (e g : Entry) → j < i → slice_get es i ≡ Some e → slice_get es j ≡ Some g → clashes e g ≡ false

-- A mention that denotes d denotes it after the renaming too, under its new name where d is renamed.
abbrev pub KeepsLookup : Type 0
KeepsLookup =
    (class : Class) (old new : Name) (f : Flat) (s : Space) (name : Name) (token : ℕ) (d : DeclNo) (e : Entry)
    → IsRenaming class old new f.entries
    → AreFree class f old new
    → IsFree class f old new (mention.Named s name token (Some d))
    → IsLookup f.present s name f.entries (number d) e
    → lookup f.present s (name_after class new e name) (all_renamed class new f).entries
    ≡ lookup f.present s name f.entries

-- Nor does it change whether the mention, which was asked, is a typedef name.
abbrev pub KeepsAnswer : Type 0
KeepsAnswer =
    (class : Class) (old new : Name) (f : Flat) (name : Name) (token : ℕ) (d : DeclNo) (e : Entry)
    → IsRenaming class old new f.entries
    → AreFree class f old new
    → IsFree class f old new (mention.Named space.Ordinary name token (Some d))
    → IsLookup f.present space.Ordinary name f.entries (number d) e
    → IsTypeName (all_renamed class new f) (name_after class new e name) ↔ IsTypeName f name

-- A tag use that finds nothing, and so declares its tag x, finds nothing after the renaming either.
abbrev pub KeepsNewTag : Type 0
KeepsNewTag =
    (class : Class) (old new : Name) (f : Flat) (x : Decl)
    → IsRenaming class old new (declared f x).entries
    → IsFree class (declared f x) old new (mention.Named space.Tag x.name x.token None)
    → x.space ≡ space.Tag
    → lookup f.present space.Tag x.name f.entries ≡ None
    → lookup f.present space.Tag (name_after class new (entry f x) x.name) (all_renamed class new f).entries ≡ None

-- A declaration x, the number of which is own, takes the same linkage after the renaming. Where it takes internal linkage
-- from what it sees, not by `static`, it is a mention of that too.
abbrev pub KeepsLinkage : Type 0
KeepsLinkage =
    (class : Class) (old new : Name) (f : Flat) (x : Decl) (own : DeclNo) (static extern function : Bool)
    → IsRenaming class old new (declared f x).entries
    → AreFree class f old new
    → IsFree class (declared f x) old new (mention.Declared own)
    → (static ≡ false → (d : DeclNo) (e : Entry) → IsLookup f.present space.Ordinary x.name f.entries (number d) e → e.decl.linkage ≡ linkage.Internal → x.linkage ≡ linkage.Internal → IsFree class f old new (mention.Named space.Ordinary x.name x.token (Some d)))
    → number own ≡ length f.entries
    → x.linkage ≡ linkage_of f x.name static extern function
    → is_redeclared f x ≡ false
    → linkage_of (all_renamed class new f) (name_after class new (entry f x) x.name) static extern function
    ≡ linkage_of f x.name static extern function

-- The token of an ask that was denied: where it is renamed itself, it declares a parameter of the name old, of which no
-- conflict is one.
abbrev pub IsFreeParameter : Bool → Flat → (old new : Name) → Name → ℕ → Bool → Type 0
IsFreeParameter itself f old new name token parameter =
    itself ≡ true
    → (name ≡ old) × (parameter ≡ true)
    × ((t : ℕ) → IsConflict f old new (None, t) (mention.Asked name token parameter) → ⊥)

-- An identifier that was asked, and that is no typedef name, is none after the renaming.
abbrev pub KeepsAsk : Type 0
KeepsAsk =
    (class : Class) (old new : Name) (f : Flat) (name : Name) (token : ℕ) (parameter itself : Bool)
    → IsRenaming class old new f.entries
    → AreAccepted f.entries
    → AreFree class f old new
    → IsFree class f old new (mention.Asked name token parameter)
    → IsFreeParameter itself f old new name token parameter
    → (IsTypeName f name → ⊥)
    → IsTypeName (all_renamed class new f) (cond itself new name)
    → ⊥
