-- What a renaming without a conflict keeps of what one action reads: the laws on one mention, in the state of a unit.
use Rattle.std.specs.Prelude.{◌≡◌, ℕ, Bool, true, false, cond, Some, None, List, [], ◌∷◌, ◌++◌, length, map, slice_get}
use Rattle.cr_base.specs.declared.Name.{Name}
use Rattle.cr_base.specs.declared.Kind.{Kind}
use Rattle.cr_scope.specs.declared.Space.{Space}
use Rattle.cr_scope.specs.declared.Space.TheVariants as space
use Rattle.cr_scope.specs.declared.Linkage.{Linkage}
use Rattle.cr_scope.specs.declared.Linkage.TheVariants as linkage
use Rattle.cr_scope.specs.declared.DeclNo.{DeclNo}
use Rattle.cr_scope.specs.Declarations.{Entry, Flat, number}
use Rattle.cr_scope.specs.Meaning.{IsLookup}
use Rattle.cr_types.specs.Types.{Void}
use Rattle.cr_decl.specs.declared.SpecWord.TheVariants as word
use Rattle.cr_capture.specs.declared.Mention.TheVariants as mention
use Rattle.cr_capture.specs.Renaming.{Class, IsRenaming, IsFree, AreFree, AreAccepted, IsFreeParameter}
use Rattle.cr_binding.specs.Source.{Source, name_at}
use Rattle.cr_binding.specs.State.{Declaration, State}
use Rattle.cr_binding.specs.Entities.{entry, is_tag_here}
use Rattle.cr_binding.specs.Declaring.{declaration, declaration_at, meaning_here, linkage_for, has_word}
use Rattle.cr_binding.specs.Tags.{tag_here}
use Rattle.cr_binding.specs.WellFormed.{is_typedef_name}
use Rattle.cr_binding.specs.BindingStays.{MeansAlike, is_refused}

-- u is t, with the name new at the tokens of a class
pub record IsRespelled (class : ℕ → Bool) (new : Name) (t u : Source) : Type 0 where
  pub names : (i : ℕ) → name_at u i ≡ cond (class i) new (name_at t i)

-- the declarations of those tokens
abbrev pub declared_by : (ℕ → Bool) → Class
declared_by class e = class e.decl.token

abbrev pub entries_of : Source → State → List Entry
entries_of t s = map (entry t) s.declarations

-- the scopes of a state, as far as meanings depend on them
abbrev pub scopes_of : Source → State → Flat
scopes_of t s = record { scopes = []; present = s.present; entries = entries_of t s }

-- the same with one declaration more
abbrev pub scopes_with : Source → State → Declaration → Flat
scopes_with t s d = record { scopes = []; present = s.present; entries = entries_of t s ++ entry t d ∷ [] }

-- A token that denotes a declaration, and is renamed just where that is, denotes it after the renaming.
abbrev pub KeepsMeaning : Type 0
KeepsMeaning =
    (class : ℕ → Bool) (old new : Name) (t u : Source) (s : State) (sp : Space) (i : ℕ) (d : DeclNo) (e : Entry)
    → IsRespelled class new t u
    → IsRenaming (declared_by class) old new (entries_of t s)
    → AreFree (declared_by class) (scopes_of t s) old new
    → IsFree (declared_by class) (scopes_of t s) old new (mention.Named sp (name_at t i) i (Some d))
    → IsLookup s.present sp (name_at t i) (entries_of t s) (number d) e
    → class i ≡ class e.decl.token
    → MeansAlike t u s sp i

-- A declaration that may stand beside those before it may stand beside them after the renaming.
abbrev pub KeepsDeclaration : Type 0
KeepsDeclaration =
    (class : ℕ → Bool) (old new : Name) (t u : Source) (s : State) (d : Declaration) (own : DeclNo)
    → IsRespelled class new t u
    → IsRenaming (declared_by class) old new (scopes_with t s d).entries
    → number own ≡ length (entries_of t s)
    → IsFree (declared_by class) (scopes_with t s d) old new (mention.Declared own)
    → is_refused t u s t d ≡ false
    → is_refused t u s u d ≡ false

-- the linkage that an object or a function takes at a token
abbrev pub taken_linkage : Source → State → Kind → ℕ → Linkage
taken_linkage t s what i = linkage_for t (declaration_at s (meaning_here t space.Ordinary i s)) what s

-- The declaration of an object or a function at a token, with the linkage that it takes.
abbrev pub taking : Source → State → Kind → ℕ → Declaration
taking t s what i = declaration space.Ordinary what (taken_linkage t s what i) i Void s

-- It takes the same linkage after the renaming. Where that is internal and comes from what is seen, it is a mention of that.
abbrev pub KeepsTakenLinkage : Type 0
KeepsTakenLinkage =
    (class : ℕ → Bool) (old new : Name) (t u : Source) (s : State) (what : Kind) (i : ℕ) (own : DeclNo)
    → IsRespelled class new t u
    → IsRenaming (declared_by class) old new (scopes_with t s (taking t s what i)).entries
    → AreFree (declared_by class) (scopes_of t s) old new
    → number own ≡ length (entries_of t s)
    → IsFree (declared_by class) (scopes_with t s (taking t s what i)) old new (mention.Declared own)
    → (has_word word.Static s ≡ false → (d : DeclNo) (e : Entry) → IsLookup s.present space.Ordinary (name_at t i) (entries_of t s) (number d) e → e.decl.linkage ≡ linkage.Internal → taken_linkage t s what i ≡ linkage.Internal → IsFree (declared_by class) (scopes_of t s) old new (mention.Named space.Ordinary (name_at t i) i (Some d)))
    → is_refused t u s t (taking t s what i) ≡ false
    → taken_linkage u s what i ≡ taken_linkage t s what i

-- the tag that a token declares
abbrev pub tag_at : State → ℕ → Declaration
tag_at s i = declaration space.Tag s.keyword linkage.None i Void s

-- A tag use that finds nothing, and so declares its tag, finds nothing after the renaming.
abbrev pub KeepsUnseenTag : Type 0
KeepsUnseenTag =
    (class : ℕ → Bool) (old new : Name) (t u : Source) (s : State) (i : ℕ)
    → IsRespelled class new t u
    → IsRenaming (declared_by class) old new (scopes_with t s (tag_at s i)).entries
    → IsFree (declared_by class) (scopes_with t s (tag_at s i)) old new (mention.Named space.Tag (name_at t i) i None)
    → meaning_here t space.Tag i s ≡ None
    → meaning_here u space.Tag i s ≡ None

-- An identifier that was asked and denotes a declaration is a typedef name after the renaming just where it was one,
abbrev pub KeepsAskedName : Type 0
KeepsAskedName =
    (class : ℕ → Bool) (old new : Name) (t u : Source) (s : State) (i : ℕ) (d : DeclNo) (e : Entry)
    → IsRespelled class new t u
    → IsRenaming (declared_by class) old new (entries_of t s)
    → AreFree (declared_by class) (scopes_of t s) old new
    → IsFree (declared_by class) (scopes_of t s) old new (mention.Named space.Ordinary (name_at t i) i (Some d))
    → IsLookup s.present space.Ordinary (name_at t i) (entries_of t s) (number d) e
    → class i ≡ class e.decl.token
    → is_typedef_name u s.present i s.declarations ≡ is_typedef_name t s.present i s.declarations

-- and one that declares a parameter or is built in, and was no typedef name, is none.
abbrev pub KeepsDeniedAsk : Type 0
KeepsDeniedAsk =
    (class : ℕ → Bool) (old new : Name) (t u : Source) (s : State) (i : ℕ) (parameter : Bool)
    → IsRespelled class new t u
    → IsRenaming (declared_by class) old new (entries_of t s)
    → AreAccepted (entries_of t s)
    → AreFree (declared_by class) (scopes_of t s) old new
    → IsFree (declared_by class) (scopes_of t s) old new (mention.Asked (name_at t i) i parameter)
    → IsFreeParameter (class i) (scopes_of t s) old new (name_at t i) i parameter
    → is_typedef_name t s.present i s.declarations ≡ false
    → is_typedef_name u s.present i s.declarations ≡ false

-- The tag of the present scope that a token defines or declares again is the same one, or there is none, after the renaming.
-- Tags of one name in one scope are one entity, so all or none of them is renamed.
abbrev pub KeepsTagHere : Type 0
KeepsTagHere =
    (class : ℕ → Bool) (old new : Name) (t u : Source) (s : State) (i : ℕ) (own : DeclNo)
    → IsRespelled class new t u
    → IsRenaming (declared_by class) old new (scopes_with t s (tag_at s i)).entries
    → number own ≡ length (entries_of t s)
    → IsFree (declared_by class) (scopes_with t s (tag_at s i)) old new (mention.Declared own)
    → ((k : ℕ) (d : Declaration) → slice_get s.declarations k ≡ Some d → is_tag_here t s.present i d ≡ true → class i ≡ class d.token)
    → tag_here u i s ≡ tag_here t i s
