-- Which conflicts a unit that means the same after a renaming can't have had.
use Rattle.std.specs.Prelude.{◌≡◌, ◌≢◌, ◌⊎◌, ◌<◌, ◌≤◌, ℕ, Bool, true, false, cond, Some, None, List, slice_get, Contains}
use Rattle.cr_base.specs.declared.token.Name.{Name}
use Rattle.cr_ll.specs.Derivation.{Trees}
use Rattle.cr_scope.specs.declared.Space.{Space}
use Rattle.cr_scope.specs.declared.Space.TheVariants as space
use Rattle.cr_scope.specs.declared.DeclNo.{DeclNo}
use Rattle.cr_scope.specs.Declarations.{Entry, Flat, depth, number}
use Rattle.cr_capture.specs.declared.Mention.{Mention}
use Rattle.cr_capture.specs.declared.Mention.TheVariants as mention
use Rattle.cr_capture.specs.Conflicts.{Pair, Shows, IsTypedef, IsTypeName, IsTypedefOver, IsConflict}
use Rattle.cr_binding.specs.Source.{Source, name_at}
use Rattle.cr_binding.specs.State.{Declaration, LookedUp, State}
use Rattle.cr_binding.specs.UnitConflicts.{Mentions, declaration_of}
use Rattle.cr_binding.specs.Binding.{bound}
use Rattle.cr_binding.specs.WellFormed.{IsWellFormed}
use Rattle.cr_binding.specs.MembersStay.{MeetNone}
use Rattle.cr_binding_law.specs.Renaming.{AreEntities}
use Rattle.cr_binding_law.specs.UnitStays.{MeansTheSame}

-- u is t with the name new in place of old at the tokens of a class
pub record IsRespelledAs (class : ℕ → Bool) (old new : Name) (t u : Source) : Type 0 where
  pub differ : old ≢ new
  pub names : (i : ℕ) → name_at u i ≡ cond (class i) new (name_at t i)
  pub spelled : (i : ℕ) → class i ≡ true → name_at t i ≡ old

-- a mention that isn't an ask
abbrev pub IsNoAsk : Mention → Type 0
IsNoAsk (mention.Asked name i parameter) = ⊥
IsNoAsk other = Prim.Unit {0}

abbrev pub IsOfClass : (ℕ → Bool) → Entry → Type 0
IsOfClass class e = class e.decl.token ≡ true

-- d is no later in a deeper scope, nor in the same one
abbrev pub IsNotBetter : DeclNo → Entry → DeclNo → Entry → Type 0
IsNotBetter m e j d = (depth d < depth e) ⊎ ((depth d ≡ depth e) × (number j ≤ number m))

-- The last declaration of a name in the deepest scope, of those outside the class.
pub record IsLookupOutside (class : ℕ → Bool) (f : Flat) (name : Name) (m : DeclNo) (e : Entry) : Type 0 where
  pub seen : Shows f space.Ordinary name m e
  pub outside : class e.decl.token ≡ false
  pub best : (j : DeclNo) (d : Entry) → Shows f space.Ordinary name j d → class d.decl.token ≡ false → IsNotBetter m e j d

-- An identifier at token i was asked and denied. Its answer would surely be another one:
pub data ChangesAnswer (class : ℕ → Bool) (old new : Name) (f : Flat) (name : Name) (i : ℕ) : Type 0 where
  -- (e1) it is new, a typedef of the class stands in a deeper scope than every declaration of new, and all visible declarations of the class are typedefs;
  finds : name ≡ new → (d : DeclNo) (e : Entry) → IsTypedefOver f old new d → Shows f space.Ordinary old d e → IsOfClass class e → ((c : DeclNo) (g : Entry) → Shows f space.Ordinary old c g → IsOfClass class g → IsTypedef g) → ChangesAnswer class old new f name i
  -- (e2) it is old and isn't renamed itself, and of the declarations of old that aren't renamed the last one in the deepest scope is a typedef;
  uncovers : name ≡ old → class i ≡ false → (m : DeclNo) (e : Entry) → IsLookupOutside class f old m e → IsTypedef e → ChangesAnswer class old new f name i
  -- (e3) it is old and is renamed itself, new is a typedef name, and no visible declaration is renamed.
  takes : name ≡ old → class i ≡ true → IsTypeName f new → ((c : DeclNo) (g : Entry) → Shows f space.Ordinary old c g → IsOfClass class g → ⊥) → ChangesAnswer class old new f name i

-- No mention but an ask has a conflict of the class, none of an ask would surely change its answer, and no member of the class
-- meets one of the name new.
pub record HasNoNeededConflict (class : ℕ → Bool) (old new : Name) (t : Source) (s : State) : Type 0 where
  pub mentions : (f : Flat) (what : Mention) (x : Pair) (d : Declaration) → IsNoAsk what → Mentions t s f what → IsConflict f old new x what → declaration_of s x ≡ Some d → class d.token ≡ true → ⊥
  pub asks : (f : Flat) (name : Name) (i : ℕ) (parameter : Bool) → Mentions t s f (mention.Asked name i parameter) → ChangesAnswer class old new f name i → ⊥
  pub members : MeetNone class new t s.members

-- A tag use that finds nothing declares its tag next.
abbrev pub TagsAreDeclared : Source → State → Type 0
TagsAreDeclared t s =
    (sp : Space) (i : ℕ) (path : List ℕ) (before : ℕ) → Contains s.uses (LookedUp sp i path before None) → (d : Declaration) × (slice_get s.declarations before ≡ Some d) × (d.token ≡ i)

abbrev pub UnitsDeclareTags : Type 0
UnitsDeclareTags = (t : Source) (tree : Trees) → (bound t tree).fault ≡ None → TagsAreDeclared t (bound t tree)

-- The converse of the law on units that are renamed without a conflict: a unit that means the same had none.
abbrev pub SameMeaningsAreFree : Type 0
SameMeaningsAreFree =
    (class : ℕ → Bool) (old new : Name) (t u : Source) (tree : Trees)
    → IsRespelledAs class old new t u
    → IsWellFormed t tree
    → AreEntities class t (bound t tree)
    → MeansTheSame t u tree
    → HasNoNeededConflict class old new t (bound t tree)
