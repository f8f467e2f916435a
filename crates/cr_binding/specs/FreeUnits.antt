-- Units of which no conflict is one of a renamed entity: then none of their mentions has one, where it stands.
use Rattle.std.specs.Prelude.{◌≡◌, ℕ, ◌+◌, ◌<◌, Bool, true, false, Some, None, List, length, Contains}
use Rattle.cr_base.specs.declared.Name.{Name}
use Rattle.cr_scope.specs.declared.Space.{Space}
use Rattle.cr_scope.specs.declared.DeclNo.{DeclNo}
use Rattle.cr_scope.specs.Declarations.{Flat, number}
use Rattle.cr_capture.specs.declared.Mention.{Mention}
use Rattle.cr_capture.specs.declared.Mention.TheVariants as mention
use Rattle.cr_capture.specs.Conflicts.{Pair, IsConflict}
use Rattle.cr_capture.specs.Renaming.{IsFree, AreFree}
use Rattle.cr_binding.specs.Source.{Source, name_at}
use Rattle.cr_binding.specs.State.{Declaration, LookedUp, WasAsked, State}
use Rattle.cr_binding.specs.UnitConflicts.{entries_at, scopes_at, IsOfAsk, Mentions, declaration_of}
use Rattle.cr_binding.specs.ActionsStay.{declared_by}
use Rattle.cr_binding.specs.MembersStay.{MeetNone}

-- no mention has a conflict of a declaration whose token is of the class, and no members of the class meets another one
pub record IsFreeUnit (class : ℕ → Bool) (old new : Name) (t : Source) (s : State) : Type 0 where
  pub mentions : (f : Flat) (what : Mention) (x : Pair) (d : Declaration) → Mentions t s f what → IsConflict f old new x what → declaration_of s x ≡ Some d → class d.token ≡ true → ⊥
  pub members : MeetNone class new t s.members

-- a token that was looked up and denotes a declaration
abbrev pub MentionsAreFree : Type 0
MentionsAreFree =
    (class : ℕ → Bool) (old new : Name) (t : Source) (s : State) → IsFreeUnit class old new t s
    → (sp : Space) (i : ℕ) (path : List ℕ) (before : ℕ) (d : DeclNo)
    → Contains s.uses (LookedUp sp i path before (Some (number d)))
    → IsFree (declared_by class) (scopes_at t s path before) old new (mention.Named sp (name_at t i) i (Some d))

-- one that declares a tag
abbrev pub NewTagsAreFree : Type 0
NewTagsAreFree =
    (class : ℕ → Bool) (old new : Name) (t : Source) (s : State) → IsFreeUnit class old new t s
    → (sp : Space) (i : ℕ) (path : List ℕ) (before : ℕ)
    → Contains s.uses (LookedUp sp i path before None)
    → IsFree (declared_by class) (scopes_at t s path (before + 1)) old new (mention.Named sp (name_at t i) i None)

-- one that was asked, and declares a parameter or is built in
abbrev pub AsksAreFree : Type 0
AsksAreFree =
    (class : ℕ → Bool) (old new : Name) (t : Source) (s : State) → IsFreeUnit class old new t s
    → (i : ℕ) (path : List ℕ) (before : ℕ) (parameter : Bool)
    → Contains s.uses (WasAsked i path before false)
    → IsOfAsk s i parameter
    → IsFree (declared_by class) (scopes_at t s path before) old new (mention.Asked (name_at t i) i parameter)

-- a declaration, among those up to it
abbrev pub DeclarationsAreFree : Type 0
DeclarationsAreFree =
    (class : ℕ → Bool) (old new : Name) (t : Source) (s : State) → IsFreeUnit class old new t s
    → (f : Flat) (d : DeclNo)
    → number d < length s.declarations
    → f.entries ≡ entries_at t s (number d + 1)
    → IsFree (declared_by class) f old new (mention.Declared d)

-- and all that were made somewhere
abbrev pub AllAreFree : Type 0
AllAreFree =
    (class : ℕ → Bool) (old new : Name) (t : Source) (s : State) → IsFreeUnit class old new t s
    → (path : List ℕ) (n : ℕ)
    → AreFree (declared_by class) (scopes_at t s path n) old new
