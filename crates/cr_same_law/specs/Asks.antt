-- Which conflicts of some keys can't be where a unit means the same after the renaming.
use Rattle.std.specs.Prelude.{◌≡◌, ◌⊎◌, ℕ, Bool, true, Some, slice_get}
use Rattle.cr_base.specs.declared.token.Name.{Name}
use Rattle.cr_base.specs.declared.token.Place.{Place}
use Rattle.cr_base.specs.declared.key.Key.{Key}
use Rattle.cr_ll.specs.Derivation.{Trees}
use Rattle.cr_scope.specs.declared.Space.TheVariants as space
use Rattle.cr_scope.specs.declared.DeclNo.{DeclNo}
use Rattle.cr_scope.specs.Declarations.{Entry, Flat, number}
use Rattle.cr_capture.specs.declared.Mention.{Mention}
use Rattle.cr_capture.specs.declared.Mention.TheVariants as mention
use Rattle.cr_capture.specs.Conflicts.{Pair, Shows, IsTypedef, FindsTypedef, UncoversTypedef, TakesTypeName, IsConflict}
use Rattle.cr_binding.specs.Source.{Source}
use Rattle.cr_binding.specs.State.{Declaration, State}
use Rattle.cr_binding.specs.Binding.{bound}
use Rattle.cr_binding.specs.WellFormed.{IsWellFormed}
use Rattle.cr_binding.specs.UnitConflicts.{Mentions, declaration_of, MeetsAMember}
use Rattle.cr_binding.specs.Keys.{declaration_key, HasKey}
use Rattle.cr_binding_law.specs.RenamingKeys.{AreTokensOf}
use Rattle.cr_binding_law.specs.UnitStays.{MeansTheSame}
use Rattle.cr_same_law.specs.SameMeaning.{IsRespelledAs, IsNoAsk, IsNotBetter}

module _ (keys : Key → Bool) (unit : ℕ) (t : Source) (s : State) (old new : Name) where
  abbrev pub IsKeyOf : DeclNo → Key → Type 0
  IsKeyOf c l = (d : Declaration) × (slice_get s.declarations (number c) ≡ Some d) × (l ≡ declaration_key unit t s d)

  -- The keys of the visible ordinary declarations of old, and the token's own key where it is spelled old.
  abbrev pub IsNear : Flat → Name → ℕ → Key → Type 0
  IsNear f name i l = ((c : DeclNo) × (g : Entry) × Shows f space.Ordinary old c g × IsKeyOf c l) ⊎ ((name ≡ old) × HasKey unit t s i l)

  -- the last in the deepest scope of the visible ordinary declarations of old with another key
  pub record IsLastOfOthers (f : Flat) (k : Key) (m : DeclNo) (e : Entry) : Type 0 where
    pub seen : Shows f space.Ordinary old m e
    pub other : IsKeyOf m k → ⊥
    pub best : (j : DeclNo) (d : Entry) → Shows f space.Ordinary old j d → (IsKeyOf j k → ⊥) → IsNotBetter m e j d

  -- the cases of clause (e) for which it is promised that the conflict is needed
  pub data IsCase (f : Flat) (name : Name) (i : ℕ) (parameter : Bool) (x : Pair) (k : Key) : Type 0 where
    -- (e1), and every visible declaration of k is a typedef
    finds_one : FindsTypedef f old new name i x → ((c : DeclNo) (g : Entry) → Shows f space.Ordinary old c g → IsKeyOf c k → IsTypedef g) → IsCase f name i parameter x k
    -- (e2), k isn't the token's key, and of the other visible ordinary declarations of old the last in the deepest scope is a typedef
    uncovers_one : UncoversTypedef f old name i x → (HasKey unit t s i k → ⊥) → (m : DeclNo) (e : Entry) → IsLastOfOthers f k m e → IsTypedef e → IsCase f name i parameter x k
    -- (e3), and no declaration of k is visible
    takes_one : TakesTypeName f old new name i parameter x → ((c : DeclNo) (g : Entry) → Shows f space.Ordinary old c g → IsKeyOf c k → ⊥) → IsCase f name i parameter x k

  -- A conflict of an ask with a key that is the one renamed key near it, in one of these cases.
  pub record IsPromisedAsk (f : Flat) (name : Name) (i : ℕ) (parameter : Bool) : Type 0 where
    pub pair : Pair
    pub of : Declaration
    pub conflict : IsConflict f old new pair (mention.Asked name i parameter)
    pub found : declaration_of s pair ≡ Some of
    pub inside : keys (declaration_key unit t s of) ≡ true
    pub near : IsNear f name i (declaration_key unit t s of)
    pub alone : (l : Key) → IsNear f name i l → keys l ≡ true → l ≡ declaration_key unit t s of
    pub case : IsCase f name i parameter pair (declaration_key unit t s of)

  pub record TellsNothingNeeded : Type 0 where
    -- (a) to (d): but for asks, no mention has a conflict of one of the keys
    pub mentions : (f : Flat) (what : Mention) (x : Pair) (d : Declaration) → IsNoAsk what → Mentions t s f what → IsConflict f old new x what → declaration_of s x ≡ Some d → keys (declaration_key unit t s d) ≡ true → ⊥
    -- (c) in a record
    pub members : (k : Key) (p : Place) → MeetsAMember unit t s old new k p → keys k ≡ true → ⊥
    -- (e), where it is promised
    pub asks : (f : Flat) (name : Name) (i : ℕ) (parameter : Bool) → Mentions t s f (mention.Asked name i parameter) → IsPromisedAsk f name i parameter → ⊥

-- A unit that means the same after the entities of some keys have the new name tells no such conflict of one of them.
abbrev pub SameMeaningsTellNothing : Type 0
SameMeaningsTellNothing =
    (keys : Key → Bool) (class : ℕ → Bool) (old new : Name) (unit : ℕ) (t u : Source) (tree : Trees)
    → IsRespelledAs class old new t u
    → IsWellFormed t tree
    → AreTokensOf keys class unit t (bound t tree)
    → MeansTheSame t u tree
    → TellsNothingNeeded keys unit t (bound t tree) old new
