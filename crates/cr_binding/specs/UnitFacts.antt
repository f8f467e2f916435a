-- What a well-formed unit tells of the entities that have the old name and of those that have the new one.
use Rattle.std.specs.Prelude.{◌≡◌, ◌⊎◌, ℕ, Bool, true, false, Contains}
use Rattle.cr_base.specs.declared.token.Name.{Name}
use Rattle.cr_base.specs.declared.token.Place.{Place}
use Rattle.cr_base.specs.declared.token.Origin.TheVariants.{At, Made}
use Rattle.cr_base.specs.declared.cause.Role.TheVariants as role
use Rattle.cr_base.specs.declared.key.Key.{Key}
use Rattle.cr_base.specs.declared.key.Key.TheVariants as key
use Rattle.cr_base.specs.declared.key.Kind.{Kind}
use Rattle.cr_base.specs.declared.key.Kind.TheVariants as kind
use Rattle.cr_scope.specs.Linkage.{is_file_scope}
use Rattle.cr_facts.specs.declared.fact.Fact.{Fact}
use Rattle.cr_facts.specs.declared.fact.Fact.TheVariants as fact
use Rattle.cr_binding.specs.Source.{Source, token_of, name_at, is_identifier}
use Rattle.cr_binding.specs.State.{Declaration, State}
use Rattle.cr_binding.specs.Entities.{are_one}
use Rattle.cr_binding.specs.Resolution.{Thing, Declared, InRecord, BuiltIn, Occurrence, declaring, occurrences}
use Rattle.cr_binding.specs.Keys.{key_of}
use Rattle.cr_binding.specs.UnitConflicts.{place_at, Conflicts}

-- the declarations of a thing: itself, and those of the same entity
abbrev pub IsOf : Source → Thing → Declaration → Type 0
IsOf t (Declared d) e = (e ≡ d) ⊎ (are_one t d e ≡ true)
IsOf t _ e = ⊥

-- what the compiler supplies has no kind
abbrev pub HasKind : Source → State → Thing → Kind → Type 0
HasKind t s (Declared d) k = (e : Declaration) × Contains s.declarations e × IsOf t (Declared d) e × (k ≡ e.kind)
HasKind t s (InRecord m) k = k ≡ kind.Member
HasKind t s BuiltIn k = ⊥

-- one of its declarations stands at file scope
abbrev pub IsAtFileScope : Source → State → Thing → Type 0
IsAtFileScope t s x = (e : Declaration) × Contains s.declarations e × IsOf t x e × (is_file_scope e.path ≡ true)

-- a key that other units can have too
abbrev pub is_shared : Key → Bool
is_shared (key.Ext name) = true
is_shared (key.Tag k name) = true
is_shared (key.Member r name) = true
is_shared (key.At p) = false
is_shared (key.Made unit i) = false

-- a token of a name that stands at a place
pub record IsPlaced (t : Source) (name : Name) (i : ℕ) (p : Place) : Type 0 where
  pub spelled : name_at t i ≡ name
  pub comes : (token_of t i).origin ≡ At p

-- a token of a name in the brackets of an attribute, where it means nothing that is known
pub record IsHidden (t : Source) (s : State) (name : Name) (i : ℕ) : Type 0 where
  pub there : Contains s.hidden i
  pub sort : is_identifier t i ≡ true
  pub spelled : name_at t i ≡ name

-- a token of a name elsewhere
pub record IsFinal (t : Source) (s : State) (i : ℕ) : Type 0 where
  pub sort : is_identifier t i ≡ true
  pub elsewhere : ¬ Contains s.hidden i

-- The facts of unit number `unit` that its binding tells. Those of macros are told by its preprocessing.
module _ (unit : ℕ) (t : Source) (s : State) (old new : Name) where
  abbrev pub key_at : Occurrence → Key
  key_at x = key_of unit t s x.0 x.1

  -- an identifier of the old name at a place means the entity of a key
  pub record Denotes (p : Place) (k : Key) (x : Occurrence) : Type 0 where
    pub occurs : Contains (occurrences s) x
    pub placed : IsPlaced t old x.0 p
    pub keyed : k ≡ key_at x

  abbrev pub Tells : Fact → Type 0
  Tells (fact.Denotes p k) = (x : Occurrence) × Denotes p k x
  Tells (fact.Declares k p) = (x : Occurrence) × Denotes p k x × Contains (declaring s) x
  Tells (fact.OfKind k c) = (x : Occurrence) × (p : Place) × Denotes p k x × HasKind t s x.1 c
  Tells (fact.FileScope k) = (x : Occurrence) × (p : Place) × Denotes p k x × IsAtFileScope t s x.1
  Tells (fact.HasRole p role.Final) = (i : ℕ) × IsPlaced t old i p × IsFinal t s i
  Tells (fact.HasRole p role.Opaque) = (i : ℕ) × IsPlaced t old i p × IsHidden t s old i
  Tells (fact.HasRole p _) = ⊥
  Tells (fact.MadeDenotes k p) =
      (x : Occurrence) × Contains (occurrences s) x × (name_at t x.0 ≡ old) × ((token_of t x.0).origin ≡ Made)
      × (p ≡ (token_of t x.0).site) × (k ≡ key_at x)
  Tells (fact.NewKey k) =
      (x : Occurrence) × Contains (declaring s) x × (name_at t x.0 ≡ new) × (k ≡ key_at x) × (is_shared k ≡ true)
  Tells (fact.NewMacro p) = ⊥
  Tells (fact.BodyParam p) = ⊥
  Tells (fact.OpaqueAt p) = (i : ℕ) × (IsHidden t s old i ⊎ IsHidden t s new i) × (p ≡ place_at t i)
  Tells (fact.Conflict k p) = Conflicts unit t s old new k p
