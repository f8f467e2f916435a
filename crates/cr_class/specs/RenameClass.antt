-- The entities that a rename takes together, and the places at which they are renamed, over the facts of all units.
use Rattle.std.specs.Prelude.{ℕ, ◌≡◌, ◌≢◌, ◌<◌, Bool, true, false, ◌&&◌, ◌⊎◌, List, [], ◌∷◌, length}
use Rattle.std.specs.List.{list_any}
use Rattle.std.specs.FinSet.{contains}
use Rattle.std.specs.declared.cmp.Ordering.{Ordering}
use Rattle.std.specs.declared.cmp.Ordering.TheVariants.{Less}
use Rattle.cr_base.specs.declared.token.Place.{Place}
use Rattle.cr_base.specs.declared.key.Kind.{Kind}
use Rattle.cr_base.specs.declared.key.Kind.TheVariants.{Function, Object, Typedef, Enumerator, Struct, Union, Enum, Member}
use Rattle.cr_base.specs.declared.key.Key.{Key}
use Rattle.cr_base.specs.declared.key.Key.TheVariants as key
use Rattle.cr_base.specs.declared.key.RecordKey.TheVariants as record_key
use Rattle.cr_base.specs.contracts.key.KeyOrd.TheImpl as key_ord
use Rattle.cr_base.specs.contracts.token.PlaceOrd.TheImpl as place_ord
use Rattle.cr_facts.specs.FactOrder.{Facts}
use Rattle.cr_facts.specs.declared.fact.Fact.{Fact}
use Rattle.cr_facts.specs.declared.fact.Fact.TheVariants.{Declares, Denotes, OfKind, FileScope, HasRole, MadeDenotes, NewMacro, BodyParam, OpaqueAt, Conflict}
use Rattle.cr_snapshot.specs.declared.known.KnownFile.{KnownFile}
use Rattle.cr_class.specs.declared.target.Target.{Target}
use Rattle.cr_class.specs.declared.target.Target.TheVariants as target
use Rattle.cr_class.specs.ShownOrder.{shown_cmp}

abbrev pub Has : Facts → Fact → Type 0
Has facts f = contains facts f ≡ true

-- the derived order of keys, and that of places: by path number, then by offset
abbrev pub key_cmp : Key → Key → Ordering
key_cmp = (key_ord.ghosts).cmp

abbrev pub place_cmp : Place → Place → Ordering
place_cmp = (place_ord.ghosts).cmp

-- the facts say that the entity of a key is of one of some kinds
abbrev pub is_of_kinds : List Kind → Facts → Key → Bool
is_of_kinds kinds facts k = list_any (λ kind. contains facts (OfKind k kind)) kinds

-- what the name space of ordinary identifiers holds (C11 6.2.3)
abbrev pub ordinary_kinds : List Kind
ordinary_kinds = Function ∷ Object ∷ Typedef ∷ Enumerator ∷ []

-- all kinds but labels, which no rename is made for
abbrev pub renamable_kinds : List Kind
renamable_kinds = Function ∷ Object ∷ Typedef ∷ Enumerator ∷ Struct ∷ Union ∷ Enum ∷ Member ∷ []

abbrev pub is_renamable : Facts → Key → Bool
is_renamable = is_of_kinds renamable_kinds

-- an ordinary identifier that is declared at file scope (C11 6.2.1)
abbrev pub is_file_scope : Facts → Key → Bool
is_file_scope facts k = is_of_kinds ordinary_kinds facts k && contains facts (FileScope k)

-- A place that declares an ordinary identifier of file scope. Places are in the order in which they are shown: by the
-- bytes of their paths, then by offset.
abbrev pub DeclaresFileScope : Facts → Key → Place → Type 0
DeclaresFileScope facts k p = (is_file_scope facts k ≡ true) × Has facts (Declares k p)

-- no ordinary identifier of file scope has a declaring place in front of this one
abbrev pub IsFirstPlace : List KnownFile → Facts → Place → Type 0
IsFirstPlace files facts p = (k : Key) (q : Place) → DeclaresFileScope facts k q → shown_cmp files q p ≢ Less

-- no ordinary identifier of file scope has a declaring place, and none has a lesser key than this one
abbrev pub IsFirstKey : Facts → Key → Type 0
IsFirstKey facts k = ((l : Key) (q : Place) → DeclaresFileScope facts l q → ⊥) × ((l : Key) → is_file_scope facts l ≡ true → key_cmp l k ≢ Less)

-- What an ordinary name means where no entity of that name has external linkage: the entity of file scope that is
-- declared at the first place; where none has a declaring place, since its declaring tokens are all made, the one with
-- the least key.
abbrev pub MeansInternal : List KnownFile → Facts → Key → Type 0
MeansInternal files facts k =
    ((p : Place) × DeclaresFileScope facts k p × IsFirstPlace files facts p) ⊎ ((is_file_scope facts k ≡ true) × IsFirstKey facts k)

-- what an ordinary name means, by whether an entity of that name has external linkage
abbrev pub means_by : List KnownFile → Facts → List ℕ → Key → Bool → Type 0
means_by files facts old k true = k ≡ key.Ext old
means_by files facts old k false = MeansInternal files facts k

-- What an ordinary name means at the command line (own rule of this project): the entity of that name with external
-- linkage, and where there is none, what it means without one.
abbrev pub MeansOrdinary : List KnownFile → Facts → List ℕ → Key → Type 0
MeansOrdinary files facts old k = means_by files facts old k (is_renamable facts (key.Ext old))

-- What a target means: the entities that its place denotes; an ordinary name; a tag of file scope; a member that is
-- declared in the record with a tag of file scope.
abbrev pub Means : List KnownFile → Facts → List ℕ → Target → Key → Type 0
Means files facts old (target.At p) k = Has facts (Denotes p k)
Means files facts old target.Ordinary k = MeansOrdinary files facts old k
Means files facts old (target.Tagged kind) k = k ≡ key.Tag kind old
Means files facts old (target.MemberOf kind tag) k = k ≡ key.Member (record_key.Tag kind tag) old

-- the target's keys: those that it means and that can be renamed
abbrev pub IsTargetKey : List KnownFile → Facts → List ℕ → Target → Key → Type 0
IsTargetKey files facts old t k = Means files facts old t k × (is_renamable facts k ≡ true)

-- The class of a target: the least set that has the target's keys and each key that shares a declaring place with one
-- in the set.
pub data InClass (files : List KnownFile) (facts : Facts) (old : List ℕ) (t : Target) : Key → Type 0 where
  targeted : {k : Key} → IsTargetKey files facts old t k → InClass files facts old t k
  shares : {k l : Key} (p : Place) → InClass files facts old t k → Has facts (Declares k p) → Has facts (Declares l p) → InClass files facts old t l

-- the places that denote an entity of the class
abbrev pub IsRenamedPlace : List KnownFile → Facts → List ℕ → Target → Place → Type 0
IsRenamedPlace files facts old t p = (k : Key) × InClass files facts old t k × Has facts (Denotes p k)

-- the place of a fact is in a file whose number is below this one
abbrev pub IsKnownFact : ℕ → Fact → Type 0
IsKnownFact count (Declares k p) = p.path.0 < count
IsKnownFact count (Denotes p k) = p.path.0 < count
IsKnownFact count (HasRole p role) = p.path.0 < count
IsKnownFact count (MadeDenotes k p) = p.path.0 < count
IsKnownFact count (NewMacro p) = p.path.0 < count
IsKnownFact count (BodyParam p) = p.path.0 < count
IsKnownFact count (OpaqueAt p) = p.path.0 < count
IsKnownFact count (Conflict k p) = p.path.0 < count
IsKnownFact count _ = Unit {0}

-- each fact's place is in such a file
abbrev pub KnowsAll : ℕ → Facts → Type 0
KnowsAll count facts = (f : Fact) → Has facts f → IsKnownFact count f

-- each fact's place is in a file whose number these files have
abbrev pub AreKnown : List KnownFile → Facts → Type 0
AreKnown files facts = KnowsAll (length files) facts
