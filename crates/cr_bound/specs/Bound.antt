-- What the calls that bind do.
use Rattle.std.specs.Prelude.{◌≡◌, ℕ, Some, None, List}
use Rattle.cr_base.specs.declared.token.Name.{Name}
use Rattle.cr_base.specs.declared.cause.IllCause.{IllCause}
use Rattle.cr_types.specs.declared.Part.{Part}
use Rattle.cr_types.specs.declared.TypeNo.{TypeNo}
use Rattle.cr_types.specs.Types.{CType, Table, IsTypeNo, Keeps, type_at, derived_by}
use Rattle.cr_binding.specs.Source.{Source, name_at, text_at}
use Rattle.cr_binding.specs.State.{State, start, nothing_pending}
use Rattle.cr_binding.specs.Declaring.{declare_named, declare_parameter}
use Rattle.cr_binding.specs.Specifying.{specified_type}
use Rattle.cr_binding.specs.RecordMembers.{add_member, splice, end_record}
use Rattle.cr_bound.specs.declared.bound.Bound.{Bound}
use Rattle.cr_bound.specs.Kept.{with_bound, IsTyped, AreSpelled}

-- What is done to a state without a fault where the tokens are such, when g is done besides.
pub record Leaves (P : Source → Type 0) (t : Table) (old : Bound) (f : Source → State → State) (u : Table) (new : Bound) (g : State → State) : Type 0 where
  pub state : (source : Source) (s : State) → P source → s.fault ≡ None → AreSpelled source old
      → g (with_bound u new s) ≡ f source (with_bound t old s)
  pub spelled : (source : Source) → P source → AreSpelled source old → AreSpelled source new

abbrev pub Does : (Source → Type 0) → Table → Bound → (Source → State → State) → Table → Bound → Type 0
Does P t old f u new = Leaves P t old f u new (λ s. s)

-- The same over any types that it is of.
abbrev pub DoesAny : (Source → Type 0) → Bound → (Source → State → State) → Bound → Type 0
DoesAny P old f new = (t : Table) → IsTyped t old → Does P t old f t new

abbrev pub Any : Source → Type 0
Any t = Unit {0}

-- The same whatever the tokens are.
abbrev pub Moves : Bound → (State → State) → Bound → Type 0
Moves old f new = (t : Table) → Does Any t old (λ _ s. f s) t new

abbrev pub StaysTyped : Bound → Bound → Type 0
StaysTyped old new = (t : Table) → IsTyped t old → IsTyped t new

-- Doing it is a fault of a cause at a token.
abbrev pub Fails : (Source → Type 0) → Table → Bound → (Source → State → State) → IllCause → ℕ → Type 0
Fails P t old f c i = (source : Source) (s : State) → P source → s.fault ≡ None → AreSpelled source old
    → (f source (with_bound t old s)).fault ≡ Some (c, i)

abbrev pub FailsAny : (Source → Type 0) → Bound → (Source → State → State) → IllCause → ℕ → Type 0
FailsAny P old f c i = (t : Table) → IsTyped t old → Fails P t old f c i

-- The same with the number of a type.
abbrev pub DoesWith : TypeNo → (Source → Type 0) → Bound → (CType → Source → State → State) → Bound → Type 0
DoesWith n P old f new = (t : Table) → IsTyped t old → IsTypeNo t n → Does P t old (f (type_at t n)) t new

abbrev pub FailsWith : TypeNo → (Source → Type 0) → Bound → (CType → Source → State → State) → IllCause → ℕ → Type 0
FailsWith n P old f c i = (t : Table) → IsTyped t old → IsTypeNo t n → Fails P t old (f (type_at t n)) c i

abbrev pub StaysWith : TypeNo → Bound → Bound → Type 0
StaysWith n old new = (t : Table) → IsTyped t old → IsTypeNo t n → IsTyped t new

-- types were added, but no records: the same is seen
pub record Grows (t u : Table) (b : Bound) : Type 0 where
  pub keeps : Keeps t u
  pub records : u.records ≡ t.records
  pub typed : IsTyped u b
  pub same : (s : State) → with_bound u b s ≡ with_bound t b s

abbrev pub Stays : Bound → Type 0
Stays b = (t u : Table) → Keeps t u → u.records ≡ t.records → IsTyped t b → Grows t u b

-- ---- tokens

-- token i has this name and this text
abbrev pub IsWord : ℕ → Name → List ℕ → Source → Type 0
IsWord i name text t = (name_at t i ≡ name) × (text_at t i ≡ text)

abbrev pub IsText : ℕ → List ℕ → Source → Type 0
IsText i text t = text_at t i ≡ text

-- ---- what is bound, where a declarator derives its type by these parts

abbrev pub type_by : List Part → State → CType
type_by parts s = derived_by parts (specified_type s.pending)

abbrev pub declaring : List Part → Source → State → State
declaring parts t s = declare_named t s.pending.name (type_by parts s) s

abbrev pub declaring_parameter : List Part → Source → State → State
declaring_parameter parts t s = declare_parameter t s.pending.name (type_by parts s) s

abbrev pub adding : List Part → Source → State → State
adding parts t s = add_member t s.filled s.pending.name (type_by parts s) s

-- the list of members that is read ends
abbrev pub ending : State → State
ending s = end_record s.filled s

abbrev pub splicing : Source → State → State
splicing t s = splice t s

-- a declaration begins
abbrev pub beginning : State → State
beginning s = record s { pending = nothing_pending }

-- its declarator is named by the last token
abbrev pub naming : State → State
naming s = record s { pending = record s.pending { name = Some s.last; parameters = None } }

-- a state in which nothing is bound yet
abbrev pub at_start : State → State
at_start s = record start { fault = s.fault; closed = s.closed; values = s.values; target = s.target }
