-- What binding sees of the names that are kept.
use Rattle.std.specs.Prelude.{◌≡◌, ℕ, Option, Some, None, option_map, unwrap_or, Bool, List, [], ◌∷◌, ◌++◌, map}
use Rattle.cr_base.specs.declared.token.Name.{Name}
use Rattle.cr_base.specs.declared.token.Tok.{Tok}
use Rattle.cr_base.specs.declared.cause.IllCause.{IllCause}
use Rattle.cr_scope.specs.declared.Space.{Space}
use Rattle.cr_scope.specs.declared.Space.TheVariants as space
use Rattle.cr_scope.specs.declared.Decl.{Decl}
use Rattle.cr_scope.specs.Declarations.{Entry}
use Rattle.cr_types.specs.declared.TypeNo.{TypeNo}
use Rattle.cr_types.specs.Types.{Void, Table, Keeps, type_at}
use Rattle.cr_paths.specs.Paths.{path_at}
use Rattle.cr_declared.specs.declared.rows.UseRow.{UseRow}
use Rattle.cr_declared.specs.declared.rows.UseRow.TheVariants as row
use Rattle.cr_binding.specs.Source.{Source, name_at}
use Rattle.cr_binding.specs.State.{Declaration, Use, LookedUp, GoesTo, Selects, IsBuiltIn, IsParameter, WasAsked, State}
use Rattle.cr_binding.specs.Declaring.{declare, declaration, declaration_at, meaning_here}
use Rattle.cr_binding.specs.Scoping.{jump_to}
use Rattle.cr_binding.specs.Tags.{tag_here}
use Rattle.cr_binding.specs.Initialising.{last_type}
use Rattle.cr_binding.specs.WellFormed.{is_typedef_name}
use Rattle.cr_names.specs.declared.fault.BindFault.{BindFault}
use Rattle.cr_names.specs.declared.fault.BindFault.TheVariants as fault
use Rattle.cr_names.specs.declared.names.Typed.{Typed}
use Rattle.cr_names.specs.Kept.{KnownNames, IsOf, AreSpelled}

-- a declaration with the number of its type
abbrev pub declaration_by : Table → Entry → TypeNo → Declaration
declaration_by t e n =
    record {
      path = e.path;
      space = e.decl.space;
      token = e.decl.token;
      kind = e.decl.kind;
      linkage = e.decl.linkage;
      type = type_at t n;
    }

abbrev pub declarations_by : Table → List Entry → List TypeNo → List Declaration
declarations_by t [] ns = []
declarations_by t (e ∷ es) [] = []
declarations_by t (e ∷ es) (n ∷ ns) = declaration_by t e n ∷ declarations_by t es ns

abbrev pub use_by : List (List ℕ) → UseRow → Use
use_by ps (row.LookedUp sp token place before denoted) = LookedUp sp token (path_at ps place) before denoted
use_by ps (row.GoesTo token label) = GoesTo token label
use_by ps (row.Selects token member) = Selects token member
use_by ps (row.IsBuiltIn token) = IsBuiltIn token
use_by ps (row.IsParameter token) = IsParameter token
use_by ps (row.WasAsked token place before answer) = WasAsked token (path_at ps place) before answer

-- a state with these names
abbrev pub with_names : Table → KnownNames → State → State
with_names t x s =
    record s {
      declarations = declarations_by t x.declared.entries x.types_of;
      uses = map (use_by x.declared.paths) x.uses;
      hidden = x.hidden;
      scopes = x.declared.scopes;
      present = x.declared.present;
    }

-- ---- what calls do

-- token i has this name
abbrev pub IsNamed : ℕ → Name → Source → Type 0
IsNamed i name t = name_at t i ≡ name

abbrev pub HasTokens : List Tok → Source → Type 0
HasTokens tokens t = t.tokens ≡ tokens

abbrev pub Always : Source → Type 0
Always t = Unit {0}

-- What is done to the names in a state without a fault, where the tokens are such.
pub record Does (t : Table) (P : Source → Type 0) (old : KnownNames) (f : Source → State → State) (new : KnownNames) : Type 0 where
  pub state : (source : Source) (s : State) → P source → s.fault ≡ None → AreSpelled source old
      → with_names t new s ≡ f source (with_names t old s)
  pub spelled : (source : Source) → P source → AreSpelled source old → AreSpelled source new
  pub typed : IsOf t old → IsOf t new

-- The same whatever the tokens and types are.
abbrev pub Moves : KnownNames → (State → State) → KnownNames → Type 0
Moves old f new = (t : Table) → Does t Always old (λ _ s. f s) new

-- Doing it is a fault of a cause at a token.
abbrev pub Fails : (Source → Type 0) → KnownNames → (Table → Source → State → State) → IllCause → ℕ → Type 0
Fails P old f c i = (t : Table) (source : Source) (s : State) → P source → s.fault ≡ None → AreSpelled source old
    → (f t source (with_names t old s)).fault ≡ Some (c, i)

-- what a fault says, which only want of memory doesn't
abbrev pub Refuses : BindFault → (IllCause → ℕ → Type 0) → Type 0
Refuses (fault.Ill c i) P = P c i
Refuses fault.OutOfMemory P = Unit {0}

-- the declaration of a token with a type, where it stands
abbrev pub declared_as : Decl → TypeNo → Table → Source → State → State
declared_as d n t source s = declare source (declaration d.space d.kind d.linkage d.token (type_at t n) s) s

-- a scope is entered again
abbrev pub inside : ℕ → State → State
inside k s = record s { present = s.present ++ k ∷ [] }

-- a token stands in the brackets of an attribute
abbrev pub hiding : ℕ → State → State
hiding i s = record s { hidden = s.hidden ++ i ∷ [] }

-- the name of a token goes to the label that it means here
abbrev pub jumping : ℕ → Source → State → State
jumping i t s = jump_to (meaning_here t space.Label i s) i s

-- ---- what is asked

-- token i, which has this name, means this in the names
abbrev pub IsMeaning : KnownNames → Space → Name → Option ℕ → Type 0
IsMeaning x sp name r = (t : Table) (source : Source) (s : State) (i : ℕ) → IsNamed i name source → AreSpelled source x
    → meaning_here source sp i (with_names t x s) ≡ r

-- it has this first declaration as a tag in the present scope
abbrev pub IsTagHere : KnownNames → Name → Option ℕ → Type 0
IsTagHere x name r = (t : Table) (source : Source) (s : State) (i : ℕ) → IsNamed i name source → AreSpelled source x
    → tag_here source i (with_names t x s) ≡ declaration_at (with_names t x s) r

-- a declaration as it is answered
abbrev pub declaration_of : Table → List (List ℕ) → Typed → Declaration
declaration_of t ps x =
    record {
      path = path_at ps x.row.path;
      space = x.row.decl.space;
      token = x.row.decl.token;
      kind = x.row.decl.kind;
      linkage = x.row.decl.linkage;
      type = type_at t x.ty;
    }

abbrev pub IsDeclaration : KnownNames → Option ℕ → Option Typed → Type 0
IsDeclaration x n r = (t : Table) (s : State)
    → declaration_at (with_names t x s) n ≡ option_map (declaration_of t x.declared.paths) r

-- the type of the declaration that was made last
abbrev pub IsLastType : KnownNames → Option TypeNo → Type 0
IsLastType x r = (t : Table)
    → last_type (declarations_by t x.declared.entries x.types_of) ≡ unwrap_or (option_map (type_at t) r) Void

-- the answer of an ask
abbrev pub IsAnswer : KnownNames → ℕ → Name → Bool → Type 0
IsAnswer x i name r = (t : Table) (source : Source) (s : State) → IsNamed i name source → AreSpelled source x
    → is_typedef_name source (with_names t x s).present i (with_names t x s).declarations ≡ r

-- As types are added the same names are seen.
abbrev pub NamesStay : Type 0
NamesStay = (t u : Table) (x : KnownNames) → Keeps t u → IsOf t x
    → IsOf u x × ((s : State) → with_names u x s ≡ with_names t x s)
