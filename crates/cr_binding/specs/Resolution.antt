-- What each identifier of a unit means: the entity, and the token that declares it first.
use Rattle.std.specs.Prelude.{ℕ, Bool, ◌==◌, Option, Some, None, List, [], ◌∷◌, ◌++◌, filter, map, flat_map}
use Rattle.std.specs.List.{find}
use Rattle.cr_binding.specs.Source.{Source}
use Rattle.cr_binding.specs.State.{Declaration, Member, Use, LookedUp, GoesTo, Selects, IsBuiltIn, WasAsked, State}
use Rattle.cr_binding.specs.Entities.{first_token}
use Rattle.cr_binding.specs.Declaring.{declaration_at}

-- what is declared in a scope, a member of a record, or what the compiler supplies
pub data Thing : Type 0 where
  Declared : Declaration → Thing
  InRecord : Member → Thing
  BuiltIn : Thing

-- a token that means a thing
abbrev pub Occurrence : Type 0
Occurrence = ℕ × Thing

-- a member stands where it is written
abbrev pub own_members : State → List Member
own_members s = filter (λ m. m.own == m.holder) s.members

-- the occurrences that declare what they mean
abbrev pub declaring : State → List Occurrence
declaring s =
    map {A = Declaration} (λ d. (d.token, Declared d)) s.declarations
    ++ map {A = Member} (λ m. (m.token, InRecord m)) (own_members s)

abbrev pub means_declared : ℕ → Option Declaration → List Occurrence
means_declared i None = []
means_declared i (Some d) = (i, Declared d) ∷ []

abbrev pub means_member : ℕ → Option Member → List Occurrence
means_member i None = []
means_member i (Some m) = (i, InRecord m) ∷ []

-- the occurrence of a use, where it means something
abbrev pub meant_by : State → Use → List Occurrence
meant_by s (LookedUp sp i path before denoted) = means_declared i (declaration_at s denoted)
meant_by s (GoesTo i label) = means_declared i (declaration_at s (Some label))
meant_by s (Selects i member) = means_member i (find (λ m. m.token == member) (own_members s))
meant_by s (IsBuiltIn i) = (i, BuiltIn) ∷ []
meant_by s _ = []

-- every identifier outside the brackets of attributes, with what it means
abbrev pub occurrences : State → List Occurrence
occurrences s = declaring s ++ flat_map (meant_by s) s.uses

-- the first token that declares a thing
abbrev pub origin_of : Source → State → Thing → Option ℕ
origin_of t s (Declared d) = Some (first_token t s.declarations d)
origin_of t s (InRecord m) = Some m.token
origin_of t s BuiltIn = None

-- Each occurrence with the first token that declares its entity; none where the compiler supplies it.
abbrev pub resolution : Source → State → List (ℕ × Option ℕ)
resolution t s = map {A = Occurrence} (λ x. (x.0, origin_of t s x.1)) (occurrences s)

abbrev pub answer_of : Use → List (ℕ × Bool)
answer_of (WasAsked i path before answer) = (i, answer) ∷ []
answer_of _ = []

-- each token of which it was asked whether it is a typedef name, with the answer
abbrev pub answers : State → List (ℕ × Bool)
answers s = flat_map answer_of s.uses
