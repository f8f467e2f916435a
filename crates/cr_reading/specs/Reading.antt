-- What reading the tokens of a unit comes to: its binding, or the first cause for which it is ill-formed.
use Rattle.std.specs.Prelude.{◌≡◌, ◌⊎◌, ◌<◌, ℕ, true, List, [], ◌∷◌, ◌++◌, length}
use Rattle.cr_base.specs.declared.token.Place.{Place}
use Rattle.cr_base.specs.declared.cause.IllCause.{IllCause}
use Rattle.cr_base.specs.declared.cause.IllCause.TheVariants as cause
use Rattle.cr_ll.specs.Derivation.{Item, Asked}
use Rattle.cr_ll.specs.Laws.{unit}
use Rattle.cr_ll.specs.Machine.{Config, at, Opens, AsksAt, Faults, move, replied, Run}
use Rattle.cr_ll.specs.declared.stack.TheConstants.{LIMIT}
use Rattle.cr_binding.specs.Source.{Source, token_of}
use Rattle.cr_binding.specs.WellFormed.{terminals_of}
use Rattle.cr_known.specs.Known.{Known}
use Rattle.cr_nodes.specs.Moves.{OpenNodes}
use Rattle.cr_nodes.specs.Gathering.{Gathered}
use Rattle.cr_walk.specs.Seen.{Sees}
use Rattle.cr_sema.specs.Walking.{IsBoundBy}
use Rattle.cr_sema.specs.Sema.{IsIllAt}
use Rattle.cr_sema.specs.declared.sema.Sema.{Sema}
use Rattle.cr_reading.specs.declared.reading.Read.{Read}
use Rattle.cr_reading.specs.declared.reading.Read.TheVariants as read

-- Nothing is wrong with what these events bind, and each ask is answered by what is declared.
abbrev pub IsBoundTo : Source → List Item → Type 0
IsBoundTo t es = (k : Known) × (c : OpenNodes) × (g : Gathered) × Sees t es k c g

-- The grammar's machine gives these events, of which nothing is wrong, and comes so far.
pub record Comes (t : Source) (es : List Item) (c : Config) : Type 0 where
  pub run : Run (terminals_of t) (at 0 unit) es c
  pub bound : IsBoundTo t es

-- The token at this place is the first with which no tree goes on.
abbrev pub IsSyntaxAt : Source → Place → Type 0
IsSyntaxAt t p =
    (es : List Item) × (c : Config) × Comes t es c × (move (terminals_of t) c ≡ Faults) × (p ≡ (token_of t c.place).site)

-- The stack would hold too many symbols: a node that is next needs them, or one that a typedef name opens.
abbrev pub GoesOver : Source → List Item → Config → Type 0
GoesOver t es c =
    ((d : Config) × (move (terminals_of t) c ≡ Opens d) × (LIMIT < length d.stack))
    ⊎ ((i : ℕ) × (k : ℕ) × (move (terminals_of t) c ≡ AsksAt i k) × IsBoundTo t (es ++ Asked i true ∷ [])
    × (LIMIT < length (replied c k true).stack))

abbrev pub IsTooDeep : Source → Type 0
IsTooDeep t = (es : List Item) × (c : Config) × Comes t es c × GoesOver t es c

-- Of a limit the place is free.
abbrev pub IsFirstCause : Source → IllCause → Place → Type 0
IsFirstCause t c p = IsIllAt t c p ⊎ ((c ≡ cause.Syntax) × IsSyntaxAt t p) ⊎ ((c ≡ cause.LimitDepth) × IsTooDeep t)

-- the unit is well-formed, and its binding is kept
abbrev pub IsBound : Source → Sema → Type 0
IsBound t x = (es : List Item) × IsBoundBy t es x.walk

abbrev pub IsRead : Source → Read → Type 0
IsRead t (read.WellFormed x) = IsBound t x
IsRead t (read.Ill c p) = IsFirstCause t c p
