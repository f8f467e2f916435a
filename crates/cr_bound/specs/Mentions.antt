-- What an identifier in an expression is.
use Rattle.std.specs.Prelude.{◌≡◌, ℕ, Bool, List}
use Rattle.cr_base.specs.declared.token.Name.{Name}
use Rattle.cr_base.specs.declared.cause.IllCause.TheVariants as cause
use Rattle.cr_scope.specs.declared.Space.TheVariants as space
use Rattle.cr_types.specs.Types.{Table, IsTypeNo, type_at}
use Rattle.cr_binding.specs.Source.{Source}
use Rattle.cr_binding.specs.State.{State}
use Rattle.cr_binding.specs.Declaring.{failed, looked_up}
use Rattle.cr_binding.specs.Expressions.{push, built_in, identifier}
use Rattle.cr_bound.specs.declared.mentions.Mentioned.{Mentioned}
use Rattle.cr_bound.specs.declared.mentions.Mentioned.TheVariants as mentioned
use Rattle.cr_bound.specs.declared.bound.Bound.{Bound}
use Rattle.cr_bound.specs.Kept.{with_bound, IsTyped, AreSpelled}
use Rattle.cr_bound.specs.Bound.{IsWord}

-- the last token is an identifier
abbrev pub identifying : (called : Bool) → Source → State → State
identifying called t s = identifier called t s.last s

-- what it does, by what it is
abbrev pub mentioning : Mentioned → Table → State → State
mentioning mentioned.Supplied t s = built_in s.last s
mentioning (mentioned.Denotes k n) t s = push (type_at t n) (looked_up space.Ordinary s.last k s)
mentioning mentioned.Nothing t s = failed cause.Unresolved s.last s

abbrev pub HasType : Table → Mentioned → Type 0
HasType t mentioned.Supplied = Unit {0}
HasType t (mentioned.Denotes k n) = IsTypeNo t n
HasType t mentioned.Nothing = Unit {0}

-- the last token of what is bound, which has this name and text, is this
pub record IsMentioned (b : Bound) (called : Bool) (name : Name) (text : List ℕ) (x : Mentioned) : Type 0 where
  pub does : (t : Table) (source : Source) (s : State) → IsWord b.place.last name text source → AreSpelled source b
      → identifying called source (with_bound t b s) ≡ mentioning x t (with_bound t b s)
  pub typed : (t : Table) → IsTyped t b → HasType t x
