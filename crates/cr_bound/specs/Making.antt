-- A declaration that is made.
use Rattle.std.specs.Prelude.{◌≡◌, ℕ}
use Rattle.cr_base.specs.declared.token.Name.{Name}
use Rattle.cr_types.specs.declared.TypeNo.{TypeNo}
use Rattle.cr_types.specs.Types.{Table, type_at}
use Rattle.cr_binding.specs.Source.{Source}
use Rattle.cr_binding.specs.State.{State}
use Rattle.cr_names.specs.Names.{IsNamed, declared_as}
use Rattle.cr_bound.specs.declared.declaring.Making.{Making}
use Rattle.cr_bound.specs.declared.bound.Bound.{Bound}
use Rattle.cr_bound.specs.Kept.{with_bound, AreSpelled}
use Rattle.cr_bound.specs.Declaring.{declaring_typed, seeing}

-- what its name denotes is seen, if it takes its linkage, and it is declared
abbrev pub made : Making → TypeNo → Table → Source → State → State
made x n t source s = declared_as x.decl n t source (seeing x.takes x.decl.token x.denoted s)

-- this is the declaration of a token with a type
abbrev pub IsMade : Table → Bound → ℕ → Name → TypeNo → Making → Type 0
IsMade t b i name n x = (source : Source) (s : State) → IsNamed i name source → AreSpelled source b
    → declaring_typed i (type_at t n) source (with_bound t b s) ≡ made x n t source (with_bound t b s)
