-- What a token says, by the node of the grammar that it stands in.
use Rattle.std.specs.Prelude.{ℕ}
use Rattle.cr_binding.specs.Source.{Source}
use Rattle.cr_binding.specs.State.{State}
use Rattle.cr_binding.specs.Specifying.{specifier_at, specified, announced}
use Rattle.cr_bound.specs.declared.words.Reading.{Reading}
use Rattle.cr_bound.specs.declared.words.Reading.TheVariants as reading

abbrev pub read_by : Reading → Source → ℕ → State → State
read_by reading.Specifier t i s = specified (specifier_at t i) i s
read_by reading.Keyword t i s = announced (specifier_at t i) s
read_by reading.Nothing t i s = s
