-- A type that is specified by a typedef name (C11 6.7.8).
use Rattle.std.specs.Prelude.{ℕ}
use Rattle.cr_binding.specs.Source.{Source}
use Rattle.cr_binding.specs.State.{State}
use Rattle.cr_binding.specs.Specifying.{typedef_name}

-- the name of token i is that of the type
abbrev pub naming_type : ℕ → Source → State → State
naming_type i t s = typedef_name t i s
