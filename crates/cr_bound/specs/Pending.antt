-- When a word is refused among specifiers.
use Rattle.std.specs.Prelude.{◌≡◌, ℕ, Option}
use Rattle.cr_base.specs.declared.cause.IllCause.TheVariants as cause
use Rattle.cr_decl.specs.declared.SpecWord.{SpecWord}
use Rattle.cr_types.specs.Types.{Table}
use Rattle.cr_binding.specs.State.{State}
use Rattle.cr_binding.specs.Declaring.{failed}
use Rattle.cr_binding.specs.Specifying.{specified}
use Rattle.cr_names.specs.declared.fault.BindFault.{BindFault}
use Rattle.cr_names.specs.declared.fault.BindFault.TheVariants as fault
use Rattle.cr_bound.specs.declared.pending.Pending.{Pending}
use Rattle.cr_bound.specs.Kept.{with_pending}

-- no permitted list goes on with the word at token i
abbrev pub IsRefused : Option SpecWord → ℕ → Pending → BindFault → Type 0
IsRefused word i p f = (f ≡ fault.Ill cause.BadSpecifiers i)
    × ((t : Table) (s : State) → specified word i (with_pending t p s) ≡ failed cause.BadSpecifiers i (with_pending t p s))
