-- In a unit without a fault every action is done, and what it leaves is there in the end.
use Rattle.std.specs.Prelude.{◌≡◌, ℕ, None}
use Rattle.cr_grammar.specs.declared.symbols.NonTerm.{NonTerm}
use Rattle.cr_grammar.specs.declared.symbols.NonTerm.TheVariants as n
use Rattle.cr_grammar.specs.declared.symbols.Action.{Action}
use Rattle.cr_ll.specs.Derivation.{Trees}
use Rattle.cr_binding.specs.Source.{Source}
use Rattle.cr_binding.specs.State.{State, start}
use Rattle.cr_binding.specs.Actions.{acted}
use Rattle.cr_binding.specs.Binding.{bound}
use Rattle.cr_binding.specs.BindingGrows.{Grows}
use Rattle.cr_binding.specs.BindingStays.{Along}

-- an action that is due in the state s of a unit, which is bound to this in the end
pub record IsDone (t : Source) (end : State) (m : NonTerm) (first : ℕ) (x : Action) (s : State) : Type 0 where
  pub before : s.fault ≡ None
  pub after : (acted t m first x s).fault ≡ None
  pub stays : Grows (acted t m first x s) end

abbrev pub ActionsAreDone : Type 0
ActionsAreDone =
    (t : Source) (tree : Trees) → (bound t tree).fault ≡ None → Along (IsDone t (bound t tree)) t n.Unit None tree start
