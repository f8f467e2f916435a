-- The steps of a tree bind as the walk over it does.
use Rattle.std.specs.Prelude.{◌≡◌, ℕ, Option, Some, None, unwrap_or, List, [], ◌∷◌, ◌++◌, flat_map}
use Rattle.std.proofs.Common.{refl, sym, ◌∙◌, ap}
use Rattle.std.proofs.lemmas.List.{append_assoc}
use Rattle.cr_grammar.specs.declared.symbols.NonTerm.{NonTerm}
use Rattle.cr_grammar.specs.declared.symbols.NonTerm.TheVariants as n
use Rattle.cr_ll.specs.Derivation.{Passed, Due, Trees, none, token, action, node, events}
use Rattle.cr_binding.specs.Source.{Source}
use Rattle.cr_binding.specs.State.{State, start}
use Rattle.cr_binding.specs.Scoping.{unless_failed}
use Rattle.cr_binding.specs.Actions.{passed, acted}
use Rattle.cr_binding.specs.Binding.{asked, ended, goes_on, walk}
use Rattle.cr_binding.specs.Steps.{Step, Closes, Open, Walking, steps, given, all_stepped, StepsBind, StepsAreEvents}

-- one row of steps behind another
in_two : (t : Source) (xs ys : List Step) (w : Walking) → all_stepped t (xs ++ ys) w ≡ all_stepped t ys (all_stepped t xs w)
in_two t [] ys w = refl
in_two t (x ∷ xs) ys w = in_two t xs ys _

abbrev first_after : Trees → Option ℕ → Option ℕ
first_after none first = first
first_after (token i next) first = first_after next (Some (unwrap_or first i))
first_after (action x next) first = first_after next first
first_after (node m asks children next) first = first_after next first

abbrev walking : NonTerm → Option ℕ → List Open → State → Walking
walking m first above s = record { node = m; first = first; above = above; state = s }

-- the steps of a row in a node leave the nodes above it as they were
row_binds : (t : Source) (trees : Trees) (m : NonTerm) (first : Option ℕ) (above : List Open) (s : State) → all_stepped t (steps trees) (walking m first above s) ≡ walking m (first_after trees first) above (walk t m first trees s)
row_binds t none m first above s = refl
row_binds t (token i next) m first above s = row_binds t next m (Some (unwrap_or first i)) above (goes_on s (passed t m i s))
row_binds t (action x next) m first above s = row_binds t next m first above (goes_on s (acted t m (unwrap_or first s.last) x s))
row_binds t (node k asks children next) m first above s =
    let open_above : List Open = (record { node = m; first = first; before = s }) ∷ above in
    in_two t (steps children) (Closes children ∷ steps next) (walking k None open_above (asked asks s))
    ∙ ap (λ w. all_stepped t (Closes children ∷ steps next) w) (row_binds t children k None open_above (asked asks s))
    ∙ row_binds t next m first above (unless_failed s (ended m k children s (walk t k None children (asked asks s))))

pub steps_bind : StepsBind
steps_bind t tree = ap (λ w. w.state) (row_binds t tree n.Unit None [] start)

-- what is given of one row behind another
given_in_two : (xs ys : List Step) → flat_map given (xs ++ ys) ≡ flat_map given xs ++ flat_map given ys
given_in_two [] ys = refl
given_in_two (x ∷ xs) ys = ap (λ is. given x ++ is) (given_in_two xs ys) ∙ sym (append_assoc (given x) (flat_map given xs) (flat_map given ys))

pub steps_are_events : StepsAreEvents
steps_are_events none = refl
steps_are_events (token i next) = ap (λ is. Passed i ∷ is) (steps_are_events next)
steps_are_events (action x next) = ap (λ is. Due x ∷ is) (steps_are_events next)
steps_are_events (node m asks children next) =
    ap (λ is. asks ++ is)
    (given_in_two (steps children) (Closes children ∷ steps next)
    ∙ ap (λ is. is ++ flat_map given (steps next)) (steps_are_events children)
    ∙ ap (λ is. events children ++ is) (steps_are_events next))
