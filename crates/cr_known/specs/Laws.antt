-- What is kept is what is bound.
use Rattle.std.specs.Prelude.{◌≡◌, ℕ, Option, Some, None, unwrap_or, List, [], ◌∷◌, ◌++◌}
use Rattle.cr_grammar.specs.declared.symbols.NonTerm.{NonTerm}
use Rattle.cr_grammar.specs.declared.symbols.Action.{Action}
use Rattle.cr_ll.specs.Derivation.{Trees, none, token, action, node}
use Rattle.cr_binding.specs.Source.{Source}
use Rattle.cr_binding.specs.State.{State}
use Rattle.cr_binding.specs.Actions.{acted}
use Rattle.cr_binding.specs.Scoping.{unless_failed}
use Rattle.cr_binding.specs.Actions.{passed}
use Rattle.cr_binding.specs.Binding.{ended, is_empty, walk, asked, goes_on, bound}
use Rattle.cr_binding.specs.Steps.{Step, Opens, Passes, Acts, Closes, steps}
use Rattle.cr_grammar.specs.declared.symbols.NonTerm.TheVariants as n
use Rattle.cr_binding.specs.State.{start}
use Rattle.cr_known.specs.Shapes.{shape_of}
use Rattle.cr_known.specs.Known.{unclosed, acted_by, saved_for, ended_by, Known, known_step, all_known, known_first}

-- An action does what its shape says.
abbrev pub ActsByShapes : Type 0
ActsByShapes =
    (t : Source) (m : NonTerm) (first : ℕ) (x : Action) (s : State)
    → unclosed (acted t m first x s) ≡ acted_by t m first x (shape_of s.closed) (unclosed s)

-- The end of a node puts back what was saved.
abbrev pub EndsBySaved : Type 0
EndsBySaved =
    (above m : NonTerm) (children : Trees) (before s : State)
    → unclosed (ended above m children before s)
    ≡ ended_by above m (is_empty children) (saved_for m before) before.values (unclosed s)

-- Each node of the trees begins in a state without a fault: nothing is done behind one.
abbrev pub AreSound : Source → NonTerm → Option ℕ → Trees → State → Type 0
AreSound t m first none s = Unit {0}
AreSound t m first (token i next) s = AreSound t m (Some (unwrap_or first i)) next (goes_on s (passed t m i s))
AreSound t m first (action x next) s = AreSound t m first next (goes_on s (acted t m (unwrap_or first s.last) x s))
AreSound t m first (node k asks children next) s =
    (s.fault ≡ None) × AreSound t k None children (asked asks s)
    × AreSound t m first next (unless_failed s (ended m k children s (walk t k None children (asked asks s))))

-- From the start through the steps of a tree, what is kept is the binding of the tree.
abbrev pub KnownIsBound : Type 0
KnownIsBound =
    (t : Source) (tree : Trees)
    → AreSound t n.Unit None tree start → (all_known t (steps tree) known_first).state ≡ unclosed (bound t tree)

-- The same by the steps: before each opening there is no fault. What is given one step at a time sees this.
abbrev pub AreSoundSteps : Source → List Step → Known → Type 0
AreSoundSteps t [] k = Unit {0}
AreSoundSteps t (Opens m asks ∷ xs) k = (k.state.fault ≡ None) × AreSoundSteps t xs (known_step t (Opens m asks) k)
AreSoundSteps t (Passes i ∷ xs) k = AreSoundSteps t xs (known_step t (Passes i) k)
AreSoundSteps t (Acts x ∷ xs) k = AreSoundSteps t xs (known_step t (Acts x) k)
AreSoundSteps t (Closes children ∷ xs) k = AreSoundSteps t xs (known_step t (Closes children) k)

abbrev pub SoundStepsBind : Type 0
SoundStepsBind =
    (t : Source) (tree : Trees)
    → AreSoundSteps t (steps tree) known_first → (all_known t (steps tree) known_first).state ≡ unclosed (bound t tree)

-- nothing but ends of nodes
abbrev pub AllClose : List Step → Type 0
AllClose [] = Unit {0}
AllClose (Closes children ∷ xs) = AllClose xs
AllClose (_ ∷ xs) = ⊥

-- Where steps stop, trees that are cut off there have the fault that is kept, or none.
abbrev pub FaultsAreOfCutTrees : Type 0
FaultsAreOfCutTrees =
    (t : Source) (trees : Trees) (xs more : List Step)
    → steps trees ≡ xs ++ more → AllClose more → AreSoundSteps t xs known_first
    → (bound t trees).fault ≡ (all_known t xs known_first).state.fault
