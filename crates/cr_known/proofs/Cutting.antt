-- Where steps stop, trees that are cut off there have the fault that is kept.
use Rattle.std.proofs.Common.{◌≡◌, Bool, true, false, List, [], ◌∷◌, ◌++◌, refl, sym, ap, subst, ◌∙◌}
use Rattle.std.specs.Prelude.{if◌then◌else◌, not}
use Rattle.cr_grammar.specs.declared.symbols.NonTerm.{NonTerm}
use Rattle.cr_grammar.specs.declared.symbols.NonTerm.TheVariants as n
use Rattle.cr_ll.specs.Derivation.{Trees}
use Rattle.cr_decl.specs.Specifiers.{is_permitted}
use Rattle.cr_binding.specs.Source.{Source}
use Rattle.cr_binding.specs.State.{State}
use Rattle.cr_binding.specs.Specifying.{words_ended}
use Rattle.cr_binding.specs.Binding.{bound}
use Rattle.cr_binding.specs.Steps.{Step, Opens, Passes, Acts, Closes, steps}
use Rattle.cr_known.specs.Known.{Saved, Nothing, Gathering, Filling, Aiming, put_back, ended_alone, Frame, Known, known_first, known_close_on, known_step, all_known}
use Rattle.cr_known.specs.Laws.{AreSoundSteps, AllClose}
use Rattle.cr_known.proofs.Walking.{known_append, sound_steps_bind}

if_same : (b : Bool) (x y s : State) → x.fault ≡ s.fault → y.fault ≡ s.fault → (if b then x else y).fault ≡ s.fault
if_same true x y s e f = e
if_same false x y s e f = f

alone : (m : NonTerm) (childless : Bool) (s : State) → (ended_alone m childless s).fault ≡ s.fault
alone n.AssMore childless s = if_same childless _ _ s refl refl
alone n.SpecsB childless s = if_same childless (words_ended s) s s (if_same (not (is_permitted s.pending.specifiers.basic)) _ _ s refl refl) refl
alone _ childless s = refl

back : (x : Saved) (s : State) → (put_back x s).fault ≡ s.fault
back Nothing s = refl
back (Gathering p) s = refl
back (Filling r) s = refl
back (Aiming x) s = refl

close_keeps : (k : Known) (fs : List Frame) → (known_close_on k fs).state.fault ≡ k.state.fault
close_keeps k [] = refl
close_keeps k (f ∷ fs) = back f.saved (ended_alone k.node k.childless k.state) ∙ alone k.node k.childless k.state

closes_keep : (t : Source) (xs : List Step) (k : Known) → AllClose xs → (all_known t xs k).state.fault ≡ k.state.fault
closes_keep t [] k h = refl
closes_keep t (Closes children ∷ xs) k h = closes_keep t xs (known_step t (Closes children) k) h ∙ close_keeps k k.above
closes_keep t (Opens m asks ∷ xs) k h = absurd h
closes_keep t (Passes i ∷ xs) k h = absurd h
closes_keep t (Acts x ∷ xs) k h = absurd h

closes_sound : (t : Source) (more : List Step) (k : Known) → AllClose more → AreSoundSteps t more k
closes_sound t [] k h = tt
closes_sound t (Closes children ∷ xs) k h = closes_sound t xs (known_step t (Closes children) k) h
closes_sound t (Opens m asks ∷ xs) k h = absurd h
closes_sound t (Passes i ∷ xs) k h = absurd h
closes_sound t (Acts x ∷ xs) k h = absurd h

sound_more : (t : Source) (xs more : List Step) (k : Known) → AllClose more → AreSoundSteps t xs k → AreSoundSteps t (xs ++ more) k
sound_more t [] more k c h = closes_sound t more k c
sound_more t (Opens m asks ∷ xs) more k c h = (h.0, sound_more t xs more (known_step t (Opens m asks) k) c h.1)
sound_more t (Passes i ∷ xs) more k c h = sound_more t xs more (known_step t (Passes i) k) c h
sound_more t (Acts x ∷ xs) more k c h = sound_more t xs more (known_step t (Acts x) k) c h
sound_more t (Closes children ∷ xs) more k c h = sound_more t xs more (known_step t (Closes children) k) c h

pub faults_of_cut_trees : (t : Source) (trees : Trees) (xs more : List Step) → steps trees ≡ xs ++ more → AllClose more → AreSoundSteps t xs known_first
    → (bound t trees).fault ≡ (all_known t xs known_first).state.fault
faults_of_cut_trees t trees xs more e c h =
    let sound : AreSoundSteps t (steps trees) known_first = subst (λ z. AreSoundSteps t z known_first) (sym e) (sound_more t xs more known_first c h) in
    sym (ap (λ (s : State). s.fault) (sound_steps_bind t trees sound))
    ∙ ap (λ z. (all_known t z known_first).state.fault) e
    ∙ ap (λ (k : Known). k.state.fault) (known_append t xs more known_first)
    ∙ closes_keep t more (all_known t xs known_first) c
