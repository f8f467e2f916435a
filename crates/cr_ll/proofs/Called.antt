-- From calls to runs.
use Rattle.std.proofs.Common.{◌≡◌, ℕ, Some, None, Ok, Err, List, [], ◌∷◌, ◌++◌, inl, inr, refl, sym, ◌∙◌, ap, subst}
use Rattle.std.proofs.lemmas.List.{append-nil}
use Rattle.cr_grammar.specs.declared.symbols.Symbol.TheVariants.{Non}
use Rattle.cr_ll.specs.declared.state.State.{State}
use Rattle.cr_ll.specs.declared.state.Event.TheVariants.{Token, Act as ActEvent, Ask, Done}
use Rattle.cr_ll.specs.declared.state.MachineFault.TheVariants.{Syntax, LimitDepth}
use Rattle.cr_ll.specs.Guards.{Terminal}
use Rattle.cr_ll.specs.Derivation.{Item, Passed, Due, Asked, Derives}
use Rattle.cr_ll.specs.Machine.{Config, at, Ends, Faults, AsksAt, Opens, move, Run, stop}
use Rattle.cr_ll.specs.Running.{config_of, IsFresh}
use Rattle.cr_ll.specs.Laws.{unit, Calls, no_call, gave_token, gave_action, replied_to, EventsAreATrees, NoTreeGoesOn, TreesGoOver, CallsAreATrees, SyntaxEndsAllTrees, DoneStays}
use Rattle.cr_ll.proofs.Sound.{Whole, sound_whole}
use Rattle.cr_ll.proofs.Onward.{join, after_fault, after_end, next_opens, tree_run, tree_rest}
use Rattle.cr_ll.proofs.Ended.{ends_empty}

pub events_are_a_trees : EventsAreATrees
events_are_a_trees ts xs j = (
  λ r.
      let w : Whole ts 0 unit xs r.0.place = sound_whole ts (Non _) xs r.0 r.1 (ends_empty ts r.0 r.2) in
      let P : ℕ → Type 0 = λ z. Derives ts w.trees 0 unit z in
      (w.trees, subst P r.3 w.derives, w.all),
  λ w.
      let P : List Item → Type 0 = λ z. Run ts (at 0 unit) z (at j []) in
      (at j [], subst P (sym w.2) (tree_run ts w.0 j w.1), refl, refl),
)

pub no_tree_goes_on : NoTreeGoesOn
no_tree_goes_on ts xs ys c tree j run m d eq = after_fault m refl (tree_rest ts xs ys c tree j run d eq)

pub trees_go_over : TreesGoOver
trees_go_over ts xs ys c d tree j run m t eq = next_opens d m refl (tree_rest ts xs ys c tree j run t eq)

pub calls_run : {ts : List Terminal} {old new : State} {xs : List Item} → Calls ts old xs new → Run ts (config_of old) xs (config_of new)
calls_run no_call = stop
calls_run (gave_token s more) = join s.0 (calls_run more)
calls_run (gave_action s more) = join s.0 (calls_run more)
calls_run {ts} {new} (replied_to {asking} {mid} {i} {xs} answer s r f more) =
    let q : Run ts (config_of asking) (Asked i answer ∷ []) (config_of mid) = elim (r ts i s.1.0 s.1.2 s.1.1) [
      | inl g ↦ g.0
      | inr g ↦ (let e : None ≡ Some LimitDepth = sym f ∙ g.3 in cc)
    ] in
    join s.0 (join q (calls_run more))

pub fresh_run : (ts : List Terminal) (old new : State) (xs : List Item) → IsFresh old → Calls ts old xs new → Run ts (at 0 unit) xs (config_of new)
fresh_run ts old new xs fresh calls =
    let P : Config → Type 0 = λ z. Run ts z xs (config_of new) in
    subst P fresh.0 (calls_run calls)

pub calls_are_a_trees : CallsAreATrees
calls_are_a_trees ts old new last xs fresh calls done =
    let run : Run ts (at 0 unit) (xs ++ []) (config_of last) = join (fresh_run ts old new xs fresh calls) done.0 in
    let P : List Item → Type 0 = λ z. Run ts (at 0 unit) z (config_of last) in
    let w : Whole ts 0 unit xs last.place = sound_whole ts (Non _) xs (config_of last) (subst P (append-nil xs) run) (ends_empty ts (config_of last) done.1) in
    (w.trees, last.place, w.derives, w.all)

pub syntax_ends_all_trees : SyntaxEndsAllTrees
syntax_ends_all_trees ts old new last xs ys i j tree fresh calls clear s d eq =
    elim s.3 [
      | inl g ↦ (let e : None ≡ Some (Syntax i) = sym clear ∙ g.0 in cc)
      | inr g ↦
          let run : Run ts (at 0 unit) (xs ++ []) (config_of last) = join (fresh_run ts old new xs fresh calls) s.2 in
          let P : List Item → Type 0 = λ z. Run ts (at 0 unit) z (config_of last) in
          no_tree_goes_on ts xs ys (config_of last) tree j (subst P (append-nil xs) run) g.0 d eq
    ]

pub done_stays : DoneStays
done_stays ts old new (Ok (Token i)) m f s = (let g : (Passed i ∷ []) ≡ [] = (after_end m s.0).0 in cc)
done_stays ts old new (Ok (ActEvent a)) m f s = (let g : (Due a ∷ []) ≡ [] = (after_end m s.0).0 in cc)
done_stays ts old new (Ok (Ask i)) m f s =
    let e : config_of new ≡ config_of old = (after_end m s.0).1 in
    let g : AsksAt i s.1.0 ≡ Ends = sym s.1.1 ∙ ap (λ z. move ts z) e ∙ m in cc
done_stays ts old new (Ok Done) m f s = (refl, (after_end m s.0).1, s.2)
done_stays ts old new (Err (Syntax i)) m f s = elim s.3 [
  | inl g ↦ (let e : None ≡ Some (Syntax i) = sym f ∙ g.0 in cc)
  | inr g ↦
      let e : config_of new ≡ config_of old = (after_end m s.2).1 in
      let h : Faults ≡ Ends = sym g.0 ∙ ap (λ z. move ts z) e ∙ m in cc
]
done_stays ts old new (Err LimitDepth) m f s = elim s.3 [
  | inl g ↦ (let e : None ≡ Some LimitDepth = sym f ∙ g.0 in cc)
  | inr g ↦
      let e : config_of new ≡ config_of old = (after_end m s.2).1 in
      let h : Opens g.0 ≡ Ends = sym g.1 ∙ ap (λ z. move ts z) e ∙ m in cc
]
