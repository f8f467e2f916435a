-- How a run to the end goes on from where another one came to.
use Rattle.std.proofs.Common.{◌≡◌, ℕ, Bool, true, List, [], ◌∷◌, ◌++◌, refl, sym, ◌∙◌, ap, subst}
use Rattle.std.proofs.lemmas.List.{append-nil}
use Rattle.cr_grammar.specs.declared.symbols.NonTerm.{NonTerm}
use Rattle.cr_grammar.specs.declared.symbols.NonTerm.TheVariants as n
use Rattle.cr_grammar.specs.declared.symbols.Action.{Action}
use Rattle.cr_ll.specs.Guards.{Terminal}
use Rattle.cr_ll.specs.Derivation.{Item, Passed, Due, Asked, Trees, none, Derives, events}
use Rattle.cr_ll.specs.Laws.{unit}
use Rattle.cr_binding.specs.Steps.{Step, Opens, Passes, Acts, Closes, steps}
use Rattle.cr_nodes.specs.declared.pending.Pending.TheVariants as pending
use Rattle.cr_nodes.specs.Moves.{row, OpenNodes, at, at_start, OpensTo, ClosesTo, PassesTo, ActsTo, AsksAt, Ends, move, replied}
use Rattle.cr_nodes.specs.Gathering.{Gathered, gathered, at_first, asking, passing, acting, opening, closing}
use Rattle.cr_nodes.specs.Laws.{Run, stop, opens, closes, passes, acts, asks, Awaits, StepsAreATrees, AllStepsAreMade}
use Rattle.cr_nodes.proofs.Whole.{still, whole}

-- a run to the end takes the move that there is
pub next_opens : {ts : List Terminal} {c e : OpenNodes} {g k : Gathered} {es : List Item} {xs : List Step} → (m : NonTerm) (d : OpenNodes) → move ts c ≡ OpensTo m d → move ts e ≡ Ends → Run ts c g es xs e k → (later : List Step) × (xs ≡ Opens m g.asks ∷ later) × Run ts d (opening m g) es later e k
next_opens m d is end stop = cc
next_opens {ts} {e} {g} {k} {es} m d is end (opens {d = b} {m = l} {xs = later} now run) =
    let p : l ≡ m = cc in
    let q : b ≡ d = cc in
    let P : OpenNodes → Type 0 = λ z. Run ts z (opening m g) es later e k in
    let Q : NonTerm → Type 0 = λ z. Run ts b (opening z g) es later e k in
    (later, ap (λ z. Opens z g.asks ∷ later) p, subst P q (subst Q p run))
next_opens m d is end (closes now run) = cc
next_opens m d is end (passes now run) = cc
next_opens m d is end (acts now run) = cc
next_opens m d is end (asks answer now run) = cc

pub next_closes : {ts : List Terminal} {c e : OpenNodes} {g k : Gathered} {es : List Item} {xs : List Step} → (d : OpenNodes) → move ts c ≡ ClosesTo d → move ts e ≡ Ends → Run ts c g es xs e k → (later : List Step) × (xs ≡ Closes g.inner.children ∷ later) × Run ts d (closing g) es later e k
next_closes d is end stop = cc
next_closes d is end (opens now run) = cc
next_closes {ts} {e} {g} {k} {es} d is end (closes {d = b} {xs = later} now run) =
    let q : b ≡ d = cc in
    let P : OpenNodes → Type 0 = λ z. Run ts z (closing g) es later e k in
    (later, refl, subst P q run)
next_closes d is end (passes now run) = cc
next_closes d is end (acts now run) = cc
next_closes d is end (asks answer now run) = cc

pub next_passes : {ts : List Terminal} {c e : OpenNodes} {g k : Gathered} {es : List Item} {xs : List Step} → (i : ℕ) (d : OpenNodes) → move ts c ≡ PassesTo i d → move ts e ≡ Ends → Run ts c g es xs e k → (more : List Item) × (later : List Step) × (es ≡ Passed i ∷ more) × (xs ≡ Passes i ∷ later) × Run ts d (passing i g) more later e k
next_passes i d is end stop = cc
next_passes i d is end (opens now run) = cc
next_passes i d is end (closes now run) = cc
next_passes {ts} {e} {g} {k} i d is end (passes {d = b} {i = j} {es = more} {xs = later} now run) =
    let p : j ≡ i = cc in
    let q : b ≡ d = cc in
    let P : OpenNodes → Type 0 = λ z. Run ts z (passing i g) more later e k in
    let Q : ℕ → Type 0 = λ z. Run ts b (passing z g) more later e k in
    (more, later, ap (λ z. Passed z ∷ more) p, ap (λ z. Passes z ∷ later) p, subst P q (subst Q p run))
next_passes i d is end (acts now run) = cc
next_passes i d is end (asks answer now run) = cc

pub next_acts : {ts : List Terminal} {c e : OpenNodes} {g k : Gathered} {es : List Item} {xs : List Step} → (x : Action) (d : OpenNodes) → move ts c ≡ ActsTo x d → move ts e ≡ Ends → Run ts c g es xs e k → (more : List Item) × (later : List Step) × (es ≡ Due x ∷ more) × (xs ≡ Acts x ∷ later) × Run ts d (acting x g) more later e k
next_acts x d is end stop = cc
next_acts x d is end (opens now run) = cc
next_acts x d is end (closes now run) = cc
next_acts x d is end (passes now run) = cc
next_acts {ts} {e} {g} {k} x d is end (acts {d = b} {x = y} {es = more} {xs = later} now run) =
    let p : y ≡ x = cc in
    let q : b ≡ d = cc in
    let P : OpenNodes → Type 0 = λ z. Run ts z (acting x g) more later e k in
    let Q : Action → Type 0 = λ z. Run ts b (acting z g) more later e k in
    (more, later, ap (λ z. Due z ∷ more) p, ap (λ z. Acts z ∷ later) p, subst P q (subst Q p run))
next_acts x d is end (asks answer now run) = cc

pub next_asks : {ts : List Terminal} {c e : OpenNodes} {g k : Gathered} {es : List Item} {xs : List Step} → (i : ℕ) (d : OpenNodes) → move ts c ≡ AsksAt i d → move ts e ≡ Ends → Run ts c g es xs e k → (answer : Bool) × (more : List Item) × (es ≡ Asked i answer ∷ more) × Run ts (replied answer d) (asking i answer g) more xs e k
next_asks i d is end stop = cc
next_asks i d is end (opens now run) = cc
next_asks i d is end (closes now run) = cc
next_asks i d is end (passes now run) = cc
next_asks i d is end (acts now run) = cc
next_asks {ts} {e} {g} {k} {xs} i d is end (asks {d = b} {i = j} {es = more} answer now run) =
    let p : j ≡ i = cc in
    let q : b ≡ d = cc in
    let P : OpenNodes → Type 0 = λ z. Run ts (replied answer z) (asking i answer g) more xs e k in
    let Q : ℕ → Type 0 = λ z. Run ts (replied answer b) (asking z answer g) more xs e k in
    (answer, more, ap (λ z. Asked z answer ∷ more) p, subst P q (subst Q p run))

-- what is left of a run to the end, where another one came to
pub record Rest (ts : List Terminal) (d e : OpenNodes) (h k : Gathered) (more : List Item) (xs all : List Step) : Type 0 where
  pub later : List Step
  pub steps_are : all ≡ xs ++ later
  pub run : Run ts d h more later e k

-- a step in front of both
behind : {ts : List Terminal} {d e : OpenNodes} {h k : Gathered} {more : List Item} {xs later : List Step} (x : Step) (all : List Step) → all ≡ x ∷ later → Rest ts d e h k more xs later → Rest ts d e h k more (x ∷ xs) all
behind x all eq r = record { later = r.later; steps_are = eq ∙ ap (λ z. x ∷ z) r.steps_are; run = r.run }

pub rest : {ts : List Terminal} {c d e : OpenNodes} {g h k : Gathered} {es : List Item} {xs : List Step} (more whole_events : List Item) (all : List Step) → move ts e ≡ Ends → Run ts c g whole_events all e k → whole_events ≡ es ++ more → Run ts c g es xs d h → Rest ts d e h k more xs all
rest {ts} {c} {e} {g} {k} more zs all end run eq stop =
    let P : List Item → Type 0 = λ z. Run ts c g z all e k in
    record { later = all; steps_are = refl; run = subst P eq run }
rest {ts} {e} {g} {k} more zs all end run eq (opens {d = b} {m} now first) =
    let next : (later : List Step) × (all ≡ Opens m g.asks ∷ later) × Run ts b (opening m g) zs later e k = next_opens m b now end run in
    behind (Opens m g.asks) all next.1 (rest more zs next.0 end next.2 eq first)
rest {ts} {e} {g} {k} more zs all end run eq (closes {d = b} now first) =
    let next : (later : List Step) × (all ≡ Closes g.inner.children ∷ later) × Run ts b (closing g) zs later e k = next_closes b now end run in
    behind (Closes g.inner.children) all next.1 (rest more zs next.0 end next.2 eq first)
rest {ts} {e} {g} {k} more zs all end run eq (passes {d = b} {i} {es = front} now first) =
    let next : (l : List Item) × (later : List Step) × (zs ≡ Passed i ∷ l) × (all ≡ Passes i ∷ later) × Run ts b (passing i g) l later e k = next_passes i b now end run in
    let q : next.0 ≡ front ++ more = cc in
    behind (Passes i) all next.3 (rest more next.0 next.1 end next.4 q first)
rest {ts} {e} {g} {k} more zs all end run eq (acts {d = b} {x} {es = front} now first) =
    let next : (l : List Item) × (later : List Step) × (zs ≡ Due x ∷ l) × (all ≡ Acts x ∷ later) × Run ts b (acting x g) l later e k = next_acts x b now end run in
    let q : next.0 ≡ front ++ more = cc in
    behind (Acts x) all next.3 (rest more next.0 next.1 end next.4 q first)
rest {ts} {e} {g} {k} more zs all end run eq (asks {d = b} {i} {es = front} answer now first) =
    let next : (a : Bool) × (l : List Item) × (zs ≡ Asked i a ∷ l) × Run ts (replied a b) (asking i a g) l all e k = next_asks i b now end run in
    let q : next.1 ≡ front ++ more = cc in
    let p : next.0 ≡ answer = cc in
    let P : Bool → Type 0 = λ z. Run ts (replied z b) (asking i z g) next.1 all e k in
    rest more next.1 all end (subst P p next.3) q first

-- a run to the end takes the move that there is, so its first event is what this waits for
pub awaited : {ts : List Terminal} {d e : OpenNodes} {h k : Gathered} {more : List Item} {later : List Step} → move ts e ≡ Ends → Run ts d h more later e k → Awaits more (move ts d)
awaited {more} end stop = subst (λ z. Awaits more z) (sym end) refl
awaited {more} end (opens now run) = subst (λ z. Awaits more z) (sym now) tt
awaited {more} end (closes now run) = subst (λ z. Awaits more z) (sym now) tt
awaited {more} end (passes {es} now run) = subst (λ z. Awaits more z) (sym now) (es, refl)
awaited {more} end (acts {es} now run) = subst (λ z. Awaits more z) (sym now) (es, refl)
awaited {more} end (asks {es} answer now run) = subst (λ z. Awaits more z) (sym now) (answer, es, refl)

abbrev at_end : ℕ → Trees → OpenNodes
at_end j tree = at j (pending.From 0) (still true tree) (row n.Unit []) []

abbrev with_tree : Trees → Gathered
with_tree tree = gathered [] n.Unit [] tree []

pub tree_run : (ts : List Terminal) (tree : Trees) (j : ℕ) → Derives ts tree 0 unit j → Run ts at_start at_first (events tree) (steps tree) (at_end j tree) (with_tree tree)
tree_run ts tree j d =
    let run : Run ts at_start at_first (events tree ++ []) (steps tree ++ []) (at_end j tree) (with_tree tree) =
    whole ts true tree 0 unit j n.Unit n.Unit [] [] [] [] none [] [] (at_end j tree) (with_tree tree) d stop in
    let P : List Item → Type 0 = λ z. Run ts at_start at_first z (steps tree ++ []) (at_end j tree) (with_tree tree) in
    let Q : List Step → Type 0 = λ z. Run ts at_start at_first (events tree) z (at_end j tree) (with_tree tree) in
    subst Q (append-nil (steps tree)) (subst P (append-nil (events tree)) run)

pub tree_rest : (ts : List Terminal) (tree : Trees) (j : ℕ) (es more : List Item) (xs : List Step) (c : OpenNodes) (g : Gathered) → Derives ts tree 0 unit j → events tree ≡ es ++ more → Run ts at_start at_first es xs c g → Rest ts c (at_end j tree) g (with_tree tree) more xs (steps tree)
tree_rest ts tree j es more xs c g d eq run = rest more (events tree) (steps tree) refl (tree_run ts tree j d) eq run

pub steps_are_a_trees : StepsAreATrees
steps_are_a_trees ts tree j es more xs c g d eq run =
    let r : Rest ts c (at_end j tree) g (with_tree tree) more xs (steps tree) = tree_rest ts tree j es more xs c g d eq run in
    ((r.later, r.steps_are), awaited refl r.run)

-- nothing comes after the end
after_end : {ts : List Terminal} {c e : OpenNodes} {g k : Gathered} {es : List Item} {xs : List Step} → move ts c ≡ Ends → Run ts c g es xs e k → (es ≡ []) × (xs ≡ []) × (k ≡ g)
after_end is stop = (refl, refl, refl)
after_end is (opens now run) = cc
after_end is (closes now run) = cc
after_end is (passes now run) = cc
after_end is (acts now run) = cc
after_end is (asks answer now run) = cc

pub all_steps_are_made : AllStepsAreMade
all_steps_are_made ts tree j es more xs c g d eq run end =
    let r : Rest ts c (at_end j tree) g (with_tree tree) more xs (steps tree) = tree_rest ts tree j es more xs c g d eq run in
    let a : (more ≡ []) × (r.later ≡ []) × (with_tree tree ≡ g) = after_end end r.run in
    (a.0, sym (r.steps_are ∙ ap (λ z. xs ++ z) a.1 ∙ append-nil xs), sym (ap (λ (z : Gathered). z.inner.children) a.2))
