-- The moves of the open nodes are those of the grammar's machine, with the nodes that it doesn't tell.
use Rattle.std.proofs.Common.{◌≡◌, ℕ, ◌+◌, length, Bool, true, false, Some, List, [], ◌∷◌, ◌++◌, drop, refl, sym, ◌∙◌, ap, subst}
use Rattle.std.proofs.lemmas.List.{append-nil}
use Rattle.cr_grammar.specs.declared.symbols.NonTerm.{NonTerm}
use Rattle.cr_grammar.specs.declared.symbols.Symbol.{Symbol}
use Rattle.cr_grammar.specs.declared.symbols.Term.{Term as TermWord}
use Rattle.cr_grammar.specs.declared.symbols.Symbol.TheVariants.{Term, Non, Act}
use Rattle.cr_grammar.specs.Grammar.{rule}
use Rattle.cr_ll.specs.declared.guards.Verdict.{Verdict}
use Rattle.cr_ll.specs.declared.guards.Verdict.TheVariants.{Holds, Fails, Asks}
use Rattle.cr_ll.specs.declared.guards.Choice.{Choice}
use Rattle.cr_ll.specs.declared.guards.Choice.TheVariants.{Nothing, Takes, Waits}
use Rattle.cr_ll.specs.Guards.{Terminal, token_at, meets, choice, IsWithin}
use Rattle.cr_ll.specs.Machine.{Config, body_at}
use Rattle.cr_ll.specs.Machine as machine
use Rattle.cr_ll.specs.Derivation.{Item, Passed, Due, Asked, Trees, Derives, events}
use Rattle.cr_ll.specs.Laws.{unit}
use Rattle.cr_ll.proofs.Called.{events_are_a_trees}
use Rattle.cr_binding.specs.Steps.{Step, Opens, Passes, Acts, Closes}
use Rattle.cr_nodes.specs.declared.pending.Pending.{Pending}
use Rattle.cr_nodes.specs.declared.pending.Pending.TheVariants as pending
use Rattle.cr_nodes.specs.Moves.{Row, row, OpenNodes, at, Move, OpensTo, ClosesTo, PassesTo, ActsTo, AsksAt, Ends, Faults, body_of, opens_by, by_choice, by_pending, passes_by, closes_by, move_on, move, replied}
use Rattle.cr_nodes.specs.Gathering.{Gathered}
use Rattle.cr_nodes.specs.Falling.{left_above}
use Rattle.cr_nodes.specs.Laws.{Run, stop, opens, closes, passes, acts, asks, Awaits, MachineFits, EndFits}
use Rattle.cr_nodes.proofs.Onward.{steps_are_a_trees}
use Rattle.cr_nodes.proofs.Standing.{body_there, within_rule, Known, KnownOf, Stands, leads, stands_first, stands_run}

abbrev machine_by : ℕ → List Row → NonTerm → List Symbol → Pending → Config
machine_by i above m ss (pending.From k) = record { place = i; refused = k; stack = Non m ∷ (ss ++ left_above above) }
machine_by i above m ss (pending.Waits k) = record { place = i; refused = k; stack = Non m ∷ (ss ++ left_above above) }
machine_by i above m ss (pending.Takes k) = machine.at i (body_at (rule m) k ++ (ss ++ left_above above))

abbrev machine_on : ℕ → Pending → List Row → List Symbol → Config
machine_on i p above (Non m ∷ ss) = machine_by i above m ss p
machine_on i p above ss = machine.at i (ss ++ left_above above)

-- where the machine is; it opens a node as soon as an ask is answered by yes
abbrev machine_of : OpenNodes → Config
machine_of c = machine_on c.place c.pending c.above c.inner.rest

machine_first : (i : ℕ) (above : List Row) (ss : List Symbol) → machine_on i (pending.From 0) above ss ≡ machine.at i (ss ++ left_above above)
machine_first i above [] = refl
machine_first i above (Term t ∷ ss) = refl
machine_first i above (Act x ∷ ss) = refl
machine_first i above (Non m ∷ ss) = refl

module _ (ts : List Terminal) where
  -- the machine's move from m, by the move of the open nodes: it opens a node too, or has opened it before
  abbrev Follows : Config → Move → Type 0
  Follows m (OpensTo n d) = (zs : List Item) (x : Item) (e : Config) → machine.Run ts m (x ∷ zs) e → machine.Run ts (machine_of d) (x ∷ zs) e
  Follows m (ClosesTo d) = m ≡ machine_of d
  Follows m (PassesTo i d) = machine.move ts m ≡ machine.Gives (Passed i) (machine_of d)
  Follows m (ActsTo x d) = machine.move ts m ≡ machine.Gives (Due x) (machine_of d)
  Follows m (AsksAt i d) = (k : ℕ) × (machine.move ts m ≡ machine.AsksAt i k) × ((answer : Bool) → machine.replied m k answer ≡ machine_of (replied answer d))
  Follows m Ends = machine.move ts m ≡ machine.Ends
  Follows m Faults = machine.move ts m ≡ machine.Faults

  run_opens : {c d e : Config} {all : List Item} (x : Item) (zs : List Item) → all ≡ x ∷ zs → machine.move ts c ≡ machine.Opens d → machine.Run ts c all e → machine.Run ts d all e
  run_opens x zs eq is machine.stop = cc
  run_opens x zs eq is (machine.gives now run) = cc
  run_opens {d} {e} {all} x zs eq is (machine.opens {d = b} now run) =
      let q : b ≡ d = cc in
      subst (λ z. machine.Run ts z all e) q run
  run_opens x zs eq is (machine.asks answer now run) = cc

  run_gives : {c d e : Config} {all : List Item} (x y : Item) (zs : List Item) → all ≡ x ∷ zs → machine.move ts c ≡ machine.Gives y d → machine.Run ts c all e → (x ≡ y) × machine.Run ts d zs e
  run_gives x y zs eq is machine.stop = cc
  run_gives {d} {e} x y zs eq is (machine.gives {d = b} {x = w} {xs = more} now run) =
      let q : b ≡ d = cc in
      let p : w ≡ y = cc in
      let r : w ≡ x = cc in
      let s : more ≡ zs = cc in
      (sym r ∙ p, subst (λ z. machine.Run ts z zs e) q (subst (λ z. machine.Run ts b z e) s run))
  run_gives x y zs eq is (machine.opens now run) = cc
  run_gives x y zs eq is (machine.asks answer now run) = cc

  run_asks : {c e : Config} {all : List Item} (x : Item) (zs : List Item) (i k : ℕ) → all ≡ x ∷ zs → machine.move ts c ≡ machine.AsksAt i k → machine.Run ts c all e → (answer : Bool) × (x ≡ Asked i answer) × machine.Run ts (machine.replied c k answer) zs e
  run_asks x zs i k eq is machine.stop = cc
  run_asks x zs i k eq is (machine.gives now run) = cc
  run_asks x zs i k eq is (machine.opens now run) = cc
  run_asks {c} {e} x zs i k eq is (machine.asks {i = j} {m = l} {xs = more} answer now run) =
      let p : j ≡ i = cc in
      let q : l ≡ k = cc in
      let r : Asked j answer ≡ x = cc in
      let s : more ≡ zs = cc in
      (answer, sym r ∙ ap (λ z. Asked z answer) p, subst (λ z. machine.Run ts (machine.replied c z answer) zs e) q (subst (λ z. machine.Run ts (machine.replied c l answer) z e) s run))

  run_ends : {c e : Config} {all : List Item} (x : Item) (zs : List Item) → all ≡ x ∷ zs → machine.move ts c ≡ machine.Ends → machine.Run ts c all e → ⊥
  run_ends x zs eq is machine.stop = cc
  run_ends x zs eq is (machine.gives now run) = cc
  run_ends x zs eq is (machine.opens now run) = cc
  run_ends x zs eq is (machine.asks answer now run) = cc

  run_faults : {c e : Config} {all : List Item} (x : Item) (zs : List Item) → all ≡ x ∷ zs → machine.move ts c ≡ machine.Faults → machine.Run ts c all e → ⊥
  run_faults x zs eq is machine.stop = cc
  run_faults x zs eq is (machine.gives now run) = cc
  run_faults x zs eq is (machine.opens now run) = cc
  run_faults x zs eq is (machine.asks answer now run) = cc

  -- ---- each move

  abbrev left : List Symbol → List Row → List Symbol
  left ss above = ss ++ left_above above

  follows_opens : (i : ℕ) (n m : NonTerm) (ss : List Symbol) (above : List Row) (c : Config) (k : ℕ) → body_of m k ≡ Some (body_at (rule m) k) → ((zs : List Item) (x : Item) (e : Config) → machine.Run ts c (x ∷ zs) e → machine.Run ts (machine.at i (body_at (rule m) k ++ left ss above)) (x ∷ zs) e) → Follows c (opens_by m i (row n ss) above (body_of m k))
  follows_opens i n m ss above c k is run =
      subst (λ z. Follows c (opens_by m i (row n ss) above z)) (sym is)
      (λ zs x e r. subst (λ z. machine.Run ts z (x ∷ zs) e) (sym (machine_first i (row n ss ∷ above) (body_at (rule m) k))) (run zs x e r))

  replied_same : (o : Bool) (i r k : ℕ) (n m : NonTerm) (ss : List Symbol) (above : List Row) (answer : Bool) → machine.replied (machine_by i above m ss (pending.From r)) k answer ≡ machine_of (replied answer (at i (pending.Waits k) o (row n (Non m ∷ ss)) above))
  replied_same o i r k n m ss above true = refl
  replied_same o i r k n m ss above false = refl

  follows_choice : (o : Bool) (i r : ℕ) (n m : NonTerm) (ss : List Symbol) (above : List Row) (ch : Choice) → choice r (drop r (rule m)) (token_at ts i) (token_at ts (i + 1)) ≡ ch → IsWithin ch (length (rule m)) → Follows (machine_by i above m ss (pending.From r)) (by_choice m i o (row n ss) above ch)
  follows_choice o i r n m ss above Nothing e w = ap (λ z. machine.move_by z i m (left ss above)) e
  follows_choice o i r n m ss above (Takes k) e w =
      follows_opens i n m ss above (machine_by i above m ss (pending.From r)) k (body_there (rule m) k w)
      (λ zs x f run. run_opens x zs refl (ap (λ z. machine.move_by z i m (left ss above)) e) run)
  follows_choice o i r n m ss above (Waits k ahead) e w =
      (k, ap (λ z. machine.move_by z i m (left ss above)) e, λ answer. replied_same o i r k n m ss above answer)

  follows_pending : (o : Bool) (i : ℕ) (p : Pending) (n m : NonTerm) (ss : List Symbol) (above : List Row) (by : List Item) → Known ts i m by p → Follows (machine_by i above m ss p) (by_pending ts m i o (row n ss) above p)
  follows_pending o i (pending.From r) n m ss above by known =
      follows_choice o i r n m ss above (choice r (drop r (rule m)) (token_at ts i) (token_at ts (i + 1))) refl (within_rule ts i m r)
  follows_pending o i (pending.Waits k) n m ss above by known = absurd known
  follows_pending o i (pending.Takes k) n m ss above by known =
      follows_opens i n m ss above (machine_by i above m ss (pending.Takes k)) k known.1 (λ zs x f run. run)

  follows_passes : (i : ℕ) (n : NonTerm) (t : TermWord) (ss : List Symbol) (above : List Row) (v : Verdict) → meets t (token_at ts i) ≡ v → Follows (machine.at i (Term t ∷ left ss above)) (passes_by i (row n ss) above v)
  follows_passes i n t ss above Holds e =
      ap (λ z. machine.pass z i (left ss above)) e ∙ ap (λ z. machine.Gives (Passed i) z) (sym (machine_first (i + 1) above ss))
  follows_passes i n t ss above Fails e = ap (λ z. machine.pass z i (left ss above)) e
  follows_passes i n t ss above (Asks k) e = ap (λ z. machine.pass z i (left ss above)) e

  follows_closes : (i : ℕ) (above : List Row) → Follows (machine.at i (left_above above)) (closes_by i above)
  follows_closes i [] = refl
  follows_closes i (upper ∷ above) = sym (machine_first i above upper.rest)

  follows_on : (o : Bool) (i : ℕ) (p : Pending) (n : NonTerm) (above : List Row) (ss : List Symbol) (by : List Item) → KnownOf ts i by p ss → Follows (machine_on i p above ss) (move_on ts i p o n above ss)
  follows_on o i p n above [] by known = follows_closes i above
  follows_on o i p n above (Term t ∷ ss) by known = follows_passes i n t ss above (meets t (token_at ts i)) refl
  follows_on o i p n above (Act x ∷ ss) by known = ap (λ z. machine.Gives (Due x) z) (sym (machine_first i above ss))
  follows_on o i p n above (Non m ∷ ss) by known = follows_pending o i p n m ss above by known

  follows : (c : OpenNodes) (by : List Item) → KnownOf ts c.place by c.pending c.inner.rest → Follows (machine_of c) (move ts c)
  follows c by known = follows_on c.childless c.place c.pending c.inner.node c.above c.inner.rest by known

  follows_by : {g : Gathered} {es : List Item} {xs : List Step} (c : OpenNodes) (now : Move) → Stands ts c g es xs → move ts c ≡ now → Follows (machine_of c) now
  follows_by {g} c now st e = subst (Follows (machine_of c)) e (follows c g.asks st.known)

  -- ---- a run

  nonempty : (fs : List Item) (x : Item) (more : List Item) → (y : Item) × (zs : List Item) × (fs ++ x ∷ more ≡ y ∷ zs)
  nonempty [] x more = (x, more, refl)
  nonempty (y ∷ fs) x more = (y, fs ++ x ∷ more, refl)

  -- the machine goes on from where the open nodes have come to
  goes_on : {c d : OpenNodes} {g h : Gathered} {fs : List Item} {ys : List Step} (es : List Item) (xs : List Step) (x : Item) (more : List Item) (e : Config) → Stands ts c g es xs → Run ts c g fs ys d h → machine.Run ts (machine_of c) (fs ++ x ∷ more) e → machine.Run ts (machine_of d) (x ∷ more) e
  goes_on es xs x more e st stop run = run
  goes_on {c} {g} {fs} es xs x more e st (opens {d = b} {m} now rest) run =
      let n : (y : Item) × (zs : List Item) × (fs ++ x ∷ more ≡ y ∷ zs) = nonempty fs x more in
      let P : List Item → Type 0 = λ z. machine.Run ts (machine_of c) z e in
      let Q : List Item → Type 0 = λ z. machine.Run ts (machine_of b) z e in
      let next : Q (n.0 ∷ n.1) = follows_by c (OpensTo m b) st now n.1 n.0 e (subst P n.2 run) in
      goes_on es (xs ++ Opens m g.asks ∷ []) x more e (leads ts c g es xs (OpensTo m b) now st) rest (subst Q (sym n.2) next)
  goes_on {c} {g} {fs} es xs x more e st (closes {d = b} now rest) run =
      let P : Config → Type 0 = λ z. machine.Run ts z (fs ++ x ∷ more) e in
      goes_on es (xs ++ Closes g.inner.children ∷ []) x more e (leads ts c g es xs (ClosesTo b) now st) rest (subst P (follows_by c (ClosesTo b) st now) run)
  goes_on {c} {g} es xs x more e st (passes {d = b} {i} {es = fs} now rest) run =
      goes_on (es ++ Passed i ∷ []) (xs ++ Passes i ∷ []) x more e (leads ts c g es xs (PassesTo i b) now st) rest
      (run_gives (Passed i) (Passed i) (fs ++ x ∷ more) refl (follows_by c (PassesTo i b) st now) run).1
  goes_on {c} {g} es xs x more e st (acts {d = b} {x = y} {es = fs} now rest) run =
      goes_on (es ++ Due y ∷ []) (xs ++ Acts y ∷ []) x more e (leads ts c g es xs (ActsTo y b) now st) rest
      (run_gives (Due y) (Due y) (fs ++ x ∷ more) refl (follows_by c (ActsTo y b) st now) run).1
  goes_on {c} {g} es xs x more e st (asks {d = b} {i} {es = fs} answer now rest) run =
      let f : Follows (machine_of c) (AsksAt i b) = follows_by c (AsksAt i b) st now in
      let r : (a : Bool) × (Asked i answer ≡ Asked i a) × machine.Run ts (machine.replied (machine_of c) f.0 a) (fs ++ x ∷ more) e =
      run_asks (Asked i answer) (fs ++ x ∷ more) i f.0 refl f.1 run in
      let p : r.0 ≡ answer = cc in
      let P : Bool → Type 0 = λ z. machine.Run ts (machine.replied (machine_of c) f.0 z) (fs ++ x ∷ more) e in
      let Q : Config → Type 0 = λ z. machine.Run ts z (fs ++ x ∷ more) e in
      goes_on (es ++ Asked i answer ∷ []) xs x more e (leads ts c g es xs (AsksAt i b) now st answer) rest (subst Q (f.2 answer) (subst P p r.2))

  fits_by : (m : Config) (now : Move) (x : Item) (more : List Item) (e : Config) → Follows m now → machine.Run ts m (x ∷ more) e → Awaits (x ∷ more) now
  fits_by m (OpensTo n d) x more e f run = tt
  fits_by m (ClosesTo d) x more e f run = tt
  fits_by m (PassesTo i d) x more e f run = (more, ap (λ z. z ∷ more) (run_gives x (Passed i) more refl f run).0)
  fits_by m (ActsTo y d) x more e f run = (more, ap (λ z. z ∷ more) (run_gives x (Due y) more refl f run).0)
  fits_by m (AsksAt i d) x more e f run =
      let r : (a : Bool) × (x ≡ Asked i a) × machine.Run ts (machine.replied m f.0 a) more e = run_asks x more i f.0 refl f.1 run in
      (r.0, more, ap (λ z. z ∷ more) r.1)
  fits_by m Ends x more e f run = absurd (run_ends x more refl f run)
  fits_by m Faults x more e f run = run_faults x more refl f run

pub machine_fits : MachineFits
machine_fits ts es more x xs c g d run other =
    let st : Stands ts c g es xs = stands_run ts [] [] (stands_first ts) run in
    fits_by ts (machine_of c) (move ts c) x more d (follows ts c g.asks st.known) (goes_on ts [] [] x more d (stands_first ts) run other)

pub end_fits : EndFits
end_fits ts es xs c g d run other end =
    let t : (tree : Trees) × Derives ts tree 0 unit d.place × (es ≡ events tree) = (events_are_a_trees ts es d.place).0 (d, other, end, refl) in
    (steps_are_a_trees ts t.0 d.place es [] xs c g t.1 (sym (append-nil es ∙ t.2)) run).1
