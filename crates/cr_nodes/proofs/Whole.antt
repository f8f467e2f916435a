-- A tree is run: the moves make its steps, given its events.
use Rattle.std.proofs.Common.{◌≡◌, ℕ, ◌+◌, Bool, true, false, ◌&&◌, Some, List, [], ◌∷◌, ◌++◌, drop, refl, sym, ◌∙◌, ap, subst, append_assoc, inl, inr}
use Rattle.std.proofs.lemmas.List.{append-nil}
use Rattle.cr_grammar.specs.declared.symbols.NonTerm.{NonTerm}
use Rattle.cr_grammar.specs.declared.symbols.Symbol.{Symbol}
use Rattle.cr_grammar.specs.declared.symbols.Symbol.TheVariants.{Term, Non, Act}
use Rattle.cr_grammar.specs.Grammar.{rule, Row as Alternative}
use Rattle.cr_ll.specs.Guards.{Terminal, ask_at, token_at, verdict, chosen, choice}
use Rattle.cr_ll.specs.declared.guards.Verdict.{Verdict}
use Rattle.cr_ll.specs.declared.guards.Verdict.TheVariants.{Holds, Fails, Asks}
use Rattle.cr_ll.specs.declared.guards.Choice.{Choice}
use Rattle.cr_ll.specs.Derivation.{Item, Asked, Trees, none, token, action, node, events, Chosen, ChosenBy, Derives}
use Rattle.cr_ll.proofs.Complete.{rows_next}
use Rattle.cr_binding.specs.Binding.{is_empty}
use Rattle.cr_binding.specs.Steps.{Step, Opens, Closes, steps}
use Rattle.cr_nodes.specs.declared.pending.Pending.TheVariants as pending
use Rattle.cr_nodes.specs.Moves.{Row, row, OpenNodes, at, PassesTo, ActsTo, opens_by, by_choice, passes_by, body_of}
use Rattle.cr_nodes.specs.Gathering.{Branch, Gathered, gathered, followed_by, opening}
use Rattle.cr_nodes.specs.Laws.{Run, opens, closes, passes, acts, asks}
use Rattle.cr_nodes.proofs.Alternatives.{body_first}

pub followed_on : (f g h : Trees) → followed_by (followed_by f g) h ≡ followed_by f (followed_by g h)
followed_on none g h = refl
followed_on (token i f) g h = ap (λ z. token i z) (followed_on f g h)
followed_on (action x f) g h = ap (λ z. action x z) (followed_on f g h)
followed_on (node m by c f) g h = ap (λ z. node m by c z) (followed_on f g h)

pub followed_none : (f : Trees) → followed_by f none ≡ f
followed_none none = refl
followed_none (token i f) = ap (λ z. token i z) (followed_none f)
followed_none (action x f) = ap (λ z. action x z) (followed_none f)
followed_none (node m by c f) = ap (λ z. node m by c z) (followed_none f)

module _ (ts : List Terminal) (i : ℕ) (o : Bool) (m : NonTerm) (upper : Row) (above : List Row) (in' : Branch) (out : List Branch) where
  -- the node m is next, and so many of its alternatives are refused
  abbrev pub here : ℕ → OpenNodes
  here refused = at i (pending.From refused) o (row upper.node (Non m ∷ upper.rest)) above

  abbrev pub inside : List Symbol → OpenNodes
  inside body = at i (pending.From 0) true (row m body) (upper ∷ above)

  abbrev pub having : List Item → Gathered
  having before = record { asks = before; inner = in'; above = out }

  abbrev pub first : Terminal
  first = token_at ts i

  abbrev pub second : Terminal
  second = token_at ts (i + 1)

  -- a run in the body is one from where the alternatives from k on are tried
  abbrev pub Leads : Choice → List Item → List Item → List Item → List Step → OpenNodes → Gathered → Type 0
  Leads ch before by es xs e h =
      (refused : ℕ) → choice refused (drop refused (rule m)) first second ≡ ch
      → Run ts (here refused) (having before) (by ++ es) (Opens m (before ++ by) ∷ xs) e h

  abbrev pub From : ℕ → List Item → List Item → List Item → List Step → OpenNodes → Gathered → Type 0
  From k before by es xs e h = Run ts (here k) (having before) (by ++ es) (Opens m (before ++ by) ∷ xs) e h

  -- the body is run behind these asks
  abbrev pub Inside : List Symbol → List Item → List Item → List Step → OpenNodes → Gathered → Type 0
  Inside body by es xs e h = Run ts (inside body) (opening m (having by)) es xs e h

  pub chosen_runs_by : (v : Verdict) (r : Alternative) (k : ℕ) (before by es : List Item) (xs : List Step) (body : List Symbol) (e : OpenNodes) (h : Gathered) (later : List Item → Type 0) (other : Choice) → body_of m k ≡ Some r.1 → (later by → Leads other before by es xs e h) → ((before' more : List Item) → later more → Inside body (before' ++ more) es xs e h → From (k + 1) before' more es xs e h) → ChosenBy v r later i by body → Inside body (before ++ by) es xs e h → Leads (chosen v k other) before by es xs e h
  chosen_runs_by Holds r k before by es xs body e h later other b go again c run refused eq =
      let P : List Symbol → Type 0 = λ z. Inside z (before ++ by) es xs e h in
      let Q : List Item → Type 0 = λ z. Inside r.1 z es xs e h in
      let run' : Inside r.1 before es xs e h = subst Q (ap (λ z. before ++ z) c.0 ∙ append-nil before) (subst P c.1 run) in
      let R : List Item → Type 0 = λ z. Run ts (here refused) (having before) (z ++ es) (Opens m (before ++ z) ∷ xs) e h in
      let S : List Item → Type 0 = λ z. Run ts (here refused) (having before) es (Opens m z ∷ xs) e h in
      let all : S before = opens (ap (λ z. by_choice m i o upper above z) eq ∙ ap (λ z. opens_by m i upper above z) b) run' in
      subst R (sym c.0) (subst S (sym (append-nil before)) all)
  chosen_runs_by Fails r k before by es xs body e h later other b go again c run refused eq = go c refused eq
  chosen_runs_by (Asks ahead) r k before by es xs body e h later other b go again c run refused eq =
      let R : List Item → Type 0 = λ z. Run ts (here refused) (having before) (z ++ es) (Opens m (before ++ z) ∷ xs) e h in
      elim c as (λ _. R by) [
        | inl w ↦
            let P : List Symbol → Type 0 = λ z. Inside z (before ++ by) es xs e h in
            let Q : List Item → Type 0 = λ z. Inside r.1 (before ++ z) es xs e h in
            let run' : Q (Asked (ask_at i ahead) true ∷ []) = subst Q w.0 (subst P w.1 run) in
            subst R (sym w.0) (asks true (ap (λ z. by_choice m i o upper above z) eq) (opens (ap (λ z. opens_by m i upper above z) b) run'))
        | inr w ↦
            let asked : List Item = before ++ Asked (ask_at i ahead) false ∷ [] in
            let Q : List Item → Type 0 = λ z. Inside body z es xs e h in
            let eq' : before ++ by ≡ asked ++ w.0 = ap (λ z. before ++ z) w.1 ∙ sym (append_assoc before (Asked (ask_at i ahead) false ∷ []) w.0) in
            let next : From (k + 1) asked w.0 es xs e h = again asked w.0 w.2 (subst Q eq' run) in
            let S : List Item → Type 0 = λ z. Run ts (here (k + 1)) (having asked) (w.0 ++ es) (Opens m z ∷ xs) e h in
            let next' : S (before ++ (Asked (ask_at i ahead) false ∷ w.0)) = subst S (append_assoc before (Asked (ask_at i ahead) false ∷ []) w.0) next in
            subst R (sym w.1) (asks false (ap (λ z. by_choice m i o upper above z) eq) next')
      ]

  pub chosen_runs : (rows : List Alternative) (k : ℕ) (before by es : List Item) (xs : List Step) (body : List Symbol) (e : OpenNodes) (h : Gathered) → drop k (rule m) ≡ rows → Chosen rows first second i by body → Inside body (before ++ by) es xs e h → Leads (choice k rows first second) before by es xs e h
  chosen_runs [] k before by es xs body e h eq c run = absurd c
  chosen_runs (r ∷ rows) k before by es xs body e h eq c run =
      let next : drop (k + 1) (rule m) ≡ rows = rows_next (rule m) k r rows eq in
      chosen_runs_by (verdict r.0 first second) r k before by es xs body e h (λ more. Chosen rows first second i more body) (choice (k + 1) rows first second)
      (body_first (rule m) k r rows eq)
      (λ g. chosen_runs rows (k + 1) before by es xs body e h next g run)
      (λ before' more g run'. chosen_runs rows (k + 1) before' more es xs body e h next g run' (k + 1) (ap (λ z. choice (k + 1) z first second) next))
      c run

-- in the node m, which has these children so far
abbrev pub with_trees : NonTerm → List Item → List Branch → Trees → Gathered
with_trees m by out made = gathered [] m by made out

-- whether a node is childless yet, behind these trees
abbrev pub still : Bool → Trees → Bool
still o f = is_empty f && o

still_false : (f : Trees) → false ≡ still false f
still_false none = refl
still_false (token i f) = refl
still_false (action x f) = refl
still_false (node m by c f) = refl

module _ (ts : List Terminal) where
  pub whole : (o : Bool) (f : Trees) (i : ℕ) (ss : List Symbol) (j : ℕ) (m n : NonTerm) (rest : List Symbol) (above : List Row) (by : List Item) (out : List Branch) (made : Trees) (es : List Item) (xs : List Step) (e : OpenNodes) (h : Gathered) → Derives ts f i ss j → Run ts (at j (pending.From 0) (still o f) (row m rest) above) (with_trees n by out (followed_by made f)) es xs e h → Run ts (at i (pending.From 0) o (row m (ss ++ rest)) above) (with_trees n by out made) (events f ++ es) (steps f ++ xs) e h
  whole o none i [] j m n rest above by out made es xs e h d run =
      let P : ℕ → Type 0 = λ z. Run ts (at z (pending.From 0) o (row m rest) above) (with_trees n by out made) es xs e h in
      let Q : Trees → Type 0 = λ z. Run ts (at j (pending.From 0) o (row m rest) above) (with_trees n by out z) es xs e h in
      subst P (sym d) (subst Q (followed_none made) run)
  whole o none i (s ∷ ss) j m n rest above by out made es xs e h d run = absurd d
  whole o (token k next) i [] j m n rest above by out made es xs e h d run = absurd d
  whole o (token k next) i (Term t ∷ ss) j m n rest above by out made es xs e h d run =
      let P : Trees → Type 0 = λ z. Run ts (at j (pending.From 0) (still false next) (row m rest) above) (with_trees n by out z) es xs e h in
      let B : Bool → Type 0 = λ z. Run ts (at j (pending.From 0) z (row m rest) above) (with_trees n by out (followed_by made (token k next))) es xs e h in
      let run' : P (followed_by (followed_by made (token k none)) next) = subst P (sym (followed_on made (token k none) next)) (subst B (still_false next) run) in
      let later : Run ts (at (i + 1) (pending.From 0) false (row m (ss ++ rest)) above) (with_trees n by out (followed_by made (token k none))) (events next ++ es) (steps next ++ xs) e h =
      whole false next (i + 1) ss j m n rest above by out (followed_by made (token k none)) es xs e h d.2 run' in
      passes (ap (λ z. passes_by i (row m (ss ++ rest)) above z) d.1 ∙ ap (λ z. PassesTo z (at (i + 1) (pending.From 0) false (row m (ss ++ rest)) above)) (sym d.0)) later
  whole o (token k next) i (Non t ∷ ss) j m n rest above by out made es xs e h d run = absurd d
  whole o (token k next) i (Act t ∷ ss) j m n rest above by out made es xs e h d run = absurd d
  whole o (action x next) i [] j m n rest above by out made es xs e h d run = absurd d
  whole o (action x next) i (Act b ∷ ss) j m n rest above by out made es xs e h d run =
      let P : Trees → Type 0 = λ z. Run ts (at j (pending.From 0) (still false next) (row m rest) above) (with_trees n by out z) es xs e h in
      let B : Bool → Type 0 = λ z. Run ts (at j (pending.From 0) z (row m rest) above) (with_trees n by out (followed_by made (action x next))) es xs e h in
      let run' : P (followed_by (followed_by made (action x none)) next) = subst P (sym (followed_on made (action x none) next)) (subst B (still_false next) run) in
      let later : Run ts (at i (pending.From 0) false (row m (ss ++ rest)) above) (with_trees n by out (followed_by made (action x none))) (events next ++ es) (steps next ++ xs) e h =
      whole false next i ss j m n rest above by out (followed_by made (action x none)) es xs e h d.1 run' in
      acts (ap (λ z. ActsTo z (at i (pending.From 0) false (row m (ss ++ rest)) above)) (sym d.0)) later
  whole o (action x next) i (Non b ∷ ss) j m n rest above by out made es xs e h d run = absurd d
  whole o (action x next) i (Term b ∷ ss) j m n rest above by out made es xs e h d run = absurd d
  whole o (node k asked children next) i [] j m n rest above by out made es xs e h d run = absurd d
  whole o (node k asked children next) i (Non l ∷ ss) j m n rest above by out made es xs e h d run =
      let one : Trees = node k asked children none in
      let upper : Row = row m (ss ++ rest) in
      let in' : Branch = record { node = n; asks = by; children = made } in
      let P : Trees → Type 0 = λ z. Run ts (at j (pending.From 0) (still false next) (row m rest) above) (with_trees n by out z) es xs e h in
      let B : Bool → Type 0 = λ z. Run ts (at j (pending.From 0) z (row m rest) above) (with_trees n by out (followed_by made (node k asked children next))) es xs e h in
      let run' : P (followed_by (followed_by made one) next) = subst P (sym (followed_on made one next)) (subst B (still_false next) run) in
      let later : Run ts (at d.2 (pending.From 0) false upper above) (with_trees n by out (followed_by made one)) (events next ++ es) (steps next ++ xs) e h =
      whole false next d.2 ss j m n rest above by out (followed_by made one) es xs e h d.5 run' in
      let Q : NonTerm → Type 0 = λ z. Run ts (at i (pending.From 0) true (row z d.1) (upper ∷ above)) (with_trees z asked (in' ∷ out) none) (events children ++ (events next ++ es)) (steps children ++ (Closes children ∷ (steps next ++ xs))) e h in
      let R : List Symbol → Type 0 = λ z. Run ts (at i (pending.From 0) true (row k z) (upper ∷ above)) (with_trees k asked (in' ∷ out) none) (events children ++ (events next ++ es)) (steps children ++ (Closes children ∷ (steps next ++ xs))) e h in
      let kids : R (d.1 ++ []) = whole true children i d.1 d.2 k k [] (upper ∷ above) asked (in' ∷ out) none (events next ++ es) (Closes children ∷ (steps next ++ xs)) e h d.4 (closes refl later) in
      let inside' : Q l = subst Q d.0 (subst R (append-nil d.1) kids) in
      let S : NonTerm → Type 0 = λ z. Run ts (at i (pending.From 0) o (row m (Non l ∷ (ss ++ rest))) above) (with_trees n by out made) (asked ++ (events children ++ (events next ++ es))) (Opens z asked ∷ (steps children ++ (Closes children ∷ (steps next ++ xs)))) e h in
      let all : S l = chosen_runs ts i o l upper above in' out (rule l) 0 [] asked (events children ++ (events next ++ es)) (steps children ++ (Closes children ∷ (steps next ++ xs))) d.1 e h refl d.3 inside' 0 refl in
      let T : List Item → Type 0 = λ z. Run ts (at i (pending.From 0) o (row m (Non l ∷ (ss ++ rest))) above) (with_trees n by out made) z (Opens k asked ∷ (steps children ++ (Closes children ∷ (steps next ++ xs)))) e h in
      let U : List Step → Type 0 = λ z. Run ts (at i (pending.From 0) o (row m (Non l ∷ (ss ++ rest))) above) (with_trees n by out made) ((asked ++ (events children ++ events next)) ++ es) (Opens k asked ∷ z) e h in
      subst U (sym (append_assoc (steps children) (Closes children ∷ steps next) xs))
      (subst T (ap (λ z. asked ++ z) (sym (append_assoc (events children) (events next) es)) ∙ sym (append_assoc asked (events children ++ events next) es))
      (subst S (sym d.0) all))
  whole o (node k asked children next) i (Term b ∷ ss) j m n rest above by out made es xs e h d run = absurd d
  whole o (node k asked children next) i (Act b ∷ ss) j m n rest above by out made es xs e h d run = absurd d
