-- Where a run has come to, there stand the nodes of trees that are cut off there.
use Rattle.std.proofs.Common.{◌≡◌, ℕ, zero, suc, ◌+◌, ◌<◌, length, arith, Bool, true, false, Option, Some, None, List, [], ◌∷◌, ◌++◌, drop, refl, sym, ◌∙◌, ap, subst, append_assoc, inl, inr}
use Rattle.std.specs.Prelude.{slice_get, option_map, flat_map}
use Rattle.std.proofs.lemmas.List.{append-nil}
use Rattle.cr_grammar.specs.declared.symbols.NonTerm.{NonTerm}
use Rattle.cr_grammar.specs.declared.symbols.Symbol.{Symbol}
use Rattle.cr_grammar.specs.declared.symbols.Term.{Term as TermWord}
use Rattle.cr_grammar.specs.declared.symbols.Symbol.TheVariants.{Term, Non, Act}
use Rattle.cr_grammar.specs.Grammar.{rule, Row as Alternative}
use Rattle.cr_ll.specs.declared.guards.Verdict.{Verdict}
use Rattle.cr_ll.specs.declared.guards.Verdict.TheVariants.{Holds, Fails, Asks}
use Rattle.cr_ll.specs.declared.guards.Choice.{Choice}
use Rattle.cr_ll.specs.declared.guards.Choice.TheVariants.{Nothing, Takes, Waits}
use Rattle.cr_ll.specs.Guards.{Terminal, ask_at, token_at, meets, choice, IsWithin}
use Rattle.cr_ll.specs.Machine.{body_at}
use Rattle.cr_ll.specs.Derivation.{Item, Passed, Due, Asked, Trees, none, token, action, node, Chosen, Derives}
use Rattle.cr_ll.specs.Laws.{unit}
use Rattle.cr_ll.proofs.Asking.{choice_within, drop_within}
use Rattle.cr_ll.proofs.Sound.{tells, Tells}
use Rattle.cr_binding.specs.Binding.{is_empty}
use Rattle.cr_binding.specs.WellFormed.{Begins}
use Rattle.cr_binding.specs.Steps.{Step, Opens, Passes, Acts, Closes, steps, given, StepsAreEvents}
use Rattle.cr_nodes.specs.declared.pending.Pending.{Pending}
use Rattle.cr_nodes.specs.declared.pending.Pending.TheVariants as pending
use Rattle.cr_nodes.specs.Moves.{Row, row, OpenNodes, at, at_start, Move, OpensTo, ClosesTo, PassesTo, ActsTo, AsksAt, Ends, Faults, body_of, opens_by, by_choice, by_pending, passes_by, closes_by, move_on, move, answered, replied}
use Rattle.cr_nodes.specs.Gathering.{Branch, Gathered, followed_by, at_first, with_child, asking, passing, acting, opening, closing}
use Rattle.cr_nodes.specs.Laws.{Run, stop, opens, closes, passes, acts, asks, RunsDerive, RunsBegin, ChildrenAreTold, AllClose}

-- ---- rows of trees one behind another

pub steps_followed : (f g : Trees) → steps (followed_by f g) ≡ steps f ++ steps g
steps_followed none g = refl
steps_followed (token i f) g = ap (λ z. Passes i ∷ z) (steps_followed f g)
steps_followed (action x f) g = ap (λ z. Acts x ∷ z) (steps_followed f g)
steps_followed (node m by c f) g =
    ap (λ z. Opens m by ∷ (steps c ++ Closes c ∷ z)) (steps_followed f g)
    ∙ ap (λ z. Opens m by ∷ z) (sym (append_assoc (steps c) (Closes c ∷ steps f) (steps g)))

not_empty : (f one : Trees) → is_empty one ≡ false → false ≡ is_empty (followed_by f one)
not_empty none one e = sym e
not_empty (token i f) one e = refl
not_empty (action x f) one e = refl
not_empty (node m by c f) one e = refl

-- what is given of one step more
given_last : (xs : List Step) (x : Step) → flat_map given (xs ++ x ∷ []) ≡ flat_map given xs ++ given x
given_last [] x = append-nil (given x)
given_last (y ∷ xs) x = ap (λ z. given y ++ z) (given_last xs x) ∙ sym (append_assoc (given y) (flat_map given xs) (given x))

-- the symbols of an alternative that there is
pub body_there : (rows : List Alternative) (k : ℕ) → k < length rows → option_map (λ (r : Alternative). r.1) (slice_get rows k) ≡ Some (body_at rows k)
body_there [] k h = absurd (omega arith)
body_there (r ∷ rows) zero h = refl
body_there (r ∷ rows) (suc k) h = let g : k < length rows = omega arith in body_there rows k g

body_same : (rows : List Alternative) (k : ℕ) (body : List Symbol) → option_map (λ (r : Alternative). r.1) (slice_get rows k) ≡ Some body → body_at rows k ≡ body
body_same [] k body e = cc
body_same (r ∷ rows) zero body e = cc
body_same (r ∷ rows) (suc k) body e = body_same rows k body e

module _ (ts : List Terminal) where
  pub derives_followed : (f g : Trees) (i : ℕ) (a b : List Symbol) (k j : ℕ) → Derives ts f i a k → Derives ts g k b j → Derives ts (followed_by f g) i (a ++ b) j
  derives_followed none g i [] b k j d e = subst (λ z. Derives ts g z b j) (sym d) e
  derives_followed none g i (s ∷ a) b k j d e = absurd d
  derives_followed (token l f) g i [] b k j d e = absurd d
  derives_followed (token l f) g i (Term t ∷ a) b k j d e = (d.0, d.1, derives_followed f g (i + 1) a b k j d.2 e)
  derives_followed (token l f) g i (Non t ∷ a) b k j d e = absurd d
  derives_followed (token l f) g i (Act t ∷ a) b k j d e = absurd d
  derives_followed (action x f) g i [] b k j d e = absurd d
  derives_followed (action x f) g i (Act t ∷ a) b k j d e = (d.0, derives_followed f g i a b k j d.1 e)
  derives_followed (action x f) g i (Non t ∷ a) b k j d e = absurd d
  derives_followed (action x f) g i (Term t ∷ a) b k j d e = absurd d
  derives_followed (node m by c f) g i [] b k j d e = absurd d
  derives_followed (node m by c f) g i (Non t ∷ a) b k j d e = (d.0, d.1, d.2, d.3, d.4, derives_followed f g d.2 a b k j d.5 e)
  derives_followed (node m by c f) g i (Term t ∷ a) b k j d e = absurd d
  derives_followed (node m by c f) g i (Act t ∷ a) b k j d e = absurd d

  pub begins_followed : (f g : Trees) (i : ℕ) (a b : List Symbol) (k : ℕ) → Derives ts f i a k → Begins ts g k b → Begins ts (followed_by f g) i (a ++ b)
  begins_followed none g i [] b k d e = subst (λ z. Begins ts g z b) (sym d) e
  begins_followed none g i (s ∷ a) b k d e = absurd d
  begins_followed (token l f) g i [] b k d e = absurd d
  begins_followed (token l f) g i (Term t ∷ a) b k d e = (d.0, d.1, begins_followed f g (i + 1) a b k d.2 e)
  begins_followed (token l f) g i (Non t ∷ a) b k d e = absurd d
  begins_followed (token l f) g i (Act t ∷ a) b k d e = absurd d
  begins_followed (action x f) g i [] b k d e = absurd d
  begins_followed (action x f) g i (Act t ∷ a) b k d e = (d.0, begins_followed f g i a b k d.1 e)
  begins_followed (action x f) g i (Non t ∷ a) b k d e = absurd d
  begins_followed (action x f) g i (Term t ∷ a) b k d e = absurd d
  begins_followed (node m by c f) g i [] b k d e = absurd d
  begins_followed (node m by c f) g i (Non t ∷ a) b k d e = (d.0, d.1, d.3, inl (d.2, d.4, begins_followed f g d.2 a b k d.5 e))
  begins_followed (node m by c f) g i (Term t ∷ a) b k d e = absurd d
  begins_followed (node m by c f) g i (Act t ∷ a) b k d e = absurd d

  -- ---- where a run has come to

  -- these children of a node span the tokens from k up to i, and this is left of its alternative
  pub record InRow (k : ℕ) (body rest : List Symbol) (children : Trees) (i : ℕ) : Type 0 where
    pub done : List Symbol
    pub parts : body ≡ done ++ rest
    pub derives : Derives ts children k done i

  -- the open nodes stand one in the other, and these steps were made
  abbrev pub Stack : ℕ → Row → Branch → List Step → List Row → List Branch → Type 0
  Stack i inner b xs [] [] = InRow 0 unit inner.rest b.children i × (xs ≡ steps b.children) × (inner.node ≡ b.node)
  Stack i inner b xs (upper ∷ above) (v ∷ vs) =
      (k : ℕ) × (body : List Symbol) × (before : List Step)
      × Chosen (rule b.node) (token_at ts k) (token_at ts (k + 1)) k b.asks body
      × InRow k body inner.rest b.children i
      × Stack k (row upper.node (Non b.node ∷ upper.rest)) v before above vs
      × (xs ≡ before ++ Opens b.node b.asks ∷ steps b.children)
      × (inner.node ≡ b.node)
  Stack i inner b xs _ _ = ⊥

  longer : (k : ℕ) (body : List Symbol) (i j : ℕ) (s : Symbol) (ss : List Symbol) (b : Branch) (one : Trees) → Derives ts one i (s ∷ []) j → InRow k body (s ∷ ss) b.children i → InRow k body ss (followed_by b.children one) j
  longer k body i j s ss b one d r =
      record {
        done = r.done ++ s ∷ [];
        parts = r.parts ∙ sym (append_assoc r.done (s ∷ []) ss);
        derives = derives_followed b.children one k r.done (s ∷ []) i j r.derives d;
      }

  -- a child more
  extends : (i j : ℕ) (m : NonTerm) (s : Symbol) (ss : List Symbol) (b : Branch) (xs : List Step) (above : List Row) (vs : List Branch) (one : Trees) → Derives ts one i (s ∷ []) j → Stack i (row m (s ∷ ss)) b xs above vs → Stack j (row m ss) (with_child one b) (xs ++ steps one) above vs
  extends i j m s ss b xs [] [] one d st = (
    longer 0 unit i j s ss b one d st.0,
    ap (λ z. z ++ steps one) st.1 ∙ sym (steps_followed b.children one),
    st.2,
  )
  extends i j m s ss b xs [] (v ∷ vs) one d st = absurd st
  extends i j m s ss b xs (upper ∷ above) [] one d st = absurd st
  extends i j m s ss b xs (upper ∷ above) (v ∷ vs) one d st = (
    st.0,
    st.1,
    st.2,
    st.3,
    longer st.0 st.1 i j s ss b one d st.4,
    st.5,
    ap (λ z. z ++ steps one) st.6
        ∙ append_assoc st.2 (Opens b.node b.asks ∷ steps b.children) (steps one)
        ∙ ap (λ z. st.2 ++ Opens b.node b.asks ∷ z) (sym (steps_followed b.children one)),
    st.7,
  )

  -- ---- what is known of the next node, by the asks since the last step

  abbrev pub first : ℕ → Terminal
  first i = token_at ts i

  abbrev pub second : ℕ → Terminal
  second i = token_at ts (i + 1)

  abbrev pub Known : ℕ → NonTerm → List Item → Pending → Type 0
  Known i m by (pending.From r) =
      (more : List Item) (body : List Symbol) → Chosen (drop r (rule m)) (first i) (second i) i more body
      → Chosen (rule m) (first i) (second i) i (by ++ more) body
  Known i m by (pending.Waits k) = ⊥
  Known i m by (pending.Takes k) = Chosen (rule m) (first i) (second i) i by (body_at (rule m) k) × (body_of m k ≡ Some (body_at (rule m) k))

  abbrev pub KnownOf : ℕ → List Item → Pending → List Symbol → Type 0
  KnownOf i by p (Non m ∷ ss) = Known i m by p
  KnownOf i by p _ = by ≡ []

  known_first : (i : ℕ) (ss : List Symbol) → KnownOf i [] (pending.From 0) ss
  known_first i [] = refl
  known_first i (Term t ∷ ss) = refl
  known_first i (Act x ∷ ss) = refl
  known_first i (Non m ∷ ss) = λ more body c. c

  pub record Stands (c : OpenNodes) (g : Gathered) (es : List Item) (xs : List Step) : Type 0 where
    pub stack : Stack c.place c.inner g.inner xs c.above g.above
    pub known : KnownOf c.place g.asks c.pending c.inner.rest
    pub given_are : es ≡ flat_map given xs ++ g.asks
    pub childless_is : c.childless ≡ is_empty g.inner.children

  -- ---- a move more

  given_more : (xs : List Step) (x : Step) (es by : List Item) → es ≡ flat_map given xs ++ by → by ≡ given x → es ≡ flat_map given (xs ++ x ∷ []) ++ []
  given_more xs x es by e f =
      e ∙ ap (λ z. flat_map given xs ++ z) f ∙ sym (given_last xs x) ∙ sym (append-nil (flat_map given (xs ++ x ∷ [])))

  given_next : (xs : List Step) (x : Step) (es : List Item) (e : Item) → given x ≡ e ∷ [] → es ≡ flat_map given xs ++ [] → es ++ e ∷ [] ≡ flat_map given (xs ++ x ∷ []) ++ []
  given_next xs x es e f h =
      ap (λ z. z ++ e ∷ []) (h ∙ append-nil (flat_map given xs)) ∙ ap (λ z. flat_map given xs ++ z) (sym f) ∙ sym (given_last xs x) ∙ sym (append-nil (flat_map given (xs ++ x ∷ [])))

  -- what stands after the move
  abbrev pub Leads : Gathered → List Item → List Step → Move → Type 0
  Leads g es xs (OpensTo m d) = Stands d (opening m g) es (xs ++ Opens m g.asks ∷ [])
  Leads g es xs (ClosesTo d) = Stands d (closing g) es (xs ++ Closes g.inner.children ∷ [])
  Leads g es xs (PassesTo i d) = Stands d (passing i g) (es ++ Passed i ∷ []) (xs ++ Passes i ∷ [])
  Leads g es xs (ActsTo x d) = Stands d (acting x g) (es ++ Due x ∷ []) (xs ++ Acts x ∷ [])
  Leads g es xs (AsksAt i d) = (answer : Bool) → Stands (replied answer d) (asking i answer g) (es ++ Asked i answer ∷ []) xs
  Leads g es xs Ends = Unit {0}
  Leads g es xs Faults = Unit {0}

  leads_opens : (o : Bool) (i : ℕ) (p : Pending) (n m : NonTerm) (ss : List Symbol) (above : List Row) (g : Gathered) (es : List Item) (xs : List Step) (k : ℕ) (body : Option (List Symbol)) → body_of m k ≡ body → Chosen (rule m) (first i) (second i) i g.asks (body_at (rule m) k) → Stands (at i p o (row n (Non m ∷ ss)) above) g es xs → Leads g es xs (opens_by m i (row n ss) above body)
  leads_opens o i p n m ss above g es xs k None e c st = tt
  leads_opens o i p n m ss above g es xs k (Some body) e c st =
      let P : List Symbol → Type 0 = λ z. Chosen (rule m) (first i) (second i) i g.asks z in
      record {
        stack = (i, body, xs, subst P (body_same (rule m) k body e) c, record { done = []; parts = refl; derives = refl }, st.stack, refl, refl);
        known = known_first i body;
        given_are = given_more xs (Opens m g.asks) es g.asks st.given_are refl;
        childless_is = refl;
      }

  leads_asks : (o : Bool) (i r k ahead : ℕ) (n m : NonTerm) (ss : List Symbol) (above : List Row) (g : Gathered) (es : List Item) (xs : List Step) → Tells (drop r (rule m)) r (first i) (second i) i m (Waits k ahead) → k < length (rule m) → Stands (at i (pending.From r) o (row n (Non m ∷ ss)) above) g es xs → (answer : Bool) → Stands (at i (answered answer (pending.Waits k)) o (row n (Non m ∷ ss)) above) (asking (ask_at i ahead) answer g) (es ++ Asked (ask_at i ahead) answer ∷ []) xs
  leads_asks o i r k ahead n m ss above g es xs t w st true =
      record {
        stack = st.stack;
        known = (st.known (Asked (ask_at i ahead) true ∷ []) (body_at (rule m) k) t.0, body_there (rule m) k w);
        given_are = ap (λ z. z ++ Asked (ask_at i ahead) true ∷ []) st.given_are ∙ append_assoc (flat_map given xs) g.asks (Asked (ask_at i ahead) true ∷ []);
        childless_is = st.childless_is;
      }
  leads_asks o i r k ahead n m ss above g es xs t w st false =
      record {
        stack = st.stack;
        known = λ more body c.
            let P : List Item → Type 0 = λ z. Chosen (rule m) (first i) (second i) i z body in
            subst P (sym (append_assoc g.asks (Asked (ask_at i ahead) false ∷ []) more)) (st.known (Asked (ask_at i ahead) false ∷ more) body (t.1 more body c));
        given_are = ap (λ z. z ++ Asked (ask_at i ahead) false ∷ []) st.given_are ∙ append_assoc (flat_map given xs) g.asks (Asked (ask_at i ahead) false ∷ []);
        childless_is = st.childless_is;
      }

  pub within_rule : (i : ℕ) (m : NonTerm) (r : ℕ) → IsWithin (choice r (drop r (rule m)) (first i) (second i)) (length (rule m))
  within_rule i m r = choice_within (drop r (rule m)) r (first i) (second i) (length (rule m)) (drop_within (rule m) r)

  leads_choice : (o : Bool) (i r : ℕ) (n m : NonTerm) (ss : List Symbol) (above : List Row) (g : Gathered) (es : List Item) (xs : List Step) (ch : Choice) → Tells (drop r (rule m)) r (first i) (second i) i m ch → IsWithin ch (length (rule m)) → Stands (at i (pending.From r) o (row n (Non m ∷ ss)) above) g es xs → Leads g es xs (by_choice m i o (row n ss) above ch)
  leads_choice o i r n m ss above g es xs Nothing t w st = tt
  leads_choice o i r n m ss above g es xs (Takes k) t w st =
      let P : List Item → Type 0 = λ z. Chosen (rule m) (first i) (second i) i z (body_at (rule m) k) in
      leads_opens o i (pending.From r) n m ss above g es xs k (body_of m k) refl (subst P (append-nil g.asks) (st.known [] (body_at (rule m) k) t)) st
  leads_choice o i r n m ss above g es xs (Waits k ahead) t w st = leads_asks o i r k ahead n m ss above g es xs t w st

  leads_pending : (o : Bool) (i : ℕ) (p : Pending) (n m : NonTerm) (ss : List Symbol) (above : List Row) (g : Gathered) (es : List Item) (xs : List Step) → Stands (at i p o (row n (Non m ∷ ss)) above) g es xs → Leads g es xs (by_pending ts m i o (row n ss) above p)
  leads_pending o i (pending.From r) n m ss above g es xs st =
      leads_choice o i r n m ss above g es xs (choice r (drop r (rule m)) (first i) (second i)) (tells (drop r (rule m)) r (first i) (second i) i m refl) (within_rule i m r) st
  leads_pending o i (pending.Waits k) n m ss above g es xs st = tt
  leads_pending o i (pending.Takes k) n m ss above g es xs st = leads_opens o i (pending.Takes k) n m ss above g es xs k (body_of m k) refl st.known.0 st

  leads_passes : (o : Bool) (i : ℕ) (p : Pending) (n : NonTerm) (t : TermWord) (ss : List Symbol) (above : List Row) (g : Gathered) (es : List Item) (xs : List Step) (v : Verdict) → meets t (token_at ts i) ≡ v → Stands (at i p o (row n (Term t ∷ ss)) above) g es xs → Leads g es xs (passes_by i (row n ss) above v)
  leads_passes o i p n t ss above g es xs Holds e st =
      record {
        stack = extends i (i + 1) n (Term t) ss g.inner xs above g.above (token i none) (refl, e, refl) st.stack;
        known = known_first (i + 1) ss;
        given_are = given_next xs (Passes i) es (Passed i) refl (st.given_are ∙ ap (λ z. flat_map given xs ++ z) st.known);
        childless_is = not_empty g.inner.children (token i none) refl;
      }
  leads_passes o i p n t ss above g es xs Fails e st = tt
  leads_passes o i p n t ss above g es xs (Asks k) e st = tt

  leads_closes : (o : Bool) (i : ℕ) (p : Pending) (n : NonTerm) (above : List Row) (by : List Item) (b : Branch) (vs : List Branch) (es : List Item) (xs : List Step) → Stands (at i p o (row n []) above) (record { asks = by; inner = b; above = vs }) es xs → Leads (record { asks = by; inner = b; above = vs }) es xs (closes_by i above)
  leads_closes o i p n [] by b vs es xs st = tt
  leads_closes o i p n (upper ∷ above) by b [] es xs st = absurd st.stack
  leads_closes o i p n (upper ∷ above) by b (v ∷ vs) es xs st =
      let k : ℕ = st.stack.0 in
      let body : List Symbol = st.stack.1 in
      let before : List Step = st.stack.2 in
      let inside : InRow k body [] b.children i = st.stack.4 in
      let P : List Symbol → Type 0 = λ z. Derives ts b.children k z i in
      let kids : P body = subst P (sym (inside.parts ∙ append-nil inside.done)) inside.derives in
      let one : Trees = node b.node b.asks b.children none in
      let all : Stack i (row upper.node upper.rest) (with_child one v) (before ++ steps one) above vs =
      extends k i upper.node (Non b.node) upper.rest v before above vs one (refl, body, i, st.stack.3, kids, refl) st.stack.5 in
      let Q : List Step → Type 0 = λ z. Stack i (row upper.node upper.rest) (with_child one v) z above vs in
      let eq : xs ++ Closes b.children ∷ [] ≡ before ++ steps one =
      ap (λ z. z ++ Closes b.children ∷ []) st.stack.6 ∙ append_assoc before (Opens b.node b.asks ∷ steps b.children) (Closes b.children ∷ []) in
      record {
        stack = subst Q (sym eq) all;
        known = known_first i upper.rest;
        given_are = given_more xs (Closes b.children) es by st.given_are st.known;
        childless_is = not_empty v.children one refl;
      }

  leads_on : (o : Bool) (i : ℕ) (p : Pending) (n : NonTerm) (above : List Row) (ss : List Symbol) (g : Gathered) (es : List Item) (xs : List Step) → Stands (at i p o (row n ss) above) g es xs → Leads g es xs (move_on ts i p o n above ss)
  leads_on o i p n above [] g es xs st = leads_closes o i p n above g.asks g.inner g.above es xs st
  leads_on o i p n above (Term t ∷ ss) g es xs st = leads_passes o i p n t ss above g es xs (meets t (token_at ts i)) refl st
  leads_on o i p n above (Act x ∷ ss) g es xs st =
      record {
        stack = extends i i n (Act x) ss g.inner xs above g.above (action x none) (refl, refl) st.stack;
        known = known_first i ss;
        given_are = given_next xs (Acts x) es (Due x) refl (st.given_are ∙ ap (λ z. flat_map given xs ++ z) st.known);
        childless_is = not_empty g.inner.children (action x none) refl;
      }
  leads_on o i p n above (Non m ∷ ss) g es xs st = leads_pending o i p n m ss above g es xs st

  pub leads : (c : OpenNodes) (g : Gathered) (es : List Item) (xs : List Step) (now : Move) → move ts c ≡ now → Stands c g es xs → Leads g es xs now
  leads c g es xs now e st = subst (Leads g es xs) e (leads_on c.childless c.place c.pending c.inner.node c.above c.inner.rest g es xs st)

  pub stands_run : {c d : OpenNodes} {g h : Gathered} {fs : List Item} {ys : List Step} (es : List Item) (xs : List Step) → Stands c g es xs → Run ts c g fs ys d h → Stands d h (es ++ fs) (xs ++ ys)
  stands_run {c} {g} es xs st stop = subst (λ z. Stands c g z (xs ++ [])) (sym (append-nil es)) (subst (λ z. Stands c g es z) (sym (append-nil xs)) st)
  stands_run {c} {d} {g} {h} {fs} es xs st (opens {d = b} {m} {xs = ys} now run) =
      subst (λ z. Stands d h (es ++ fs) z) (append_assoc xs (Opens m g.asks ∷ []) ys) (stands_run es (xs ++ Opens m g.asks ∷ []) (leads c g es xs (OpensTo m b) now st) run)
  stands_run {c} {d} {g} {h} {fs} es xs st (closes {d = b} {xs = ys} now run) =
      subst (λ z. Stands d h (es ++ fs) z) (append_assoc xs (Closes g.inner.children ∷ []) ys) (stands_run es (xs ++ Closes g.inner.children ∷ []) (leads c g es xs (ClosesTo b) now st) run)
  stands_run {c} {d} {g} {h} es xs st (passes {d = b} {i} {es = fs} {xs = ys} now run) =
      subst (λ z. Stands d h z (xs ++ Passes i ∷ ys)) (append_assoc es (Passed i ∷ []) fs)
      (subst (λ z. Stands d h ((es ++ Passed i ∷ []) ++ fs) z) (append_assoc xs (Passes i ∷ []) ys)
      (stands_run (es ++ Passed i ∷ []) (xs ++ Passes i ∷ []) (leads c g es xs (PassesTo i b) now st) run))
  stands_run {c} {d} {g} {h} es xs st (acts {d = b} {x} {es = fs} {xs = ys} now run) =
      subst (λ z. Stands d h z (xs ++ Acts x ∷ ys)) (append_assoc es (Due x ∷ []) fs)
      (subst (λ z. Stands d h ((es ++ Due x ∷ []) ++ fs) z) (append_assoc xs (Acts x ∷ []) ys)
      (stands_run (es ++ Due x ∷ []) (xs ++ Acts x ∷ []) (leads c g es xs (ActsTo x b) now st) run))
  stands_run {c} {d} {g} {h} {ys} es xs st (asks {d = b} {i} {es = fs} answer now run) =
      subst (λ z. Stands d h z (xs ++ ys)) (append_assoc es (Asked i answer ∷ []) fs)
      (stands_run (es ++ Asked i answer ∷ []) xs (leads c g es xs (AsksAt i b) now st answer) run)

  -- ---- at the end, and where a run is cut off

  pub stands_first : Stands at_start at_first [] []
  stands_first = record { stack = (record { done = []; parts = refl; derives = refl }, refl, refl); known = known_first 0 unit; given_are = refl; childless_is = refl }

  ends_passes : (i : ℕ) (inner : Row) (above : List Row) (v : Verdict) → passes_by i inner above v ≡ Ends → ⊥
  ends_passes i inner above Holds e = cc
  ends_passes i inner above Fails e = cc
  ends_passes i inner above (Asks k) e = cc

  ends_opens : (m : NonTerm) (i : ℕ) (upper : Row) (above : List Row) (body : Option (List Symbol)) → opens_by m i upper above body ≡ Ends → ⊥
  ends_opens m i upper above None e = cc
  ends_opens m i upper above (Some body) e = cc

  ends_choice : (o : Bool) (m : NonTerm) (i : ℕ) (upper : Row) (above : List Row) (ch : Choice) → by_choice m i o upper above ch ≡ Ends → ⊥
  ends_choice o m i upper above Nothing e = cc
  ends_choice o m i upper above (Takes k) e = ends_opens m i upper above (body_of m k) e
  ends_choice o m i upper above (Waits k ahead) e = cc

  ends_pending : (o : Bool) (m : NonTerm) (i : ℕ) (upper : Row) (above : List Row) (p : Pending) → by_pending ts m i o upper above p ≡ Ends → ⊥
  ends_pending o m i upper above (pending.From k) e = ends_choice o m i upper above (choice k (drop k (rule m)) (first i) (second i)) e
  ends_pending o m i upper above (pending.Waits k) e = cc
  ends_pending o m i upper above (pending.Takes k) e = ends_opens m i upper above (body_of m k) e

  ends_on : (o : Bool) (i : ℕ) (p : Pending) (n : NonTerm) (above : List Row) (ss : List Symbol) → move_on ts i p o n above ss ≡ Ends → (ss ≡ []) × (above ≡ [])
  ends_on o i p n [] [] e = (refl, refl)
  ends_on o i p n (upper ∷ above) [] e = cc
  ends_on o i p n above (Term t ∷ ss) e = absurd (ends_passes i (row n ss) above (meets t (token_at ts i)) e)
  ends_on o i p n above (Act x ∷ ss) e = cc
  ends_on o i p n above (Non m ∷ ss) e = absurd (ends_pending o m i (row n ss) above p e)

  pub record Whole (i : ℕ) (by : List Item) (tree : Trees) (es : List Item) (xs : List Step) : Type 0 where
    pub derives : Derives ts tree 0 unit i
    pub steps_are : xs ≡ steps tree
    pub given_are : es ≡ flat_map given xs

  whole_at : (o : Bool) (i : ℕ) (p : Pending) (n : NonTerm) (above : List Row) (ss : List Symbol) (by : List Item) (b : Branch) (vs : List Branch) (es : List Item) (xs : List Step) → ss ≡ [] → above ≡ [] → Stands (at i p o (row n ss) above) (record { asks = by; inner = b; above = vs }) es xs → Whole i by b.children es xs
  whole_at o i p n above (s ∷ ss) by b vs es xs e f st = cc
  whole_at o i p n (upper ∷ above) [] by b vs es xs e f st = cc
  whole_at o i p n [] [] by b (v ∷ vs) es xs e f st = absurd st.stack
  whole_at o i p n [] [] by b [] es xs e f st =
      let inside : InRow 0 unit [] b.children i = st.stack.0 in
      let P : List Symbol → Type 0 = λ z. Derives ts b.children 0 z i in
      record {
        derives = subst P (sym (inside.parts ∙ append-nil inside.done)) inside.derives;
        steps_are = st.stack.1;
        given_are = st.given_are ∙ ap (λ z. flat_map given xs ++ z) st.known ∙ append-nil (flat_map given xs);
      }

  -- trees that begin with these steps
  pub record Cut (xs : List Step) : Type 0 where
    pub trees : Trees
    pub more : List Step
    pub begins : Begins ts trees 0 unit
    pub steps_are : steps trees ≡ xs ++ more
    pub close : AllClose more

  begins_in : (k : ℕ) (body rest : List Symbol) (f tail : Trees) (i : ℕ) → InRow k body rest f i → Begins ts tail i rest → Begins ts (followed_by f tail) k body
  begins_in k body rest f tail i r b =
      subst (λ z. Begins ts (followed_by f tail) k z) (sym r.parts) (begins_followed f tail k r.done rest i r.derives b)

  cut : (i : ℕ) (inner : Row) (b : Branch) (xs : List Step) (above : List Row) (vs : List Branch) (tail : Trees) → Stack i inner b xs above vs → Begins ts tail i inner.rest → Cut (xs ++ steps tail)
  cut i inner b xs [] [] tail st begin =
      record {
        trees = followed_by b.children tail;
        more = [];
        begins = begins_in 0 unit inner.rest b.children tail i st.0 begin;
        steps_are = steps_followed b.children tail ∙ ap (λ z. z ++ steps tail) (sym st.1) ∙ sym (append-nil (xs ++ steps tail));
        close = tt;
      }
  cut i inner b xs [] (v ∷ vs) tail st begin = absurd st
  cut i inner b xs (upper ∷ above) [] tail st begin = absurd st
  cut i inner b xs (upper ∷ above) (v ∷ vs) tail st begin =
      let kids : Trees = followed_by b.children tail in
      let one : Trees = node b.node b.asks kids none in
      let all : Cut (st.2 ++ steps one) =
      cut st.0 (row upper.node (Non b.node ∷ upper.rest)) v st.2 above vs one st.5
      (refl, st.1, st.3, inr (begins_in st.0 st.1 inner.rest b.children tail i st.4 begin, refl)) in
      let opened : List Step = Opens b.node b.asks ∷ steps b.children in
      record {
        trees = all.trees;
        more = Closes kids ∷ all.more;
        begins = all.begins;
        steps_are =
            all.steps_are
            ∙ append_assoc st.2 (steps one) all.more
            ∙ ap (λ z. st.2 ++ (Opens b.node b.asks ∷ z)) (append_assoc (steps kids) (Closes kids ∷ []) all.more)
            ∙ ap (λ z. st.2 ++ (Opens b.node b.asks ∷ (z ++ (Closes kids ∷ all.more)))) (steps_followed b.children tail)
            ∙ sym (append_assoc st.2 (opened ++ steps tail) (Closes kids ∷ all.more))
            ∙ ap (λ z. z ++ (Closes kids ∷ all.more)) (sym (append_assoc st.2 opened (steps tail)))
            ∙ ap (λ z. (z ++ steps tail) ++ (Closes kids ∷ all.more)) (sym st.6);
        close = all.close;
      }

pub runs_derive : StepsAreEvents → RunsDerive
runs_derive law ts es xs c g run end =
    let st : Stands ts c g es xs = stands_run ts [] [] (stands_first ts) run in
    let e : (c.inner.rest ≡ []) × (c.above ≡ []) = ends_on ts c.childless c.place c.pending c.inner.node c.above c.inner.rest end in
    let w : Whole ts c.place g.asks g.inner.children es xs = whole_at ts c.childless c.place c.pending c.inner.node c.above c.inner.rest g.asks g.inner g.above es xs e.0 e.1 st in
    (w.derives, w.given_are ∙ ap (λ z. flat_map given z) w.steps_are ∙ law g.inner.children, w.steps_are)

pub runs_begin : RunsBegin
runs_begin ts es xs c g run =
    let st : Stands ts c g es xs = stands_run ts [] [] (stands_first ts) run in
    let all : Cut ts (xs ++ []) = cut ts c.place c.inner g.inner xs c.above g.above none st.stack tt in
    (all.trees, all.more, all.begins, all.steps_are ∙ ap (λ z. z ++ all.more) (append-nil xs), all.close)

node_is : (ts : List Terminal) (i : ℕ) (inner : Row) (b : Branch) (xs : List Step) (above : List Row) (vs : List Branch) → Stack ts i inner b xs above vs → inner.node ≡ b.node
node_is ts i inner b xs [] [] st = st.2
node_is ts i inner b xs [] (v ∷ vs) st = absurd st
node_is ts i inner b xs (upper ∷ above) [] st = absurd st
node_is ts i inner b xs (upper ∷ above) (v ∷ vs) st = st.7

pub children_are_told : ChildrenAreTold
children_are_told ts es xs c g run =
    let st : Stands ts c g es xs = stands_run ts [] [] (stands_first ts) run in
    (node_is ts c.place c.inner g.inner xs c.above g.above st.stack, st.childless_is)
