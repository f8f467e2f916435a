-- Tokens and answers have one tree.
use Rattle.std.proofs.Common.{◌≡◌, ℕ, ◌+◌, inl, inr, Bool, true, false, List, [], ◌∷◌, ◌++◌, refl, sym, ◌∙◌, ap, subst, append_assoc}
use Rattle.std.proofs.lemmas.List.{append-nil}
use Rattle.cr_grammar.specs.declared.symbols.Symbol.{Symbol}
use Rattle.cr_grammar.specs.declared.symbols.Symbol.TheVariants.{Term, Non, Act}
use Rattle.cr_grammar.specs.Grammar.{Row, rule}
use Rattle.cr_ll.specs.Guards.{Terminal}
use Rattle.cr_ll.specs.declared.guards.Verdict.{Verdict}
use Rattle.cr_ll.specs.declared.guards.Verdict.TheVariants.{Holds, Fails, Asks}
use Rattle.cr_ll.specs.Guards.{ask_at, token_at, verdict}
use Rattle.cr_ll.specs.Derivation.{Item, Passed, Due, Asked, Trees, none, token, action, node, events, Chosen, ChosenBy, Derives, AreAnswered, TreesAreOne}

module _ (answer : List Item → ℕ → Bool) where
  pub answered_on : (x : Item) (before xs ys : List Item) → AreAnswered answer ((before ++ x ∷ []) ++ xs) ys → AreAnswered answer (before ++ (x ∷ xs)) ys
  answered_on x before xs ys h = let P : List Item → Type 0 = λ z. AreAnswered answer z ys in subst P (append_assoc before (x ∷ []) xs) h

  -- the answers of a list are those of its parts
  pub parts : (before xs ys : List Item) → AreAnswered answer before (xs ++ ys) → AreAnswered answer before xs × AreAnswered answer (before ++ xs) ys
  parts before [] ys h = (tt, (let P : List Item → Type 0 = λ z. AreAnswered answer z ys in subst P (sym (append-nil before)) h))
  parts before (Passed i ∷ xs) ys h =
      let p : AreAnswered answer (before ++ Passed i ∷ []) xs × AreAnswered answer ((before ++ Passed i ∷ []) ++ xs) ys = parts (before ++ Passed i ∷ []) xs ys h in
      (p.0, answered_on (Passed i) before xs ys p.1)
  parts before (Due a ∷ xs) ys h =
      let p : AreAnswered answer (before ++ Due a ∷ []) xs × AreAnswered answer ((before ++ Due a ∷ []) ++ xs) ys = parts (before ++ Due a ∷ []) xs ys h in
      (p.0, answered_on (Due a) before xs ys p.1)
  parts before (Asked i b ∷ xs) ys h =
      let p : AreAnswered answer (before ++ Asked i b ∷ []) xs × AreAnswered answer ((before ++ Asked i b ∷ []) ++ xs) ys = parts (before ++ Asked i b ∷ []) xs ys h.1 in
      ((h.0, p.0), answered_on (Asked i b) before xs ys p.1)

  abbrev pub Same : List Item → List Item → List Symbol → List Symbol → Type 0
  Same xs ys b c = (xs ≡ ys) × (b ≡ c)

  pub chosen_by : (v : Verdict) (r : Row) (i : ℕ) (before xs ys : List Item) (b c : List Symbol) (P Q : List Item → Type 0) → ((before' xs' ys' : List Item) → P xs' → Q ys' → AreAnswered answer before' xs' → AreAnswered answer before' ys' → Same xs' ys' b c) → ChosenBy v r P i xs b → ChosenBy v r Q i ys c → AreAnswered answer before xs → AreAnswered answer before ys → Same xs ys b c
  chosen_by Holds r i before xs ys b c P Q ih h k u v = (h.0 ∙ sym k.0, h.1 ∙ sym k.1)
  chosen_by Fails r i before xs ys b c P Q ih h k u v = ih before xs ys h k u v
  chosen_by (Asks ahead) r i before xs ys b c P Q ih h k u v =
      let A : List Item → Type 0 = λ z. AreAnswered answer before z in
      elim h [
        | inl p ↦ elim k [
          | inl q ↦ (p.0 ∙ sym q.0, p.1 ∙ sym q.1)
          | inr q ↦
              let u' : AreAnswered answer before (Asked (ask_at i ahead) true ∷ []) = subst A p.0 u in
              let v' : AreAnswered answer before (Asked (ask_at i ahead) false ∷ q.0) = subst A q.1 v in
              let e : true ≡ false = u'.0 ∙ sym v'.0 in cc
        ]
        | inr p ↦ elim k [
          | inl q ↦
              let u' : AreAnswered answer before (Asked (ask_at i ahead) false ∷ p.0) = subst A p.1 u in
              let v' : AreAnswered answer before (Asked (ask_at i ahead) true ∷ []) = subst A q.0 v in
              let e : true ≡ false = v'.0 ∙ sym u'.0 in cc
          | inr q ↦
              let u' : AreAnswered answer before (Asked (ask_at i ahead) false ∷ p.0) = subst A p.1 u in
              let v' : AreAnswered answer before (Asked (ask_at i ahead) false ∷ q.0) = subst A q.1 v in
              let s : Same p.0 q.0 b c = ih (before ++ Asked (ask_at i ahead) false ∷ []) p.0 q.0 p.2 q.2 u'.1 v'.1 in
              (p.1 ∙ ap (λ z. Asked (ask_at i ahead) false ∷ z) s.0 ∙ sym q.1, s.1)
        ]
      ]

  pub chosen_one : (rows : List Row) (x y : Terminal) (i : ℕ) (before xs ys : List Item) (b c : List Symbol) → Chosen rows x y i xs b → Chosen rows x y i ys c → AreAnswered answer before xs → AreAnswered answer before ys → Same xs ys b c
  chosen_one [] x y i before xs ys b c h k u v = absurd h
  chosen_one (r ∷ rows) x y i before xs ys b c h k u v =
      chosen_by (verdict r.0 x y) r i before xs ys b c (λ more. Chosen rows x y i more b) (λ more. Chosen rows x y i more c) (λ n p q m o w z. chosen_one rows x y i n p q b c m o w z) h k u v

  pub one : (ts : List Terminal) (f g : Trees) (i : ℕ) (ss : List Symbol) (j k : ℕ) (before : List Item) → Derives ts f i ss j → Derives ts g i ss k → AreAnswered answer before (events f) → AreAnswered answer before (events g) → (f ≡ g) × (j ≡ k)
  one ts none none i [] j k before d e u v = (refl, sym d ∙ e)
  one ts none (token m g) i [] j k before d e u v = absurd e
  one ts none (action a g) i [] j k before d e u v = absurd e
  one ts none (node m asked c g) i [] j k before d e u v = absurd e
  one ts none g i (s ∷ ss) j k before d e u v = absurd d
  one ts (token l f) (token m g) i (Term t ∷ ss) j k before d e u v =
      let s : l ≡ m = d.0 ∙ sym e.0 in
      let P : ℕ → Type 0 = λ z. AreAnswered answer (before ++ Passed z ∷ []) (events g) in
      let r : (f ≡ g) × (j ≡ k) = one ts f g (i + 1) ss j k (before ++ Passed l ∷ []) d.2 e.2 u (subst P (sym s) v) in
      (ap (λ z. token z f) s ∙ ap (λ z. token m z) r.0, r.1)
  one ts (token l f) none i (Term t ∷ ss) j k before d e u v = absurd e
  one ts (token l f) (action a g) i (Term t ∷ ss) j k before d e u v = absurd e
  one ts (token l f) (node m asked c g) i (Term t ∷ ss) j k before d e u v = absurd e
  one ts (token l f) g i [] j k before d e u v = absurd d
  one ts (token l f) g i (Non t ∷ ss) j k before d e u v = absurd d
  one ts (token l f) g i (Act t ∷ ss) j k before d e u v = absurd d
  one ts (action a f) (action b g) i (Act t ∷ ss) j k before d e u v =
      let s : a ≡ b = d.0 ∙ sym e.0 in
      let r : (f ≡ g) × (j ≡ k) = one ts f g i ss j k (before ++ Due a ∷ []) d.1 e.1 u (subst (λ z. AreAnswered answer (before ++ Due z ∷ []) (events g)) (sym s) v) in
      (ap (λ z. action z f) s ∙ ap (λ z. action b z) r.0, r.1)
  one ts (action a f) none i (Act t ∷ ss) j k before d e u v = absurd e
  one ts (action a f) (token m g) i (Act t ∷ ss) j k before d e u v = absurd e
  one ts (action a f) (node m asked c g) i (Act t ∷ ss) j k before d e u v = absurd e
  one ts (action a f) g i [] j k before d e u v = absurd d
  one ts (action a f) g i (Non t ∷ ss) j k before d e u v = absurd d
  one ts (action a f) g i (Term t ∷ ss) j k before d e u v = absurd d
  one ts (node m asked c f) (node n bsked h g) i (Non t ∷ ss) j k before d e u v =
      let pu : AreAnswered answer before asked × AreAnswered answer (before ++ asked) (events c ++ events f) = parts before asked (events c ++ events f) u in
      let pv : AreAnswered answer before bsked × AreAnswered answer (before ++ bsked) (events h ++ events g) = parts before bsked (events h ++ events g) v in
      let s : Same asked bsked d.1 e.1 = chosen_one (rule t) (token_at ts i) (token_at ts (i + 1)) i before asked bsked d.1 e.1 d.3 e.3 pu.0 pv.0 in
      let qu : AreAnswered answer (before ++ asked) (events c) × AreAnswered answer ((before ++ asked) ++ events c) (events f) = parts (before ++ asked) (events c) (events f) pu.1 in
      let qv : AreAnswered answer (before ++ asked) (events h) × AreAnswered answer ((before ++ asked) ++ events h) (events g) = parts (before ++ asked) (events h) (events g) (subst (λ z. AreAnswered answer (before ++ z) (events h ++ events g)) (sym s.0) pv.1) in
      let in' : (c ≡ h) × (d.2 ≡ e.2) = one ts c h i d.1 d.2 e.2 (before ++ asked) d.4 (subst (λ z. Derives ts h i z e.2) (sym s.1) e.4) qu.0 qv.0 in
      let r : (f ≡ g) × (j ≡ k) = one ts f g d.2 ss j k ((before ++ asked) ++ events c) d.5 (subst (λ z. Derives ts g z ss k) (sym in'.1) e.5) qu.1 (subst (λ z. AreAnswered answer ((before ++ asked) ++ events z) (events g)) (sym in'.0) qv.1) in
      (ap (λ z. node z asked c f) (d.0 ∙ sym e.0) ∙ ap (λ z. node n z c f) s.0 ∙ ap (λ z. node n bsked z f) in'.0 ∙ ap (λ z. node n bsked h z) r.0, r.1)
  one ts (node m asked c f) none i (Non t ∷ ss) j k before d e u v = absurd e
  one ts (node m asked c f) (token n g) i (Non t ∷ ss) j k before d e u v = absurd e
  one ts (node m asked c f) (action n g) i (Non t ∷ ss) j k before d e u v = absurd e
  one ts (node m asked c f) g i [] j k before d e u v = absurd d
  one ts (node m asked c f) g i (Term t ∷ ss) j k before d e u v = absurd d
  one ts (node m asked c f) g i (Act t ∷ ss) j k before d e u v = absurd d

pub trees_are_one : TreesAreOne
trees_are_one answer ts ss f g j k d e u v = (one answer ts f g 0 ss j k [] d e u v).0
