-- What is run derives: a run that empties the stack gives a tree's events.
use Rattle.std.proofs.Common.{◌≡◌, ℕ, ◌+◌, Bool, true, false, List, [], ◌∷◌, ◌++◌, drop, refl, sym, ◌∙◌, ap, subst, append_assoc, inl, inr}
use Rattle.cr_grammar.specs.declared.symbols.NonTerm.{NonTerm}
use Rattle.cr_grammar.specs.declared.symbols.Symbol.{Symbol}
use Rattle.cr_grammar.specs.declared.symbols.Term.{Term as TermType}
use Rattle.cr_grammar.specs.declared.symbols.Symbol.TheVariants.{Term, Non, Act}
use Rattle.cr_grammar.specs.Grammar.{Row, rule}
use Rattle.cr_ll.specs.Guards.{Terminal}
use Rattle.cr_ll.specs.declared.guards.Verdict.{Verdict}
use Rattle.cr_ll.specs.declared.guards.Verdict.TheVariants.{Holds, Fails, Asks}
use Rattle.cr_ll.specs.declared.guards.Choice.{Choice}
use Rattle.cr_ll.specs.declared.guards.Choice.TheVariants.{Nothing, Takes, Waits}
use Rattle.cr_ll.specs.Guards.{ask_at, token_at, meets, verdict, chosen, choice}
use Rattle.cr_ll.specs.Derivation.{Item, Passed, Due, Asked, Trees, none, token, action, node, events, Chosen, ChosenBy, Derives}
use Rattle.cr_ll.specs.Machine.{Config, at, Move, Gives, Opens, AsksAt, Ends, Faults, body_at, move_by, pass, move_on, move, replied, Run, stop, gives, opens, asks}
use Rattle.cr_ll.proofs.Complete.{body_first, rows_next}

-- the trees of a row of symbols fall into those of its two parts
pub record Halves (ts : List Terminal) (i : ℕ) (a b : List Symbol) (xs : List Item) (j : ℕ) : Type 0 where
  pub left : Trees
  pub right : Trees
  pub mid : ℕ
  pub first : Derives ts left i a mid
  pub second : Derives ts right mid b j
  pub all : xs ≡ events left ++ events right

pub halve : (ts : List Terminal) (f : Trees) (i : ℕ) (a b : List Symbol) (j : ℕ) → Derives ts f i (a ++ b) j → Halves ts i a b (events f) j
halve ts f i [] b j d = record { left = none; right = f; mid = i; first = refl; second = d; all = refl }
halve ts none i (s ∷ a) b j d = absurd d
halve ts (token k next) i (Term t ∷ a) b j d =
    let h : Halves ts (i + 1) a b (events next) j = halve ts next (i + 1) a b j d.2 in
    record { left = token k h.left; right = h.right; mid = h.mid; first = (d.0, d.1, h.first); second = h.second; all = ap (λ z. Passed k ∷ z) h.all }
halve ts (token k next) i (Non t ∷ a) b j d = absurd d
halve ts (token k next) i (Act t ∷ a) b j d = absurd d
halve ts (action c next) i (Act t ∷ a) b j d =
    let h : Halves ts i a b (events next) j = halve ts next i a b j d.1 in
    record { left = action c h.left; right = h.right; mid = h.mid; first = (d.0, h.first); second = h.second; all = ap (λ z. Due c ∷ z) h.all }
halve ts (action c next) i (Non t ∷ a) b j d = absurd d
halve ts (action c next) i (Term t ∷ a) b j d = absurd d
halve ts (node m asked children next) i (Non n ∷ a) b j d =
    let h : Halves ts d.2 a b (events next) j = halve ts next d.2 a b j d.5 in
    record {
      left = node m asked children h.left;
      right = h.right;
      mid = h.mid;
      first = (d.0, d.1, d.2, d.3, d.4, h.first);
      second = h.second;
      all = ap (λ z. asked ++ (events children ++ z)) h.all ∙ ap (λ z. asked ++ z) (sym (append_assoc (events children) (events h.left) (events h.right))) ∙ sym (append_assoc asked (events children ++ events h.left) (events h.right));
    }
halve ts (node m asked children next) i (Term n ∷ a) b j d = absurd d
halve ts (node m asked children next) i (Act n ∷ a) b j d = absurd d

-- the trees of a stack whose topmost symbol has refused some of its alternatives
pub record Opened (ts : List Terminal) (rows : List Row) (i : ℕ) (ss : List Symbol) (xs : List Item) (j : ℕ) : Type 0 where
  pub asked : List Item
  pub body : List Symbol
  pub children : Trees
  pub next : Trees
  pub mid : ℕ
  pub chosen : Chosen rows (token_at ts i) (token_at ts (i + 1)) i asked body
  pub inside : Derives ts children i body mid
  pub after : Derives ts next mid ss j
  pub all : xs ≡ asked ++ (events children ++ events next)

pub record Whole (ts : List Terminal) (i : ℕ) (ss : List Symbol) (xs : List Item) (j : ℕ) : Type 0 where
  pub trees : Trees
  pub derives : Derives ts trees i ss j
  pub all : xs ≡ events trees

abbrev pub Found : List Terminal → ℕ → ℕ → List Symbol → List Item → ℕ → Type 0
Found ts refused i (Non n ∷ ss) xs j = Opened ts (drop refused (rule n)) i ss xs j
Found ts refused i ss xs j = Whole ts i ss xs j

pub found_whole : (ts : List Terminal) (i : ℕ) (ss : List Symbol) (xs : List Item) (j : ℕ) → Found ts 0 i ss xs j → Whole ts i ss xs j
found_whole ts i [] xs j w = w
found_whole ts i (Term t ∷ ss) xs j w = w
found_whole ts i (Act t ∷ ss) xs j w = w
found_whole ts i (Non n ∷ ss) xs j w = record { trees = node n w.asked w.children w.next; derives = (refl, w.body, w.mid, w.chosen, w.inside, w.after); all = w.all }

-- what choosing says, as the rows say it
abbrev pub Tells : List Row → ℕ → Terminal → Terminal → ℕ → NonTerm → Choice → Type 0
Tells rows k x y i n Nothing = Unit {0}
Tells rows k x y i n (Takes m) = Chosen rows x y i [] (body_at (rule n) m)
Tells rows k x y i n (Waits m ahead) =
    Chosen rows x y i (Asked (ask_at i ahead) true ∷ []) (body_at (rule n) m)
    × ((more : List Item) (body : List Symbol) → Chosen (drop (m + 1) (rule n)) x y i more body → Chosen rows x y i (Asked (ask_at i ahead) false ∷ more) body)

-- the same of the rows from one on, by what its guard says
abbrev pub TellsBy : Verdict → Row → List Row → Terminal → Terminal → ℕ → NonTerm → Choice → Type 0
TellsBy v r rows x y i n Nothing = Unit {0}
TellsBy v r rows x y i n (Takes m) = ChosenBy v r (λ more. Chosen rows x y i more (body_at (rule n) m)) i [] (body_at (rule n) m)
TellsBy v r rows x y i n (Waits m ahead) =
    ChosenBy v r (λ more. Chosen rows x y i more (body_at (rule n) m)) i (Asked (ask_at i ahead) true ∷ []) (body_at (rule n) m)
    × ((more : List Item) (body : List Symbol) → Chosen (drop (m + 1) (rule n)) x y i more body → ChosenBy v r (λ rest. Chosen rows x y i rest body) i (Asked (ask_at i ahead) false ∷ more) body)

pub tells_later : (r : Row) (rows : List Row) (k : ℕ) (x y : Terminal) (i : ℕ) (n : NonTerm) (ch : Choice) → Tells rows k x y i n ch → TellsBy Fails r rows x y i n ch
tells_later r rows k x y i n Nothing t = tt
tells_later r rows k x y i n (Takes m) t = t
tells_later r rows k x y i n (Waits m ahead) t = t

pub tells_by : (v : Verdict) (r : Row) (rows : List Row) (k : ℕ) (x y : Terminal) (i : ℕ) (n : NonTerm) → drop (k + 1) (rule n) ≡ rows → body_at (rule n) k ≡ r.1 → (later : Choice) → Tells rows (k + 1) x y i n later → TellsBy v r rows x y i n (chosen v k later)
tells_by Holds r rows k x y i n next first later t = (refl, first)
tells_by Fails r rows k x y i n next first later t = tells_later r rows (k + 1) x y i n later t
tells_by (Asks ahead) r rows k x y i n next first later t =
    (inl (refl, first), λ more body h. inr (more, refl, (let P : List Row → Type 0 = λ z. Chosen z x y i more body in subst P next h)))

pub tells_whole : (r : Row) (rows : List Row) (k : ℕ) (x y : Terminal) (i : ℕ) (n : NonTerm) (ch : Choice) → TellsBy (verdict r.0 x y) r rows x y i n ch → Tells (r ∷ rows) k x y i n ch
tells_whole r rows k x y i n Nothing t = tt
tells_whole r rows k x y i n (Takes m) t = t
tells_whole r rows k x y i n (Waits m ahead) t = t

pub tells : (rows : List Row) (k : ℕ) (x y : Terminal) (i : ℕ) (n : NonTerm) → drop k (rule n) ≡ rows → Tells rows k x y i n (choice k rows x y)
tells [] k x y i n eq = tt
tells (r ∷ rows) k x y i n eq =
    let next : drop (k + 1) (rule n) ≡ rows = rows_next (rule n) k r rows eq in
    let first : body_at (rule n) k ≡ r.1 = body_first (rule n) k r rows eq in
    let later : Tells rows (k + 1) x y i n (choice (k + 1) rows x y) = tells rows (k + 1) x y i n next in
    tells_whole r rows k x y i n (choice k (r ∷ rows) x y) (tells_by (verdict r.0 x y) r rows k x y i n next first (choice (k + 1) rows x y) later)

-- a step back from what a move leads to
abbrev pub Back : List Terminal → ℕ → ℕ → List Symbol → Move → ℕ → Type 0
Back ts r i ss (Gives x d) j = (xs : List Item) → Found ts d.refused d.place d.stack xs j → Found ts r i ss (x ∷ xs) j
Back ts r i ss (Opens d) j = (xs : List Item) → Found ts d.refused d.place d.stack xs j → Found ts r i ss xs j
Back ts r i ss (AsksAt p m) j = (xs : List Item) (answer : Bool) → (let d : Config = replied (record { place = i; refused = r; stack = ss }) m answer in Found ts d.refused d.place d.stack xs j) → Found ts r i ss (Asked p answer ∷ xs) j
Back ts r i ss Ends j = Unit {0}
Back ts r i ss Faults j = Unit {0}

pub back_pass : (ts : List Terminal) (v : Verdict) (r i : ℕ) (t : TermType) (ss : List Symbol) (j : ℕ) → meets t (token_at ts i) ≡ v → Back ts r i (Term t ∷ ss) (pass v i ss) j
back_pass ts Holds r i t ss j eq = λ xs f.
    let w : Whole ts (i + 1) ss xs j = found_whole ts (i + 1) ss xs j f in
    record { trees = token i w.trees; derives = (refl, eq, w.derives); all = ap (λ z. Passed i ∷ z) w.all }
back_pass ts Fails r i t ss j eq = tt
back_pass ts (Asks n) r i t ss j eq = tt

-- the trees of a body that replaces its nonterminal
pub folded : (ts : List Terminal) (rows : List Row) (i : ℕ) (body ss : List Symbol) (asked xs : List Item) (j : ℕ) → Chosen rows (token_at ts i) (token_at ts (i + 1)) i asked body → Found ts 0 i (body ++ ss) xs j → Opened ts rows i ss (asked ++ xs) j
folded ts rows i body ss asked xs j h f =
    let w : Whole ts i (body ++ ss) xs j = found_whole ts i (body ++ ss) xs j f in
    let v : Halves ts i body ss (events w.trees) j = halve ts w.trees i body ss j w.derives in
    record { asked = asked; body = body; children = v.left; next = v.right; mid = v.mid; chosen = h; inside = v.first; after = v.second; all = ap (λ z. asked ++ z) (w.all ∙ v.all) }

pub back_choice : (ts : List Terminal) (r i : ℕ) (n : NonTerm) (ss : List Symbol) (j : ℕ) (ch : Choice) → Tells (drop r (rule n)) r (token_at ts i) (token_at ts (i + 1)) i n ch → Back ts r i (Non n ∷ ss) (move_by ch i n ss) j
back_choice ts r i n ss j Nothing t = tt
back_choice ts r i n ss j (Takes m) t = λ xs f. folded ts (drop r (rule n)) i (body_at (rule n) m) ss [] xs j t f
back_choice ts r i n ss j (Waits m ahead) t = λ xs answer. elim answer as (λ b. (let d : Config = replied (record { place = i; refused = r; stack = Non n ∷ ss }) m b in Found ts d.refused d.place d.stack xs j) → Opened ts (drop r (rule n)) i ss (Asked (ask_at i ahead) b ∷ xs) j) [
  | true ↦ λ f. folded ts (drop r (rule n)) i (body_at (rule n) m) ss (Asked (ask_at i ahead) true ∷ []) xs j t.0 f
  | false ↦ λ f. record { asked = Asked (ask_at i ahead) false ∷ f.asked; body = f.body; children = f.children; next = f.next; mid = f.mid; chosen = t.1 f.asked f.body f.chosen; inside = f.inside; after = f.after; all = ap (λ z. Asked (ask_at i ahead) false ∷ z) f.all }
]

pub back : (ts : List Terminal) (r i : ℕ) (ss : List Symbol) (j : ℕ) → Back ts r i ss (move_on ts i r ss) j
back ts r i [] j = tt
back ts r i (Term t ∷ ss) j = back_pass ts (meets t (token_at ts i)) r i t ss j refl
back ts r i (Act a ∷ ss) j = λ xs f.
    let w : Whole ts i ss xs j = found_whole ts i ss xs j f in
    record { trees = action a w.trees; derives = (refl, w.derives); all = ap (λ z. Due a ∷ z) w.all }
back ts r i (Non n ∷ ss) j = back_choice ts r i n ss j (choice r (drop r (rule n)) (token_at ts i) (token_at ts (i + 1))) (tells (drop r (rule n)) r (token_at ts i) (token_at ts (i + 1)) i n refl)

pub back_by : (ts : List Terminal) (c : Config) (v : Move) (j : ℕ) → move ts c ≡ v → Back ts c.refused c.place c.stack v j
back_by ts c v j eq = let P : Move → Type 0 = λ z. Back ts c.refused c.place c.stack z j in subst P eq (back ts c.refused c.place c.stack j)

pub sound : {ts : List Terminal} {c e : Config} {xs : List Item} → Run ts c xs e → e.stack ≡ [] → Found ts c.refused c.place c.stack xs e.place
sound {ts} {c} stop h =
    let P : List Symbol → Type 0 = λ z. Found ts c.refused c.place z [] c.place in
    subst P (sym h) (record { trees = none; derives = refl; all = refl })
sound {ts} {c} {e} (gives {d} {x} {xs} m run) h = back_by ts c (Gives x d) e.place m xs (sound run h)
sound {ts} {c} {e} (opens {d} {xs} m run) h = back_by ts c (Opens d) e.place m xs (sound run h)
sound {ts} {c} {e} (asks {i} {m = k} {xs} answer m run) h = back_by ts c (AsksAt i k) e.place m xs answer (sound run h)

-- a run from the first symbol to the empty stack gives the events of a tree
pub sound_whole : (ts : List Terminal) (s : Symbol) (xs : List Item) (e : Config) → Run ts (at 0 (s ∷ [])) xs e → e.stack ≡ [] → Whole ts 0 (s ∷ []) xs e.place
sound_whole ts s xs e run h = found_whole ts 0 (s ∷ []) xs e.place (sound run h)
