-- The trees of a list of tokens (C11 6.5 to 6.9, by the guarded table), and their events.
use Rattle.std.specs.Prelude.{◌≡◌, ℕ, ◌+◌, ◌⊎◌, Bool, true, false, List, [], ◌∷◌, ◌++◌}
use Rattle.cr_grammar.specs.declared.symbols.NonTerm.{NonTerm}
use Rattle.cr_grammar.specs.declared.symbols.Action.{Action}
use Rattle.cr_grammar.specs.declared.symbols.Symbol.{Symbol}
use Rattle.cr_grammar.specs.declared.symbols.Symbol.TheVariants.{Term, Non, Act}
use Rattle.cr_grammar.specs.Grammar.{Row, rule}
use Rattle.cr_ll.specs.Guards.{Terminal}
use Rattle.cr_ll.specs.declared.guards.Verdict.{Verdict}
use Rattle.cr_ll.specs.declared.guards.Verdict.TheVariants.{Holds, Fails, Asks}
use Rattle.cr_ll.specs.Guards.{ask_at, token_at, meets, verdict}

-- what happens on the way: a token is passed, an action is due, an ask is answered
pub data Item : Type 0 where
  Passed : ℕ → Item
  Due : Action → Item
  Asked : ℕ → Bool → Item

-- a row of trees: each is a token, an action, or a node with the asks that chose its alternative and its children
pub data Trees : Type 0 where
  none : Trees
  token : ℕ → Trees → Trees
  action : Action → Trees → Trees
  node : NonTerm → List Item → Trees → Trees → Trees

-- from left to right
abbrev pub events : Trees → List Item
events none = []
events (token i next) = Passed i ∷ events next
events (action a next) = Due a ∷ events next
events (node n asks children next) = asks ++ (events children ++ events next)

-- with these asks and answers, the row r is taken, or one of the later
abbrev pub ChosenBy : Verdict → Row → (List Item → Type 0) → ℕ → List Item → List Symbol → Type 0
ChosenBy Holds r later i asks body = (asks ≡ []) × (body ≡ r.1)
ChosenBy Fails r later i asks body = later asks
ChosenBy (Asks ahead) r later i asks body =
    ((asks ≡ Asked (ask_at i ahead) true ∷ []) × (body ≡ r.1))
    ⊎ ((more : List Item) × (asks ≡ Asked (ask_at i ahead) false ∷ more) × later more)

-- with these asks and answers, the first of the rows whose guard holds of x and y has this body; i is the place of x
abbrev pub Chosen : List Row → Terminal → Terminal → ℕ → List Item → List Symbol → Type 0
Chosen [] x y i asks body = ⊥
Chosen (r ∷ rs) x y i asks body = ChosenBy (verdict r.0 x y) r (λ more. Chosen rs x y i more body) i asks body

-- the trees have the symbols ss at their roots, and span the tokens from i up to j
abbrev pub Derives : List Terminal → Trees → ℕ → List Symbol → ℕ → Type 0
Derives ts none i [] j = i ≡ j
Derives ts none i _ j = ⊥
Derives ts (token k next) i (Term t ∷ ss) j = (k ≡ i) × (meets t (token_at ts i) ≡ Holds) × Derives ts next (i + 1) ss j
Derives ts (token k next) i _ j = ⊥
Derives ts (action a next) i (Act b ∷ ss) j = (a ≡ b) × Derives ts next i ss j
Derives ts (action a next) i _ j = ⊥
Derives ts (node m asks children next) i (Non n ∷ ss) j =
    (m ≡ n) × (body : List Symbol) × (k : ℕ)
    × Chosen (rule n) (token_at ts i) (token_at ts (i + 1)) i asks body
    × Derives ts children i body k × Derives ts next k ss j
Derives ts (node m asks children next) i _ j = ⊥

-- each ask has the answer that the items before it give
abbrev pub AreAnswered : (List Item → ℕ → Bool) → List Item → List Item → Type 0
AreAnswered answer before [] = Unit {0}
AreAnswered answer before (Passed i ∷ xs) = AreAnswered answer (before ++ Passed i ∷ []) xs
AreAnswered answer before (Due a ∷ xs) = AreAnswered answer (before ++ Due a ∷ []) xs
AreAnswered answer before (Asked i b ∷ xs) = (b ≡ answer before i) × AreAnswered answer (before ++ Asked i b ∷ []) xs

-- Whatever gives the answers, the tokens have one tree.
abbrev pub TreesAreOne : Type 0
TreesAreOne =
    (answer : List Item → ℕ → Bool) (ts : List Terminal) (ss : List Symbol) (f g : Trees) (j k : ℕ)
    → Derives ts f 0 ss j → Derives ts g 0 ss k
    → AreAnswered answer [] (events f) → AreAnswered answer [] (events g)
    → f ≡ g
