-- What was gathered of a tree, by the steps that were made.
use Rattle.std.specs.Prelude.{ℕ, Bool, List, [], ◌∷◌, ◌++◌}
use Rattle.cr_grammar.specs.declared.symbols.NonTerm.{NonTerm}
use Rattle.cr_grammar.specs.declared.symbols.NonTerm.TheVariants as n
use Rattle.cr_grammar.specs.declared.symbols.Action.{Action}
use Rattle.cr_ll.specs.Derivation.{Item, Asked, Trees, none, token, action, node}

-- an open node, the asks that chose its alternative, and its children so far
pub record Branch : Type 0 where
  pub node : NonTerm
  pub asks : List Item
  pub children : Trees

-- asks: since the last step; then the innermost open node, and those above it
pub record Gathered : Type 0 where
  pub asks : List Item
  pub inner : Branch
  pub above : List Branch

abbrev pub gathered : List Item → NonTerm → List Item → Trees → List Branch → Gathered
gathered asks m by children above =
    record { asks = asks; inner = record { node = m; asks = by; children = children }; above = above }

-- one row of trees behind another
abbrev pub followed_by : Trees → Trees → Trees
followed_by none more = more
followed_by (token i next) more = token i (followed_by next more)
followed_by (action x next) more = action x (followed_by next more)
followed_by (node m asks children next) more = node m asks children (followed_by next more)

abbrev pub at_first : Gathered
at_first = gathered [] n.Unit [] none []

abbrev pub with_child : Trees → Branch → Branch
with_child tree b = record { node = b.node; asks = b.asks; children = followed_by b.children tree }

abbrev pub asking : ℕ → Bool → Gathered → Gathered
asking i answer g = record { asks = g.asks ++ Asked i answer ∷ []; inner = g.inner; above = g.above }

abbrev pub passing : ℕ → Gathered → Gathered
passing i g = record { asks = []; inner = with_child (token i none) g.inner; above = g.above }

abbrev pub acting : Action → Gathered → Gathered
acting x g = record { asks = []; inner = with_child (action x none) g.inner; above = g.above }

abbrev pub opening : NonTerm → Gathered → Gathered
opening m g = gathered [] m g.asks none (g.inner ∷ g.above)

-- a closed node is the last child of the one above it
abbrev pub closing_on : Branch → List Branch → Gathered
closing_on b [] = record { asks = []; inner = b; above = [] }
closing_on b (upper ∷ above) = record { asks = []; inner = with_child (node b.node b.asks b.children none) upper; above = above }

abbrev pub closing : Gathered → Gathered
closing g = closing_on g.inner g.above
