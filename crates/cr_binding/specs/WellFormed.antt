-- When a unit is well-formed, and else its first fault.
use Rattle.std.specs.Prelude.{◌≡◌, ◌⊎◌, ℕ, ◌+◌, Bool, false, Option, Some, None, List, ◌∷◌, take, Contains, slice_get, option_and_then}
use Rattle.cr_base.specs.declared.cause.IllCause.{IllCause}
use Rattle.cr_grammar.specs.declared.symbols.Symbol.{Symbol}
use Rattle.cr_grammar.specs.declared.symbols.Symbol.TheVariants.{Term, Non, Act}
use Rattle.cr_grammar.specs.Grammar.{rule}
use Rattle.cr_ll.specs.declared.guards.Verdict.TheVariants.{Holds}
use Rattle.cr_ll.specs.Guards.{Terminal, terminals, token_at, meets}
use Rattle.cr_ll.specs.Derivation.{Trees, none, token, action, node, Chosen, Derives}
use Rattle.cr_ll.specs.Laws.{unit}
use Rattle.cr_scope.specs.declared.Space.TheVariants as space
use Rattle.cr_binding.specs.Source.{Source}
use Rattle.cr_binding.specs.State.{Declaration, WasAsked, State}
use Rattle.cr_binding.specs.Entities.{meaning, is_typedef}
use Rattle.cr_binding.specs.Binding.{bound}

-- ---- answers

abbrev pub is_some_typedef : Option Declaration → Bool
is_some_typedef None = false
is_some_typedef (Some d) = is_typedef d

-- the spelling of a token is a typedef name in a scope, where these declarations were made (C11 6.7.8p3)
abbrev pub is_typedef_name : Source → List ℕ → ℕ → List Declaration → Bool
is_typedef_name t path i ds = is_some_typedef (option_and_then (slice_get ds) (meaning t path space.Ordinary i ds))

-- each ask is answered by what was declared before it
abbrev pub AreAnswered : Source → State → Type 0
AreAnswered t s =
    (i : ℕ) (path : List ℕ) (before : ℕ) (answer : Bool)
    → Contains s.uses (WasAsked i path before answer)
    → answer ≡ is_typedef_name t path i (take before s.declarations)

abbrev pub terminals_of : Source → List Terminal
terminals_of t = terminals t.texts t.tokens

-- ---- well-formed units

-- The tokens have this tree, and nothing is wrong with what is bound.
pub record IsWellFormed (t : Source) (tree : Trees) : Type 0 where
  pub spans : ℕ
  pub derives : Derives (terminals_of t) tree 0 unit spans
  pub answered : AreAnswered t (bound t tree)
  pub sound : (bound t tree).fault ≡ None

-- ---- faults

-- Trees that are cut off somewhere begin to derive from the tokens from i on: each row is whole, or cut off where its last
-- node is.
abbrev pub Begins : List Terminal → Trees → ℕ → List Symbol → Type 0
Begins ts none i ss = Unit {0}
Begins ts (token k next) i (Term x ∷ ss) = (k ≡ i) × (meets x (token_at ts i) ≡ Holds) × Begins ts next (i + 1) ss
Begins ts (token k next) i _ = ⊥
Begins ts (action a next) i (Act b ∷ ss) = (a ≡ b) × Begins ts next i ss
Begins ts (action a next) i _ = ⊥
Begins ts (node m asks children next) i (Non k ∷ ss) =
    (m ≡ k) × (body : List Symbol) × Chosen (rule k) (token_at ts i) (token_at ts (i + 1)) i asks body
    × (((j : ℕ) × Derives ts children i body j × Begins ts next j ss) ⊎ (Begins ts children i body × (next ≡ none)))
Begins ts (node m asks children next) i _ = ⊥

-- The first fault of binding, at token i: trees that are cut off have it. Longer ones have the same, since nothing is done
-- behind a fault.
pub record IsIll (t : Source) (c : IllCause) (i : ℕ) : Type 0 where
  pub trees : Trees
  pub begins : Begins (terminals_of t) trees 0 unit
  pub answered : AreAnswered t (bound t trees)
  pub fault : (bound t trees).fault ≡ Some (c, i)
