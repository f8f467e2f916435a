-- The machine: a stack of symbols, on which a body replaces its nonterminal.
use Rattle.std.specs.Prelude.{Option, Some, None, ◌≡◌, ℕ, zero, suc, ◌+◌, Bool, cond, List, [], ◌∷◌, ◌++◌, drop}
use Rattle.cr_grammar.specs.declared.symbols.NonTerm.{NonTerm}
use Rattle.cr_grammar.specs.declared.symbols.Symbol.{Symbol}
use Rattle.cr_grammar.specs.declared.symbols.Symbol.TheVariants.{Term, Non, Act}
use Rattle.cr_grammar.specs.Grammar.{Row, rule}
use Rattle.cr_ll.specs.Guards.{Terminal}
use Rattle.cr_ll.specs.declared.guards.Verdict.{Verdict}
use Rattle.cr_ll.specs.declared.guards.Verdict.TheVariants.{Holds, Fails, Asks}
use Rattle.cr_ll.specs.declared.guards.Choice.{Choice}
use Rattle.cr_ll.specs.declared.guards.Choice.TheVariants.{Nothing, Takes, Waits}
use Rattle.cr_ll.specs.Guards.{ask_at, token_at, meets, choice}
use Rattle.cr_ll.specs.Derivation.{Item, Passed, Due, Asked}

-- refused: of the topmost symbol, how many alternatives need not be tried any more
pub record Config : Type 0 where
  pub place : ℕ
  pub refused : ℕ
  pub stack : List Symbol

abbrev pub at : ℕ → List Symbol → Config
at i ss = record { place = i; refused = 0; stack = ss }

pub data Move : Type 0 where
  Gives : Item → Config → Move
  Opens : Config → Move
  AsksAt : (place alternative : ℕ) → Move
  Ends : Move
  Faults : Move

-- the body of the alternative number n
abbrev pub body_at : List Row → ℕ → List Symbol
body_at [] n = []
body_at (r ∷ rs) zero = r.1
body_at (r ∷ rs) (suc n) = body_at rs n

abbrev pub move_by : Choice → ℕ → NonTerm → List Symbol → Move
move_by Nothing i n ss = Faults
move_by (Takes m) i n ss = Opens (at i (body_at (rule n) m ++ ss))
move_by (Waits m ahead) i n ss = AsksAt (ask_at i ahead) m

abbrev pub pass : Verdict → ℕ → List Symbol → Move
pass Holds i ss = Gives (Passed i) (at (i + 1) ss)
pass Fails i ss = Faults
pass (Asks n) i ss = Faults

abbrev pub move_on : List Terminal → ℕ → ℕ → List Symbol → Move
move_on ts i refused [] = Ends
move_on ts i refused (Term t ∷ ss) = pass (meets t (token_at ts i)) i ss
move_on ts i refused (Act a ∷ ss) = Gives (Due a) (at i ss)
move_on ts i refused (Non n ∷ ss) = move_by (choice refused (drop refused (rule n)) (token_at ts i) (token_at ts (i + 1))) i n ss

abbrev pub move : List Terminal → Config → Move
move ts c = move_on ts c.place c.refused c.stack

-- the machine after the reply to the ask of the alternative number m of the topmost symbol
abbrev pub replied_on : ℕ → ℕ → Bool → List Symbol → Config
replied_on i m answer (Non n ∷ ss) = cond answer (at i (body_at (rule n) m ++ ss)) (record { place = i; refused = m + 1; stack = Non n ∷ ss })
replied_on i m answer ss = at i ss

abbrev pub replied : Config → ℕ → Bool → Config
replied c m answer = replied_on c.place m answer c.stack

-- a run gives these items, from one configuration to another
pub data Run (ts : List Terminal) : Config → List Item → Config → Type 0 where
  stop : {c : Config} → Run ts c [] c
  gives : {c d e : Config} {x : Item} {xs : List Item} → move ts c ≡ Gives x d → Run ts d xs e → Run ts c (x ∷ xs) e
  opens : {c d e : Config} {xs : List Item} → move ts c ≡ Opens d → Run ts d xs e → Run ts c xs e
  asks : {c e : Config} {i m : ℕ} {xs : List Item} (answer : Bool) → move ts c ≡ AsksAt i m → Run ts (replied c m answer) xs e → Run ts c (Asked i answer ∷ xs) e

-- the topmost symbol
abbrev pub top_of : List Symbol → Option Symbol
top_of [] = None
top_of (s ∷ ss) = Some s
