-- What the machine's runs and calls are.
use Rattle.std.specs.Prelude.{◌↔◌, ◌≡◌, ℕ, Bool, Result, Ok, Err, None, List, [], ◌∷◌, ◌++◌}
use Rattle.cr_grammar.specs.declared.symbols.NonTerm.TheVariants as n
use Rattle.cr_grammar.specs.declared.symbols.Action.{Action}
use Rattle.cr_grammar.specs.declared.symbols.Symbol.{Symbol}
use Rattle.cr_grammar.specs.declared.symbols.Symbol.TheVariants.{Non}
use Rattle.cr_ll.specs.Guards.{Terminal}
use Rattle.cr_ll.specs.declared.state.State.{State}
use Rattle.cr_ll.specs.declared.state.Event.{Event}
use Rattle.cr_ll.specs.declared.state.MachineFault.{MachineFault}
use Rattle.cr_ll.specs.declared.state.Event.TheVariants.{Token, Act, Ask, Done}
use Rattle.cr_ll.specs.declared.state.MachineFault.TheVariants.{Syntax}
use Rattle.cr_ll.specs.Derivation.{Item, Passed, Due, Asked, Trees, Derives, events}
use Rattle.cr_ll.specs.Machine.{Config, at, Opens, Ends, Faults, move, Run}
use Rattle.cr_ll.specs.Running.{config_of, IsFresh, IsKept, Steps, Replies}

-- a translation unit (C11 6.9)
abbrev pub unit : List Symbol
unit = Non n.Unit ∷ []

-- Every tree of the tokens is run to its end, and every run that ends is a tree's.
abbrev pub EventsAreATrees : Type 0
EventsAreATrees =
    (ts : List Terminal) (xs : List Item) (j : ℕ)
    → ((e : Config) × Run ts (at 0 unit) xs e × (move ts e ≡ Ends) × (e.place ≡ j))
    ↔ ((tree : Trees) × Derives ts tree 0 unit j × (xs ≡ events tree))

-- Where the machine finds no alternative or another token, no tree goes on with the events up to there.
abbrev pub NoTreeGoesOn : Type 0
NoTreeGoesOn =
    (ts : List Terminal) (xs ys : List Item) (c : Config) (tree : Trees) (j : ℕ)
    → Run ts (at 0 unit) xs c → move ts c ≡ Faults → Derives ts tree 0 unit j → events tree ≡ xs ++ ys → ⊥

-- Where a body would make the stack too high, each tree that goes on needs it: its run goes over that stack.
abbrev pub TreesGoOver : Type 0
TreesGoOver =
    (ts : List Terminal) (xs ys : List Item) (c d : Config) (tree : Trees) (j : ℕ)
    → Run ts (at 0 unit) xs c → move ts c ≡ Opens d → Derives ts tree 0 unit j → events tree ≡ xs ++ ys → Run ts d ys (at j [])

-- what happens in calls of one machine on one list of tokens; an ask is counted with its reply
pub data Calls (ts : List Terminal) : State → List Item → State → Type 0 where
  no_call : {m : State} → Calls ts m [] m
  gave_token : {old mid new : State} {i : ℕ} {xs : List Item} → Steps ts old (Ok (Token i)) mid → Calls ts mid xs new → Calls ts old (Passed i ∷ xs) new
  gave_action : {old mid new : State} {a : Action} {xs : List Item} → Steps ts old (Ok (Act a)) mid → Calls ts mid xs new → Calls ts old (Due a ∷ xs) new
  replied_to : {old asking mid new : State} {i : ℕ} {xs : List Item} (answer : Bool) → Steps ts old (Ok (Ask i)) asking → Replies asking answer mid → mid.fault ≡ None → Calls ts mid xs new → Calls ts old (Asked i answer ∷ xs) new

-- Calls from a fresh machine up to `Done` give the events of a tree in which the asks have these replies.
abbrev pub CallsAreATrees : Type 0
CallsAreATrees =
    (ts : List Terminal) (old new last : State) (xs : List Item)
    → IsFresh old → Calls ts old xs new → Steps ts new (Ok Done) last
    → (tree : Trees) × (j : ℕ) × Derives ts tree 0 unit j × (xs ≡ events tree)

-- After calls from a fresh machine up to `Syntax` no tree goes on with what was given.
abbrev pub SyntaxEndsAllTrees : Type 0
SyntaxEndsAllTrees =
    (ts : List Terminal) (old new last : State) (xs ys : List Item) (i j : ℕ) (tree : Trees)
    → IsFresh old → Calls ts old xs new → new.fault ≡ None → Steps ts new (Err (Syntax i)) last
    → Derives ts tree 0 unit j → events tree ≡ xs ++ ys → ⊥

-- After `Done` each step answers `Done`, and nothing changes.
abbrev pub DoneStays : Type 0
DoneStays =
    (ts : List Terminal) (old new : State) (result : Result Event MachineFault)
    → move ts (config_of old) ≡ Ends → old.fault ≡ None → Steps ts old result new
    → (result ≡ Ok Done) × (config_of new ≡ config_of old) × IsKept old new
