-- What the machine's calls do, by the moves of its configuration.
use Rattle.std.specs.Prelude.{Result, Ok, Err, ◌⊎◌, ◌≡◌, ℕ, ◌<◌, Bool, true, Option, Some, None, List, [], ◌∷◌, ◌++◌, drop, length}
use Rattle.cr_grammar.specs.declared.symbols.NonTerm.{NonTerm}
use Rattle.cr_grammar.specs.declared.symbols.NonTerm.TheVariants as n
use Rattle.cr_grammar.specs.declared.symbols.Symbol.{Symbol}
use Rattle.cr_grammar.specs.declared.symbols.Symbol.TheVariants.{Non}
use Rattle.cr_grammar.specs.Grammar.{rule}
use Rattle.cr_ll.specs.Guards.{Terminal}
use Rattle.cr_ll.specs.declared.state.State.{State}
use Rattle.cr_ll.specs.declared.state.Event.{Event}
use Rattle.cr_ll.specs.declared.state.MachineFault.{MachineFault}
use Rattle.cr_ll.specs.declared.state.Event.TheVariants.{Token, Act, Ask, Done}
use Rattle.cr_ll.specs.declared.state.MachineFault.TheVariants.{Syntax, LimitDepth}
use Rattle.cr_ll.specs.declared.state.Moved.{Moved}
use Rattle.cr_ll.specs.declared.state.Moved.TheVariants.{Gave, Opened, Failed}
use Rattle.cr_ll.specs.declared.stack.TheConstants.{LIMIT}
use Rattle.cr_ll.specs.Derivation.{Passed, Due, Asked}
use Rattle.cr_ll.specs.Machine.{Config, at, Gives, Opens, AsksAt, Ends, Faults, body_at, move, replied, Run}

abbrev pub config_of : State → Config
config_of m = record { place = m.place; refused = m.refused; stack = m.stack }

abbrev pub IsFresh : State → Type 0
IsFresh m = (config_of m ≡ at 0 (Non n.Unit ∷ [])) × (m.waits ≡ None) × (m.fault ≡ None)

-- beside the configuration nothing changes
abbrev pub IsKept : State → State → Type 0
IsKept old new = (new.waits ≡ old.waits) × (new.fault ≡ old.fault)

abbrev pub OpensTo : State → NonTerm → ℕ → Moved → State → Type 0
OpensTo old m k Opened new = (config_of new ≡ at old.place (body_at (rule m) k ++ drop 1 old.stack)) × IsKept old new
OpensTo old m k (Failed LimitDepth) new = (LIMIT < length (body_at (rule m) k ++ drop 1 old.stack)) × (new ≡ old)
OpensTo old m k _ new = ⊥

abbrev pub Advances : List Terminal → State → Moved → State → Type 0
Advances ts old (Gave (Token i)) new = (move ts (config_of old) ≡ Gives (Passed i) (config_of new)) × IsKept old new
Advances ts old (Gave (Act a)) new = (move ts (config_of old) ≡ Gives (Due a) (config_of new)) × IsKept old new
Advances ts old (Gave (Ask i)) new =
    (k : ℕ) × (move ts (config_of old) ≡ AsksAt i k) × (config_of new ≡ config_of old) × (new.waits ≡ Some k) × (new.fault ≡ old.fault)
Advances ts old (Gave Done) new = (move ts (config_of old) ≡ Ends) × (new ≡ old)
Advances ts old Opened new = (move ts (config_of old) ≡ Opens (config_of new)) × IsKept old new
Advances ts old (Failed (Syntax i)) new = (move ts (config_of old) ≡ Faults) × (i ≡ old.place) × (new ≡ old)
Advances ts old (Failed LimitDepth) new = (d : Config) × (move ts (config_of old) ≡ Opens d) × (LIMIT < length d.stack) × (new ≡ old)

-- where a run stops
abbrev pub Stops : List Terminal → Config → MachineFault → Type 0
Stops ts c (Syntax i) = (move ts c ≡ Faults) × (i ≡ c.place)
Stops ts c LimitDepth = (d : Config) × (move ts c ≡ Opens d) × (LIMIT < length d.stack)

-- what a step does: it runs to the next event, the end, an ask or a fault
abbrev pub Steps : List Terminal → State → Result Event MachineFault → State → Type 0
Steps ts old (Ok (Token i)) new = Run ts (config_of old) (Passed i ∷ []) (config_of new) × IsKept old new
Steps ts old (Ok (Act a)) new = Run ts (config_of old) (Due a ∷ []) (config_of new) × IsKept old new
Steps ts old (Ok (Ask i)) new =
    Run ts (config_of old) [] (config_of new)
    × ((k : ℕ) × (move ts (config_of new) ≡ AsksAt i k) × (new.waits ≡ Some k) × (new.fault ≡ old.fault))
Steps ts old (Ok Done) new = Run ts (config_of old) [] (config_of new) × (move ts (config_of new) ≡ Ends) × IsKept old new
Steps ts old (Err f) new =
    (new.fault ≡ Some f) × (new.waits ≡ old.waits) × Run ts (config_of old) [] (config_of new)
    × (((old.fault ≡ Some f) × (new ≡ old)) ⊎ Stops ts (config_of new) f)

abbrev pub waiting_on : Option ℕ → List Symbol → Option (NonTerm × ℕ)
waiting_on (Some k) (Non m ∷ ss) = Some (m, k)
waiting_on _ _ = None

-- the topmost nonterminal, and its alternative that waits for a reply
abbrev pub waiting_at : State → Option (NonTerm × ℕ)
waiting_at m = waiting_on m.waits m.stack

-- an alternative of the topmost nonterminal waits for a reply
abbrev pub IsWaiting : State → Type 0
IsWaiting m = (n : NonTerm) × (k : ℕ) × (waiting_at m ≡ Some (n, k)) × (k < length (rule n)) × (m.fault ≡ None)

-- the machine goes on as the answer says, or the stack is full
abbrev pub GoesOn : State → Bool → State → Type 0
GoesOn old answer new =
    (n : NonTerm) × (k : ℕ) × (waiting_at old ≡ Some (n, k)) × (new.waits ≡ None)
    × (((config_of new ≡ replied (config_of old) k answer) × (new.fault ≡ old.fault))
    ⊎ ((answer ≡ true) × (LIMIT < length (replied (config_of old) k answer).stack) × (config_of new ≡ config_of old) × (new.fault ≡ Some LimitDepth)))

-- The last event was an ask, and it has no reply yet.
abbrev pub IsAsking : State → Type 0
IsAsking m = (ts : List Terminal) × (i : ℕ) × (k : ℕ) × (m.waits ≡ Some k) × (move ts (config_of m) ≡ AsksAt i k) × (m.fault ≡ None)

-- The ask has this answer from then on, or the stack would hold too many symbols.
abbrev pub Replies : State → Bool → State → Type 0
Replies old answer new =
    (ts : List Terminal) (i k : ℕ) → old.waits ≡ Some k → move ts (config_of old) ≡ AsksAt i k
    → (Run ts (config_of old) (Asked i answer ∷ []) (config_of new) × (new.fault ≡ old.fault))
    ⊎ ((answer ≡ true) × (LIMIT < length (replied (config_of old) k answer).stack) × (config_of new ≡ config_of old) × (new.fault ≡ Some LimitDepth))

-- After an ask the machine waits for the reply, and else for nothing.
abbrev pub IsReady : Result Event MachineFault → State → Type 0
IsReady (Ok (Ask i)) m = IsAsking m
IsReady _ m = m.waits ≡ None

-- After a fault each step answers it, and nothing changes.
abbrev pub IsStuck : State → Result Event MachineFault → State → Type 0
IsStuck old result new = (fault : MachineFault) → old.fault ≡ Some fault → (result ≡ Err fault) × (new ≡ old)
