-- What the calls of the machine and of the binding lead to.
use Rattle.std.proofs.Common.{◌≡◌, ◌⊎◌, ◌+◌, ◌≤◌, ◌<◌, ℕ, Bool, true, false, List, [], ◌∷◌, ◌++◌, length, Option, Some, None, Result, Ok, Err, refl, sym, ap, subst, ◌∙◌, inl, inr, arith}
use Rattle.std.specs.Prelude.{unwrap_or}
use Rattle.std.proofs.lemmas.List.{append-nil}
use Rattle.cr_grammar.specs.declared.symbols.Action.{Action}
use Rattle.cr_ll.specs.Guards.{Terminal}
use Rattle.cr_ll.specs.Derivation.{Item, Passed, Due, Asked}
use Rattle.cr_ll.specs.Laws.{unit}
use Rattle.cr_ll.specs.Machine.{Config, at, AsksAt, move, replied, Run, stop, gives, opens, asks}
use Rattle.cr_ll.specs.Running.{config_of, IsFresh, IsStuck, Steps, Replies, Stops}
use Rattle.cr_ll.specs.declared.stack.TheConstants.{LIMIT}
use Rattle.cr_ll.specs.declared.state.State.{State}
use Rattle.cr_ll.specs.declared.state.Event.{Event}
use Rattle.cr_ll.specs.declared.state.Event.TheVariants as event
use Rattle.cr_ll.specs.declared.state.MachineFault.{MachineFault}
use Rattle.cr_ll.specs.declared.state.MachineFault.TheVariants as fault
use Rattle.cr_ll_law.specs.EventsLeft.{left, EventsFall, PlacesCountTokens}
use Rattle.cr_binding.specs.Source.{Source, token_of}
use Rattle.cr_binding.specs.WellFormed.{terminals_of}
use Rattle.cr_binder.specs.Binder.{known_of}
use Rattle.cr_sema.specs.declared.sema.Sema.{Sema}
use Rattle.cr_sema.specs.Walking.{IsNext}
use Rattle.cr_sema.specs.Sema.{HasCome, MayCome}
use Rattle.cr_reading.specs.Reading.{IsBoundTo, IsTooDeep}
use Rattle.cr_reading.specs.Loops.{IsGoing, Reads, IsEnded, LeadsOn, ill_of, IsIllEnd, IsBoundOrIll, alive, events_left}
use Rattle.cr_reading.specs.declared.reading.Ended.{Ended}
use Rattle.cr_reading.specs.declared.reading.Ended.TheVariants as ended

-- ---- runs

-- one run behind another
join : {ts : List Terminal} {c d e : Config} {xs ys : List Item} → Run ts c xs d → Run ts d ys e → Run ts c (xs ++ ys) e
join stop more = more
join (gives move run) more = gives move (join run more)
join (opens move run) more = opens move (join run more)
join (asks answer move run) more = asks answer move (join run more)

-- a run of no further events
run_more : (t : Source) (xs : List Item) (c d : Config) → Run (terminals_of t) (at 0 unit) xs c → Run (terminals_of t) c [] d → Run (terminals_of t) (at 0 unit) xs d
run_more t xs c d run more = subst (λ zs. Run (terminals_of t) (at 0 unit) zs d) (append-nil xs) (join run more)

-- ---- how far it is

abbrev bound_to : (t : Source) (es : List Item) (x : Sema) → HasCome t es x → IsBoundTo t es
bound_to t es x come = (known_of x.walk.binder, x.walk.nodes, come.0.gathered, come.0.sees)

-- at first
pub first_reads : (t : Source) (m : State) (x : Sema) → IsFresh m → HasCome t [] x → Reads t m x
first_reads t m x fresh come = inl (record {
  events = [];
  run = subst (λ c. Run (terminals_of t) (at 0 unit) [] c) (sym fresh.0) stop;
  come = come;
  sound = fresh.2;
})

-- behind a token or an action
given_reads : (t : Source) (m n : State) (x y : Sema) (e : Item) → (g : IsGoing t m x) → HasCome t (g.events ++ e ∷ []) y
    → Run (terminals_of t) (config_of m) (e ∷ []) (config_of n) → n.fault ≡ m.fault → Reads t n y
given_reads t m n x y e g come run same = inl (record {
  events = g.events ++ e ∷ [];
  run = join g.run run;
  come = come;
  sound = same ∙ g.sound;
})

pub token_reads : (t : Source) (m n : State) (x y : Sema) (i : ℕ) → (g : IsGoing t m x) → Steps (terminals_of t) m (Ok (event.Token i)) n
    → IsBoundOrIll t g.events (event.Token i) y None → Reads t n y
token_reads t m n x y i g s bound = given_reads t m n x y (Passed i) g bound s.0 s.1.1

pub action_reads : (t : Source) (m n : State) (x y : Sema) (a : Action) → (g : IsGoing t m x) → Steps (terminals_of t) m (Ok (event.Act a)) n
    → IsBoundOrIll t g.events (event.Act a) y None → Reads t n y
action_reads t m n x y a g s bound = given_reads t m n x y (Due a) g bound s.0 s.1.1

-- ---- the next event

next_of : (t : Source) (m n : State) (x : Sema) (g : IsGoing t m x) (e : Item) → Run (terminals_of t) (config_of m) (e ∷ []) (config_of n)
    → Run (terminals_of t) (at 0 unit) (g.events ++ e ∷ []) (config_of n)
next_of t m n x g e run = join g.run run

pub token_next : (t : Source) (m n : State) (x : Sema) (i : ℕ) (g : IsGoing t m x) → Steps (terminals_of t) m (Ok (event.Token i)) n → IsNext t g.events (event.Token i)
token_next t m n x i g s = (Passed i, config_of n, next_of t m n x g (Passed i) s.0, refl)

pub action_next : (t : Source) (m n : State) (x : Sema) (a : Action) (g : IsGoing t m x) → Steps (terminals_of t) m (Ok (event.Act a)) n → IsNext t g.events (event.Act a)
action_next t m n x a g s = (Due a, config_of n, next_of t m n x g (Due a) s.0, refl)

pub end_next : (t : Source) (m n : State) (x : Sema) (g : IsGoing t m x) → Steps (terminals_of t) m (Ok event.Done) n → IsNext t g.events event.Done
end_next t m n x g s = (config_of n, run_more t g.events (config_of m) (config_of n) g.run s.0, s.1)

pub ask_next : (t : Source) (m n : State) (x : Sema) (i : ℕ) (g : IsGoing t m x) → Steps (terminals_of t) m (Ok (event.Ask i)) n → IsNext t g.events (event.Ask i)
ask_next t m n x i g s =
    (Asked i false, replied (config_of n) s.1.0 false, join (run_more t g.events (config_of m) (config_of n) g.run s.0) (asks false s.1.1 stop), refl)

pub may : (t : Source) (m : State) (x : Sema) (e : Event) (g : IsGoing t m x) → IsNext t g.events e → MayCome t e x
may t m x e g next = inr (g.events, g.come, next)

-- ---- behind an ask and its reply

abbrev pub Replied : Source → State → ℕ → ℕ → Bool → State → Type 0
Replied t a i k answer n =
    (Run (terminals_of t) (config_of a) (Asked i answer ∷ []) (config_of n) × (n.fault ≡ a.fault))
    ⊎ ((answer ≡ true) × (LIMIT < length (replied (config_of a) k answer).stack) × (config_of n ≡ config_of a) × (n.fault ≡ Some fault.LimitDepth))

reply_reads : (t : Source) (m a n : State) (x y : Sema) (i k : ℕ) (answer : Bool) → (g : IsGoing t m x)
    → HasCome t (g.events ++ Asked i answer ∷ []) y
    → Run (terminals_of t) (config_of m) [] (config_of a) → move (terminals_of t) (config_of a) ≡ AsksAt i k → a.fault ≡ m.fault → Replied t a i k answer n → Reads t n y
reply_reads t m a n x y i k answer g come run mv same (inl z) = inl (record {
  events = g.events ++ Asked i answer ∷ [];
  run = join (run_more t g.events (config_of m) (config_of a) g.run run) z.0;
  come = come;
  sound = z.1 ∙ same ∙ g.sound;
})
reply_reads t m a n x y i k answer g come run mv same (inr z) = inr (
  z.3,
  (
    g.events,
    config_of a,
    record { run = run_more t g.events (config_of m) (config_of a) g.run run; bound = bound_to t g.events x g.come },
    inr (
      i,
      k,
      mv,
      subst (λ v. IsBoundTo t (g.events ++ Asked i v ∷ [])) z.0 (bound_to t (g.events ++ Asked i answer ∷ []) y come),
      subst (λ v. LIMIT < length (replied (config_of a) k v).stack) z.0 z.1,
    ),
  ),
)

pub asked_reads : (t : Source) (m a n : State) (x y : Sema) (i : ℕ) (answer : Bool) → (g : IsGoing t m x)
    → HasCome t (g.events ++ Asked i answer ∷ []) y → Steps (terminals_of t) m (Ok (event.Ask i)) a → Replies a answer n → Reads t n y
asked_reads t m a n x y i answer g come s replies =
    reply_reads t m a n x y i s.1.0 answer g come s.0 s.1.1 s.1.3 (replies (terminals_of t) i s.1.0 s.1.2 s.1.1)

-- ---- faults

abbrev IsErr : Result Event MachineFault → Type 0
IsErr (Ok e) = ⊥
IsErr (Err f) = Prim.Unit {0}

no_event : (f : MachineFault) → (r : Result Event MachineFault) → r ≡ Err f → IsErr r
no_event f r h = subst IsErr (sym h) tt

-- an event comes only where the machine isn't over its limit
pub going_on : (t : Source) (m n : State) (x : Sema) (e : Event) → Reads t m x → IsStuck m (Ok e) n → IsGoing t m x
going_on t m n x e (inl g) stuck = g
going_on t m n x e (inr o) stuck = absurd (no_event fault.LimitDepth (Ok e) (stuck fault.LimitDepth o.0).0)

fault_none : (m : State) (f : MachineFault) → m.fault ≡ None → m.fault ≡ Some f → ⊥
fault_none m f n s = cc

stops_read : (t : Source) (m n : State) (x y : Sema) (f : MachineFault) → (g : IsGoing t m x) → Run (terminals_of t) (config_of m) [] (config_of n)
    → Stops (terminals_of t) (config_of n) f → IsEnded t y (ill_of t f)
stops_read t m n x y (fault.Syntax i) g run s = inr (inl (
  refl,
  (
    g.events,
    config_of n,
    record { run = run_more t g.events (config_of m) (config_of n) g.run run; bound = bound_to t g.events x g.come },
    s.0,
    ap (λ j. (token_of t j).site) s.1,
  ),
))
stops_read t m n x y fault.LimitDepth g run s = inr (inr (
  refl,
  (
    g.events,
    config_of n,
    record { run = run_more t g.events (config_of m) (config_of n) g.run run; bound = bound_to t g.events x g.come },
    inl s,
  ),
))

fails_read : (t : Source) (m n : State) (x y : Sema) (f : MachineFault) → (g : IsGoing t m x) → Run (terminals_of t) (config_of m) [] (config_of n)
    → (((m.fault ≡ Some f) × (n ≡ m)) ⊎ Stops (terminals_of t) (config_of n) f) → IsEnded t y (ill_of t f)
fails_read t m n x y f g run (inl z) = absurd (fault_none m f g.sound z.0)
fails_read t m n x y f g run (inr s) = stops_read t m n x y f g run s

abbrev IsLimit : Result Event MachineFault → Type 0
IsLimit (Ok e) = ⊥
IsLimit (Err (fault.Syntax i)) = ⊥
IsLimit (Err fault.LimitDepth) = Prim.Unit {0}

over_read : (t : Source) (y : Sema) (f : MachineFault) → IsLimit (Err f) → IsTooDeep t → IsEnded t y (ill_of t f)
over_read t y (fault.Syntax i) e deep = absurd e
over_read t y fault.LimitDepth e deep = inr (inr (refl, deep))

limit_is : (r : Result Event MachineFault) → r ≡ Err fault.LimitDepth → IsLimit r
limit_is r h = subst IsLimit (sym h) tt

pub fault_read : (t : Source) (m n : State) (x y : Sema) (f : MachineFault) → Reads t m x → IsStuck m (Err f) n → Steps (terminals_of t) m (Err f) n → IsEnded t y (ill_of t f)
fault_read t m n x y f (inl g) stuck s = fails_read t m n x y f g s.2 s.3
fault_read t m n x y f (inr o) stuck s = over_read t y f (limit_is (Err f) (stuck fault.LimitDepth o.0).0) o.1

-- binding finds a fault
pub ill_ends : (t : Source) (x : Sema) (r : Ended) → IsIllEnd t r → IsEnded t x r
ill_ends t x ended.WellFormed h = absurd h
ill_ends t x (ended.Ill c p) h = inl h

-- the end
pub end_ends : (t : Source) (es : List Item) (x : Sema) (o : Option Ended) → IsBoundOrIll t es event.Done x o → IsEnded t x (unwrap_or o ended.WellFormed)
end_ends t es x None h = (es, h.0)
end_ends t es x (Some r) h = ill_ends t x r h

-- ---- what is left

-- the measure of the machine's events
module _ (fall : EventsFall) (t : Source) where
  pub act_leaves : (m n : State) (a : Action) → Steps (terminals_of t) m (Ok (event.Act a)) n → events_left n < events_left m
  act_leaves m n a s =
      let h : left (config_of n) + 1 ≤ left (config_of m) = fall (terminals_of t) (config_of m) (config_of n) (Due a ∷ []) s.0 tt in
      let k : alive n.fault ≡ alive m.fault = ap alive s.1.1 in
      omega (arith, h, k)

  reply_leaves : (m a n : State) (i k : ℕ) (answer : Bool) → Run (terminals_of t) (config_of m) [] (config_of a) → a.fault ≡ m.fault → m.fault ≡ None → Replied t a i k answer n → events_left n < events_left m
  reply_leaves m a n i k answer run same sound (inl x) =
      let h : left (config_of a) + 0 ≤ left (config_of m) = fall (terminals_of t) (config_of m) (config_of a) [] run tt in
      let j : left (config_of n) + 1 ≤ left (config_of a) = fall (terminals_of t) (config_of a) (config_of n) (Asked i answer ∷ []) x.0 tt in
      let f : alive n.fault ≡ alive m.fault = ap alive (x.1 ∙ same) in
      omega (arith, h, j, f)
  reply_leaves m a n i k answer run same sound (inr x) =
      let h : left (config_of a) + 0 ≤ left (config_of m) = fall (terminals_of t) (config_of m) (config_of a) [] run tt in
      let j : left (config_of n) ≡ left (config_of a) = ap left x.2 in
      let f : alive n.fault ≡ 0 = ap alive x.3 in
      let g : alive m.fault ≡ 1 = ap alive sound in
      omega (arith, h, j, f, g)

  pub ask_leaves : (m a n : State) (i : ℕ) (answer : Bool) → m.fault ≡ None → Steps (terminals_of t) m (Ok (event.Ask i)) a → Replies a answer n → events_left n < events_left m
  ask_leaves m a n i answer sound s replies = reply_leaves m a n i s.1.0 answer s.0 s.1.3 sound (replies (terminals_of t) i s.1.0 s.1.2 s.1.1)

-- where the machine stands
module _ (places : PlacesCountTokens) (t : Source) where
  pub token_place : (m n : State) (i : ℕ) → Steps (terminals_of t) m (Ok (event.Token i)) n → n.place ≡ m.place + 1
  token_place m n i s = (let h : n.place ≡ m.place + (1 + 0) = places (terminals_of t) (config_of m) (config_of n) (Passed i ∷ []) s.0 in omega (arith, h))

  pub act_place : (m n : State) (a : Action) → Steps (terminals_of t) m (Ok (event.Act a)) n → n.place ≡ m.place
  act_place m n a s = (let h : n.place ≡ m.place + 0 = places (terminals_of t) (config_of m) (config_of n) (Due a ∷ []) s.0 in omega (arith, h))

  pub ask_place : (m a n : State) (i : ℕ) → Steps (terminals_of t) m (Ok (event.Ask i)) a → n.place ≡ a.place → n.place ≡ m.place
  ask_place m a n i s same = (let h : a.place ≡ m.place + 0 = places (terminals_of t) (config_of m) (config_of a) [] s.0 in omega (arith, h, same))

  pub token_leads : (first m n : State) (x y : Sema) (i : ℕ) (o : Option Ended) → (g : IsGoing t m x) → Steps (terminals_of t) m (Ok (event.Token i)) n
      → m.place ≡ first.place → n.waits ≡ None → IsBoundOrIll t g.events (event.Token i) y o → LeadsOn t first n y o
  token_leads first m n x y i None g s stands idle bound = (
    token_reads t m n x y i g s bound,
    idle,
    (let h = token_place m n i s in omega (arith, h, stands)),
  )
  token_leads first m n x y i (Some r) g s stands idle ill = ill_ends t y r ill
