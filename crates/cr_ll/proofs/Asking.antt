-- An ask comes from an alternative of the topmost nonterminal.
use Rattle.std.proofs.Common.{◌≡◌, ◌≢◌, ℕ, zero, suc, ◌+◌, ◌<◌, ◌≤◌, Bool, true, false, Option, Some, None, Result, Ok, Err, List, [], ◌∷◌, inl, inr, length, drop, refl, sym, ◌∙◌, ap, subst, arith}
use Rattle.cr_grammar.specs.declared.symbols.Symbol.{Symbol}
use Rattle.cr_grammar.specs.declared.symbols.NonTerm.{NonTerm}
use Rattle.cr_grammar.specs.declared.symbols.Symbol.TheVariants.{Term, Non, Act}
use Rattle.cr_grammar.specs.Grammar.{Row, rule}
use Rattle.cr_ll.specs.declared.guards.Verdict.{Verdict}
use Rattle.cr_ll.specs.declared.guards.Verdict.TheVariants.{Holds, Fails, Asks}
use Rattle.cr_ll.specs.declared.guards.Choice.{Choice}
use Rattle.cr_ll.specs.declared.guards.Choice.TheVariants.{Nothing, Takes, Waits}
use Rattle.cr_ll.specs.Guards.{Terminal, token_at, meets, verdict, chosen, choice, IsWithin}
use Rattle.cr_ll.specs.declared.stack.TheConstants.{LIMIT}
use Rattle.cr_ll.specs.declared.state.State.{State}
use Rattle.cr_ll.specs.declared.state.Event.{Event}
use Rattle.cr_ll.specs.declared.state.MachineFault.{MachineFault}
use Rattle.cr_ll.specs.declared.state.Event.TheVariants.{Token, Act as ActEvent, Ask, Done}
use Rattle.cr_ll.specs.Derivation.{Asked}
use Rattle.cr_ll.specs.Machine.{Config, AsksAt, pass, move_by, move_on, replied, replied_on, Run, stop, asks}
use Rattle.cr_ll.specs.Running.{config_of, waiting_on, IsWaiting, IsAsking, GoesOn, Replies, IsStuck, IsReady, Steps}

pub chosen_within : (v : Verdict) (n : ℕ) (ch : Choice) (all : ℕ) → n < all → IsWithin ch all → IsWithin (chosen v n ch) all
chosen_within Holds n ch all h w = h
chosen_within Fails n ch all h w = w
chosen_within (Asks k) n ch all h w = h

pub choice_within : (rows : List Row) (n : ℕ) (x y : Terminal) (all : ℕ) → (rows ≢ [] → n + length rows ≤ all) → IsWithin (choice n rows x y) all
choice_within [] n x y all h = tt
choice_within (r ∷ rs) n x y all h =
    let g : n + suc (length rs) ≤ all = h (λ e. cc) in
    chosen_within (verdict r.0 x y) n (choice (n + 1) rs x y) all (omega arith) (choice_within rs (n + 1) x y all (λ e. omega arith))

pub drop_within : (all : List Row) (r : ℕ) → drop r all ≢ [] → r + length (drop r all) ≤ length all
drop_within [] zero h = absurd (h refl)
drop_within [] (suc r) h = absurd (h refl)
drop_within (a ∷ all) zero h = omega arith
drop_within (a ∷ all) (suc r) h = let g : r + length (drop r all) ≤ length all = drop_within all r h in omega arith

abbrev pub Top : List Symbol → ℕ → Type 0
Top ss k = (n : NonTerm) × (more : List Symbol) × (ss ≡ Non n ∷ more) × (k < length (rule n))

pub pass_asks : (v : Verdict) (p : ℕ) (ss : List Symbol) (i k : ℕ) → pass v p ss ≡ AsksAt i k → ⊥
pass_asks Holds p ss i k h = cc
pass_asks Fails p ss i k h = cc
pass_asks (Asks a) p ss i k h = cc

pub choice_asks : (ch : Choice) (p : ℕ) (n : NonTerm) (ss : List Symbol) (i k : ℕ) → IsWithin ch (length (rule n)) → move_by ch p n ss ≡ AsksAt i k → k < length (rule n)
choice_asks Nothing p n ss i k w h = cc
choice_asks (Takes m) p n ss i k w h = cc
choice_asks (Waits m ahead) p n ss i k w h = let e : m ≡ k = cc in subst (λ z. z < length (rule n)) e w

pub top_on : (ts : List Terminal) (p r : ℕ) (ss : List Symbol) (i k : ℕ) → move_on ts p r ss ≡ AsksAt i k → Top ss k
top_on ts p r [] i k h = cc
top_on ts p r (Term t ∷ ss) i k h = absurd (pass_asks (meets t (token_at ts p)) p ss i k h)
top_on ts p r (Act a ∷ ss) i k h = cc
top_on ts p r (Non n ∷ ss) i k h = (
  n,
  ss,
  refl,
  choice_asks (choice r (drop r (rule n)) (token_at ts p) (token_at ts (p + 1))) p n ss i k
      (choice_within (drop r (rule n)) r (token_at ts p) (token_at ts (p + 1)) (length (rule n)) (drop_within (rule n) r)) h,
)

pub waits_there : (m : State) → IsAsking m → IsWaiting m
waits_there m a =
    let top : Top m.stack a.2 = top_on a.0 m.place m.refused m.stack a.1 a.2 a.4 in
    (top.0, a.2, ap (λ z. waiting_on z m.stack) a.3 ∙ ap (λ z. waiting_on (Some a.2) z) top.2, top.3, a.5)

pub waits_one : (w : Option ℕ) (ss : List Symbol) (n : NonTerm) (j k : ℕ) → w ≡ Some k → waiting_on w ss ≡ Some (n, j) → j ≡ k
waits_one None ss n j k e h = cc
waits_one (Some l) [] n j k e h = cc
waits_one (Some l) (Term t ∷ ss) n j k e h = cc
waits_one (Some l) (Act t ∷ ss) n j k e h = cc
waits_one (Some l) (Non t ∷ ss) n j k e h =
    let p : ◌≡◌ {A = NonTerm × ℕ} (t, l) (n, j) = cc in
    let q : l ≡ j = ap (λ (z : NonTerm × ℕ). z.1) p in
    let r : l ≡ k = cc in
    sym q ∙ r

pub goes_on : (old new : State) (answer : Bool) → GoesOn old answer new → Replies old answer new
goes_on old new answer g ts i k w m =
    let e : g.1 ≡ k = waits_one old.waits old.stack g.0 g.1 k w g.2 in
    elim g.4 [
      | inl h ↦
          let c : config_of new ≡ replied (config_of old) k answer = h.0 ∙ ap (λ z. replied (config_of old) z answer) e in
          let P : Config → Type 0 = λ z. Run ts (config_of old) (Asked i answer ∷ []) z in
          inl (subst P (sym c) (asks answer m stop), h.1)
      | inr h ↦ inr (h.0, subst (λ z. LIMIT < length (replied (config_of old) z answer).stack) e h.1, h.2, h.3)
    ]

pub place_stays : (p k : ℕ) (answer : Bool) (ss : List Symbol) → (replied_on p k answer ss).place ≡ p
place_stays p k answer [] = refl
place_stays p k answer (Term t ∷ ss) = refl
place_stays p k answer (Act a ∷ ss) = refl
place_stays p k true (Non n ∷ ss) = refl
place_stays p k false (Non n ∷ ss) = refl

pub goes_on_place : (old new : State) (answer : Bool) → GoesOn old answer new → new.place ≡ old.place
goes_on_place old new answer g = elim g.4 [
  | inl h ↦ ap (λ (z : Config). z.place) h.0 ∙ place_stays old.place g.1 answer old.stack
  | inr h ↦ ap (λ (z : Config). z.place) h.2
]

pub fault_free : (f : Option MachineFault) (old new : State) (i : ℕ) → old.fault ≡ f → IsStuck old (Ok (Ask i)) new → f ≡ None
fault_free None old new i e s = refl
fault_free (Some x) old new i e s = (let h : Ok (Ask i) ≡ Err x = (s x e).0 in cc)

pub ready : (ts : List Terminal) (old new : State) (result : Result Event MachineFault) → old.waits ≡ None → IsStuck old result new → Steps ts old result new → IsReady result new
ready ts old new (Ok (Token i)) idle stuck s = s.1.0 ∙ idle
ready ts old new (Ok (ActEvent a)) idle stuck s = s.1.0 ∙ idle
ready ts old new (Ok (Ask i)) idle stuck s =
    (ts, i, s.1.0, s.1.2, s.1.1, s.1.3 ∙ fault_free old.fault old new i refl stuck)
ready ts old new (Ok Done) idle stuck s = s.2.0 ∙ idle
ready ts old new (Err f) idle stuck s = s.1 ∙ idle
