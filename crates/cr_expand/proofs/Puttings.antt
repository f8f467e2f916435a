-- What is put in for a name, where the work allows it.
use Rattle.std.proofs.Common.{◌≡◌, ℕ, suc, ◌+◌, ◌-◌, ◌<◌, ◌≤◌, Bool, true, false, cond, List, [], ◌∷◌, ◌++◌, length, refl, sym, ap, ◌∙◌, arith, append-nil, inl, inr}
use Rattle.std.specs.Prelude.{nat_lt}
use Rattle.std.proofs.lemmas.Bool.Decides.{nat_tests}
use Rattle.cr_macros.specs.declared.macros.Seen.{Seen}
use Rattle.cr_macros.specs.declared.fault.ExpandFault.{ExpandFault}
use Rattle.cr_macros.specs.declared.fault.ExpandFault.TheVariants as fault
use Rattle.cr_expand.specs.declared.held.Held.{Held}
use Rattle.cr_expand.specs.declared.slot.Slot.{Slot}
use Rattle.cr_expand.specs.declared.machine.Machine.{Machine}
use Rattle.cr_expand.specs.declared.machine.TheConstants.{LIMIT}
use Rattle.cr_macros.specs.Tokens.{Text, Token, MacroText, Event, Rule, Over, Answer, Gave, Stopped, Work, after, then_do, ◌>>=◌, pay}
use Rattle.cr_macros.specs.Substitution.{Args}
use Rattle.cr_macros.specs.Substitution
use Rattle.cr_macros.specs.Expansion.{put_in}
use Rattle.cr_expand.specs.HideSets.{Sets, Grows}
use Rattle.cr_expand.specs.Held.{Watch, noted, Tells, Faults, watch_of, held, all_held, hidden, IsKnown, AreKnown, AreTables}
use Rattle.cr_expand.specs.Slots.{tokens}
use Rattle.cr_expand.specs.Machines.{EndsWithRule, FaultsAtOnce, IsPut, uses}
use Rattle.cr_expand.proofs.Quiet.{QuietAnswer, uses_append, quiet_subst}
use Rattle.cr_expand.proofs.Noted.{noted_append}
use Rattle.cr_expand.proofs.Sets.{grows_then, grows_same}
use Rattle.cr_expand.proofs.Kept.{held_kept}
use Rattle.cr_expand.specs.Hiding.{IsHidden}
use Rattle.cr_expand.specs.Running.{put_for}

module _ (w : Watch) (s0 s1 : List Seen) (value : List Token) (left : ℕ) where
  paid : (n : ℕ) → n ≤ left → pay n value left ≡ Gave value (left - n) (Rule ∷ [])
  paid n h = ap (λ b. cond b (Stopped Over []) (Gave value (left - n) (Rule ∷ []))) (let e : nat_lt left n ≡ false = grind (arith, nat_tests) in e)

  not_paid : (n : ℕ) → left < n → pay n value left ≡ Stopped Over []
  not_paid n h = ap (λ b. cond b (Stopped Over []) (Gave value (left - n) (Rule ∷ []))) (let e : nat_lt left n ≡ true = grind (arith, nat_tests) in e)

  with_rule : (events : List Event) → s1 ≡ s0 ++ noted w events → s1 ≡ s0 ++ noted w (events ++ Rule ∷ [])
  with_rule events e = e ∙ ap (λ l. s0 ++ l) (sym (noted_append w events (Rule ∷ []) ∙ append-nil (noted w events)))

  gives : (r : Answer (List Token)) → Tells w s0 s1 r value left → QuietAnswer r → 1 + length value ≤ left
      → (events : List Event) × (then_do r (λ ts. put_in ts) ≡ Gave value (left - (1 + length value)) events) × (s1 ≡ s0 ++ noted w events) × (uses events ≡ 1) × EndsWithRule events
  gives (Gave a l events) h q k = (
    events ++ Rule ∷ [],
    ap (λ x. after events (put_in x l)) h.0 ∙ ap (λ x. after events (put_in value x)) h.1 ∙ ap (after events) (paid (1 + length value) k),
    with_rule events h.2,
    (let u = uses_append events (Rule ∷ []) in omega (arith, u, q)),
    (events, refl),
  )
  gives (Stopped cause stopped) h q k = absurd h

  pub faults_over : (r : Answer (List Token)) → Tells w s0 s1 r value left → left < 1 + length value → Faults (then_do r (λ ts. put_in ts)) fault.LimitMacros
  faults_over (Gave a l events) h k =
      let e : then_do (Gave a l events) (λ ts. put_in ts) ≡ Stopped Over (events ++ []) = ap (λ x. after events (put_in x l)) h.0 ∙ ap (λ x. after events (put_in value x)) h.1 ∙ ap (after events) (not_paid (1 + length value) k) in
      rw e (inl refl)
  faults_over (Stopped cause stopped) h k = absurd h

pub length_held : (names : List Text) (sets : Sets) (hs : List Held) → length (all_held names sets hs) ≡ length hs
length_held names sets [] = refl
length_held names sets (h ∷ hs) = ap suc (length_held names sets hs)

pub is_put : (names new : List Text) (old now : Machine) (m : Work (List Token)) (rest : List Slot) (list : List Held)
    → Tells (watch_of names old.notes) old.notes.seen.items now.notes.seen.items (m (LIMIT - old.used)) (all_held new now.sets list) (LIMIT - old.used) → QuietAnswer (m (LIMIT - old.used))
    → now.used ≡ old.used + (1 + length list) → now.used ≤ LIMIT → now.slots.items ≡ tokens list ++ rest → AreKnown new now.sets list → AreTables new now.sets → Grows names new → Grows old.sets now.sets
    → IsPut names new old now (m >>= λ ts. put_in ts) rest
is_put names new old now m rest list t q u l s k a g h =
    let n = length_held new now.sets list in
    let p = gives (watch_of names old.notes) old.notes.seen.items now.notes.seen.items (all_held new now.sets list) (LIMIT - old.used) (m (LIMIT - old.used)) t q (omega (arith, n)) in
    record {
      list = list;
      events = p.0;
      one = p.3;
      last = p.4;
      gives = p.1 ∙ ap (λ x. Gave (all_held new now.sets list) x p.0) (let e : LIMIT - old.used - (1 + length (all_held new now.sets list)) ≡ LIMIT - now.used = omega (arith, n) in e);
      seen = p.2;
      slots = s;
      known = k;
      tables = a;
      names_grow = g;
      sets_grow = h;
      limit = l;
    }

-- The same is put in, by the same work from the same place.
pub put_again : (names new : List Text) (old mid now : Machine) (work work2 : Work (List Token)) (rest rest2 : List Slot) → mid.used ≡ old.used → mid.notes ≡ old.notes → Grows old.sets mid.sets → work ≡ work2 → rest ≡ rest2
    → IsPut names new mid now work rest → IsPut names new old now work2 rest2
put_again names new old mid now work work2 rest rest2 u n g e f p = record {
  list = p.list;
  events = p.events;
  one = p.one;
  last = p.last;
  gives = ap (λ f. f (LIMIT - old.used)) (sym e) ∙ ap (λ x. work (LIMIT - x)) (sym u) ∙ p.gives;
  seen = p.seen ∙ ap (λ x. x.seen.items ++ noted (watch_of names x) p.events) n;
  slots = p.slots ∙ ap (λ l. tokens p.list ++ l) f;
  known = p.known;
  tables = p.tables;
  names_grow = p.names_grow;
  sets_grow = grows_then old.sets mid.sets now.sets g p.sets_grow;
  limit = p.limit;
}

-- what is put in for an object-like macro
pub object_work : (names : List Text) (old new : Sets) (h : Held) (m : MacroText) (n : ℕ) (hide : List Text) → AreTables names old → IsKnown names old h → IsHidden names old new n hide
    → put_for (held names new h) m [] [] (hidden names new n) ≡ put_for (held names old h) m [] [] hide
object_work names old new h m n hide t k p =
    ap (λ x. put_for x m [] [] (hidden names new n)) (held_kept names names old new h (grows_same names) p.grows t.named k)
    ∙ ap (put_for (held names old h) m [] []) p.text

-- Where what is put in isn't there, or not paid for, its rule wasn't used.
put_at_once : (r : Answer (List Token)) (x : ExpandFault) → QuietAnswer r → Faults (then_do r (λ ts. put_in ts)) x → FaultsAtOnce (then_do r (λ ts. put_in ts)) x
put_at_once (Stopped cause stopped) x q (inl i) = inl (i, q)
put_at_once (Stopped cause stopped) x q (inr m) = inr m
put_at_once (Gave ts left events) x q f = paying (nat_lt left (1 + length ts)) f where
  paying : (b : Bool) → Faults (after events (cond b (Stopped Over []) (Gave ts (left - (1 + length ts)) (Rule ∷ [])))) x → FaultsAtOnce (after events (cond b (Stopped Over []) (Gave ts (left - (1 + length ts)) (Rule ∷ [])))) x
  paying true (inl i) = inl (i, (let u = uses_append events [] in omega (arith, u, q)))
  paying true (inr m) = inr m
  paying false m = m

pub put_for_at_once : (name : Token) (m : MacroText) (raw full : Args) (hide : List Text) (left : ℕ) (x : ExpandFault) → Faults (put_for name m raw full hide left) x → FaultsAtOnce (put_for name m raw full hide left) x
put_for_at_once name m raw full hide left x f = put_at_once (Substitution.subst name m raw full hide left) x ((quiet_subst name m raw full hide).at left) f

pub no_memory_at_once : {A : Type 0} (r : Answer A) → FaultsAtOnce r fault.OutOfMemory
no_memory_at_once (Gave a left events) = refl
no_memory_at_once (Stopped cause stopped) = inr refl

-- the fault of the work that is done first
pub at_once_first : {A B : Type 0} (r : Answer A) (f : A → Work B) (e : ExpandFault) → FaultsAtOnce r e → FaultsAtOnce (then_do r f) e
at_once_first (Gave a left events) f e h = rw h (no_memory_at_once (after events (f a left)))
at_once_first (Stopped cause stopped) f e h = h
