-- Turns that make no step.
use Rattle.std.proofs.Common.{◌≡◌, ◌-◌, ◌<◌, true, List, [], ◌∷◌, ◌++◌, refl, sym, ap, subst, ◌∙◌, arith, ◌⊎◌, inl, inr, None}
use Rattle.cr_macros.specs.declared.fault.ExpandFault.{ExpandFault}
use Rattle.cr_expand.specs.declared.machine.Machine.{Machine}
use Rattle.cr_expand.specs.declared.machine.ExpStep.{ExpStep}
use Rattle.cr_expand.specs.declared.machine.ExpStep.TheVariants as step
use Rattle.cr_expand.specs.declared.machine.TheConstants.{LIMIT}
use Rattle.cr_macros.specs.Tokens.{Text, Token, token_of, Gave}
use Rattle.cr_macros.specs.MacroTables.{Macros}
use Rattle.cr_expand.specs.Held.{noted, watch_of}
use Rattle.cr_expand.specs.Slots.{ends}
use Rattle.cr_expand.specs.Frames.{Call}
use Rattle.cr_expand.specs.Machines.{total, still, ahead, IsMachine, IsUse, IsStep, IsAhead, FaultsAtOnce, BothFault, IsTurnStep, IsWantedAt, IsTurnWanted, WantsMore, IsSameRun}
use Rattle.cr_expand.proofs.Noted.{same_watch}

-- The machine gives what it gave at first; it is as it was, or a call waits.
pub record IsSilent (names new : List Text) (macros : Macros) (first now : Machine) : Type 0 where
  pub gives : (more : List Token) → (first.finished ≡ true → more ≡ []) → still names macros first more ≡ still names macros now more
  pub finds : (more : List Token) → (first.finished ≡ true → more ≡ []) → ahead names macros first more ≡ ahead names macros now more
  pub seen : now.notes.seen.items ≡ first.notes.seen.items
  pub names_same : new ≡ names
  pub same : IsSameRun first now
  pub machine : IsMachine names macros now
  pub waits : (now ≡ first) ⊎ (0 < ends now.slots.items)

-- Where a token is wanted at first, no turn was made.
abbrev pub IsFirst : List Text → List Text → Macros → Machine → Machine → Type 0
IsFirst names at macros first mid = WantsMore names macros first → (at ≡ names) × (mid ≡ first)

pub still_wants : (names at : List Text) (macros : Macros) (first mid : Machine) → IsFirst names at macros first mid → WantsMore names macros first → WantsMore at macros mid
still_wants names at macros first mid k w = subst (λ m. WantsMore at macros m) (sym (k w).1) (subst (λ n. WantsMore n macros first) (sym (k w).0) w)

pub silent_first : (names : List Text) (macros : Macros) (m : Machine) → IsMachine names macros m → IsSilent names names macros m m
silent_first names macros m k = record { gives = λ more q. refl; finds = λ more q. refl; seen = refl; names_same = refl; same = (refl, refl, refl, refl); machine = k; waits = inl refl }

pub silent_more : (names at new : List Text) (macros : Macros) (first mid now : Machine) → IsSilent names at macros first mid
    → ((more : List Token) → (mid.finished ≡ true → more ≡ []) → IsTurnStep at new macros mid now more None) → IsTurnWanted at new macros mid now None → IsMachine new macros now → IsSameRun mid now
    → IsSilent names new macros first now
silent_more names at new macros first mid now s t w m r = record {
  gives = λ more q. s.gives more q ∙ ap (λ n. still n macros mid more) (sym s.names_same) ∙ (t more (λ f. q (sym s.same.3 ∙ f))).0 ∙ ap (λ n. still n macros now more) (w.1 ∙ s.names_same);
  finds = λ more q. s.finds more q ∙ ap (λ n. ahead n macros mid more) (sym s.names_same) ∙ (t more (λ f. q (sym s.same.3 ∙ f))).2 ∙ ap (λ n. ahead n macros now more) (w.1 ∙ s.names_same);
  seen = (t [] (λ _. refl)).1 ∙ s.seen;
  names_same = w.1 ∙ s.names_same;
  same = (r.0 ∙ s.same.0, r.1 ∙ s.same.1, r.2 ∙ s.same.2, r.3 ∙ s.same.3);
  machine = subst (λ n. IsMachine n macros now) (w.1 ∙ s.names_same) m;
  waits = inr w.0;
}

same_events : (names : List Text) (first mid : Machine) (e : mid.notes.from ≡ first.notes.from) (f : mid.notes.to ≡ first.notes.to) → watch_of names mid.notes ≡ watch_of names first.notes
same_events names first mid e f = same_watch names mid.notes first.notes e f

use_after : (names new : List Text) (macros : Macros) (first mid now : Machine) (more out : List Token) → still names macros first more ≡ still names macros mid more → mid.notes.seen.items ≡ first.notes.seen.items → IsSameRun first mid
    → IsUse names new macros mid now more out → IsUse names new macros first now more out
use_after names new macros first mid now more out e s r u = record {
  events = u.events;
  one = u.one;
  last = u.last;
  goes = e ∙ u.goes;
  seen = u.seen ∙ ap (λ l. l ++ noted (watch_of names mid.notes) u.events) s ∙ ap (λ w. first.notes.seen.items ++ noted w u.events) (same_events names first mid r.0 r.1);
}

no_call : (cs : List Call) → 0 ≡ total cs → cs ≡ []
no_call [] e = refl
no_call (c ∷ cs) e = absurd (omega arith)

calls_none : (names : List Text) (macros : Macros) (m : Machine) → IsMachine names macros m → 0 < ends m.slots.items → m.frames.items ≡ [] → ⊥
calls_none names macros m k h e = let a = k.ends ∙ ap total e in omega (arith, a, h)

pub step_after : (names at new : List Text) (macros : Macros) (first mid now : Machine) (s : ExpStep) → IsSilent names at macros first mid → IsWantedAt at macros mid s
    → (more : List Token) → (first.finished ≡ true → more ≡ []) → IsStep at new macros mid now more s → IsStep names new macros first now more s
step_after names at new macros first mid now (step.Out t) k w more q (hide, u) =
    (hide, use_after names new macros first mid now more (token_of new hide t ∷ []) (k.gives more q) k.seen k.same (subst (λ n. IsUse n new macros mid now more (token_of new hide t ∷ [])) k.names_same u))
step_after names at new macros first mid now step.More k w more q u = use_after names new macros first mid now more [] (k.gives more q) k.seen k.same (subst (λ n. IsUse n new macros mid now more []) k.names_same u)
step_after names at new macros first mid now step.Hungry k w more q u = by k.waits where
  by : (mid ≡ first) ⊎ (0 < ends mid.slots.items) → (new ≡ names) × (now ≡ first)
  by (inl e) = (u.0 ∙ k.names_same, u.1 ∙ e)
  by (inr h) = absurd (calls_none names macros mid k.machine h w.1)
step_after names at new macros first mid now step.End k w more q u = by k.waits where
  by : (mid ≡ first) ⊎ (0 < ends mid.slots.items) → (new ≡ names) × (now ≡ first) × (still names macros first more ≡ Gave [] (LIMIT - first.used) [])
  by (inl e) = (u.0 ∙ k.names_same, u.1 ∙ e, k.gives more q ∙ ap (λ n. still n macros mid more) (sym k.names_same) ∙ u.2 ∙ ap (λ m. Gave [] (LIMIT - m.used) []) e)
  by (inr h) = absurd (calls_none names macros mid k.machine h w.1)

pub ahead_after : (names at new : List Text) (macros : Macros) (first mid now : Machine) (s : ExpStep) → IsSilent names at macros first mid → IsWantedAt at macros mid s
    → (more : List Token) → (first.finished ≡ true → more ≡ []) → IsAhead at new macros mid now more s → IsAhead names new macros first now more s
unfolding use_after
ahead_after names at new macros first mid now (step.Out t) k w more q a = by (subst (λ n. IsAhead n new macros mid now more (step.Out t)) k.names_same a) where
  by : IsAhead names new macros mid now more (step.Out t) → IsAhead names new macros first now more (step.Out t)
  by (hide, u, rest, e, f) = (hide, use_after names new macros first mid now more (token_of new hide t ∷ []) (k.gives more q) k.seen k.same u, rest, k.finds more q ∙ e, f)
ahead_after names at new macros first mid now step.More k w more q a = by (subst (λ n. IsAhead n new macros mid now more step.More) k.names_same a) where
  by : IsAhead names new macros mid now more step.More → IsAhead names new macros first now more step.More
  by (u, e) = (use_after names new macros first mid now more [] (k.gives more q) k.seen k.same u, k.finds more q ∙ e)
ahead_after names at new macros first mid now step.Hungry k w more q u = by k.waits where
  by : (mid ≡ first) ⊎ (0 < ends mid.slots.items) → (new ≡ names) × (now ≡ first)
  by (inl e) = (u.0 ∙ k.names_same, u.1 ∙ e)
  by (inr h) = absurd (calls_none names macros mid k.machine h w.1)
ahead_after names at new macros first mid now step.End k w more q u = by k.waits where
  by : (mid ≡ first) ⊎ (0 < ends mid.slots.items) → (new ≡ names) × (now ≡ first) × (ahead names macros first more ≡ Gave None (LIMIT - first.used) [])
  by (inl e) = (u.0 ∙ k.names_same, u.1 ∙ e, k.finds more q ∙ ap (λ n. ahead n macros mid more) (sym k.names_same) ∙ u.2 ∙ ap (λ m. Gave None (LIMIT - m.used) []) e)
  by (inr h) = absurd (calls_none names macros mid k.machine h w.1)

pub wanted_after : (names at new : List Text) (macros : Macros) (first mid : Machine) (s : ExpStep) → IsSilent names at macros first mid → IsWantedAt at macros mid s → IsWantedAt names macros first s
wanted_after names at new macros first mid (step.Out t) k w = tt
wanted_after names at new macros first mid step.More k w = tt
wanted_after names at new macros first mid step.Hungry k w = by k.waits where
  by : (mid ≡ first) ⊎ (0 < ends mid.slots.items) → IsWantedAt names macros first step.Hungry
  by (inl e) = subst (λ m. IsWantedAt names macros m step.Hungry) e (subst (λ n. IsWantedAt n macros mid step.Hungry) k.names_same w)
  by (inr h) = absurd (calls_none names macros mid k.machine h w.1)
wanted_after names at new macros first mid step.End k w = by k.waits where
  by : (mid ≡ first) ⊎ (0 < ends mid.slots.items) → IsWantedAt names macros first step.End
  by (inl e) = subst (λ m. IsWantedAt names macros m step.End) e w
  by (inr h) = absurd (calls_none names macros mid k.machine h w.1)

pub faults_after : (names at : List Text) (macros : Macros) (first mid : Machine) (x : ExpandFault) (more : List Token) → IsSilent names at macros first mid → (first.finished ≡ true → more ≡ [])
    → BothFault at macros mid more x → BothFault names macros first more x
faults_after names at macros first mid x more k q f = (
  subst (λ r. FaultsAtOnce r x) (ap (λ n. still n macros mid more) k.names_same ∙ sym (k.gives more q)) f.0,
  subst (λ r. FaultsAtOnce r x) (ap (λ n. ahead n macros mid more) k.names_same ∙ sym (k.finds more q)) f.1,
)
