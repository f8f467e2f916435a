-- Work and then more work.
use Rattle.std.proofs.Common.{◌≡◌, ℕ, List, ◌++◌, refl, sym, ap, ◌∙◌, append_assoc, append-nil, inl, inr}
use Rattle.cr_macros.specs.declared.macros.Seen.{Seen}
use Rattle.cr_macros.specs.declared.fault.ExpandFault.{ExpandFault}
use Rattle.cr_macros.specs.declared.fault.ExpandFault.TheVariants as fault
use Rattle.cr_macros.specs.Tokens.{Event, Answer, Gave, Stopped, Work, after, then_do, ◌>>=◌, give, fail, note, Cause}
use Rattle.cr_expand.specs.Held.{Watch, noted, Tells, IsCause, Faults, Does, Stops}
use Rattle.cr_expand.proofs.Noted.{noted_append}

tells_after : {A : Type 0} (w : Watch) (s0 s1 s2 : List Seen) (events : List Event) (r : Answer A) (v : A) (l : ℕ) → s1 ≡ s0 ++ noted w events → Tells w s1 s2 r v l → Tells w s0 s2 (after events r) v l
tells_after w s0 s1 s2 events (Gave a left more) v l e h = (
  h.0,
  h.1,
  h.2 ∙ ap (λ s. s ++ noted w more) e ∙ append_assoc s0 (noted w events) (noted w more) ∙ ap (λ s. s0 ++ s) (sym (noted_append w events more)),
)
tells_after w s0 s1 s2 events (Stopped cause stopped) v l e h = h

pub tells_then : {A B : Type 0} (w : Watch) (s0 s1 s2 : List Seen) (r : Answer A) (f : A → Work B) (a : A) (b : B) (l m : ℕ) → Tells w s0 s1 r a l → Tells w s1 s2 (f a l) b m → Tells w s0 s2 (then_do r f) b m
tells_then w s0 s1 s2 (Gave x left events) f a b l m h k =
    subst2 w s0 s1 s2 events f a x b l left m h.0 h.1 h.2 k where
      subst2 : {A B : Type 0} (w : Watch) (s0 s1 s2 : List Seen) (events : List Event) (f : A → Work B) (a x : A) (b : B) (l left m : ℕ) → x ≡ a → left ≡ l → s1 ≡ s0 ++ noted w events → Tells w s1 s2 (f a l) b m → Tells w s0 s2 (after events (f x left)) b m
      subst2 w s0 s1 s2 events f a x b l left m e g n k =
          tells_after w s0 s1 s2 events (f x left) b m n (rw (e, g) k)
tells_then w s0 s1 s2 (Stopped cause stopped) f a b l m h k = absurd h

faults_after : {A : Type 0} (events : List Event) (r : Answer A) (e : ExpandFault) → Faults r e → Faults (after events r) e
faults_after events (Gave a left more) e h = h
faults_after events (Stopped cause stopped) e h = h

pub no_memory : {A : Type 0} (r : Answer A) → Faults r fault.OutOfMemory
no_memory (Gave a left events) = refl
no_memory (Stopped cause stopped) = inr refl

pub faults_first : {A B : Type 0} (r : Answer A) (f : A → Work B) (e : ExpandFault) → Faults r e → Faults (then_do r f) e
faults_first (Gave a left events) f e h = rw h (no_memory (after events (f a left)))
faults_first (Stopped cause stopped) f e h = h

pub faults_then : {A B : Type 0} (w : Watch) (s0 s1 : List Seen) (r : Answer A) (f : A → Work B) (a : A) (l : ℕ) (e : ExpandFault) → Tells w s0 s1 r a l → Faults (f a l) e → Faults (then_do r f) e
faults_then w s0 s1 (Gave x left events) f a l e h k = faults_after events (f x left) e (rw (h.0, h.1) k)
faults_then w s0 s1 (Stopped cause stopped) f a l e h k = absurd h

pub does_then : {A B : Type 0} (w : Watch) (s0 s1 s2 : List Seen) (m : Work A) (f : A → Work B) (a : A) (b : B) → Does w s0 s1 m a → Does w s1 s2 (f a) b → Does w s0 s2 (m >>= f) b
does_then w s0 s1 s2 m f a b h k = record { at = λ left. tells_then w s0 s1 s2 (m left) f a b left left (h.at left) (k.at left) }

pub does_give : {A : Type 0} (w : Watch) (s : List Seen) (a : A) → Does w s s (give a) a
does_give w s a = record { at = λ left. (refl, refl, sym (append-nil s)) }

pub does_note : {A : Type 0} (w : Watch) (s0 s1 : List Seen) (events : List Event) (a : A) → s1 ≡ s0 ++ noted w events → Does w s0 s1 (note events a) a
does_note w s0 s1 events a e = record { at = λ left. (refl, refl, e) }

pub stops_first : {A B : Type 0} (m : Work A) (f : A → Work B) (e : ExpandFault) → Stops m e → Stops (m >>= f) e
stops_first m f e h = record { at = λ left. faults_first (m left) f e (h.at left) }

pub stops_then : {A B : Type 0} (w : Watch) (s0 s1 : List Seen) (m : Work A) (f : A → Work B) (a : A) (e : ExpandFault) → Does w s0 s1 m a → Stops (f a) e → Stops (m >>= f) e
stops_then w s0 s1 m f a e h k = record { at = λ left. faults_then w s0 s1 (m left) f a left e (h.at left) (k.at left) }

pub stops_memory : {A : Type 0} (m : Work A) → Stops m fault.OutOfMemory
stops_memory m = record { at = λ left. no_memory (m left) }

pub stops_fail : {A : Type 0} (cause : Cause) (e : ExpandFault) → IsCause cause e → Stops (fail {A = A} cause) e
stops_fail cause e h = record { at = λ left. inl h }
