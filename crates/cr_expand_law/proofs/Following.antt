-- Work that follows other work: it gives the same, seen through a renaming.
use Rattle.std.proofs.Common.{◌≡◌, ℕ, ◌-◌, Bool, true, false, cond, List, [], ◌∷◌, ◌++◌, map, refl, ap, sym, ◌∙◌, subst}
use Rattle.std.specs.Prelude.{nat_lt}
use Rattle.std.specs.List.{AllByRecursion}
use Rattle.std.proofs.lemmas.List.{map-append}
use Rattle.cr_macros.specs.Tokens.{Event, Rule, Over, Answer, Gave, Stopped, Work, after, then_do, ◌>>=◌, give, note, pay}
use Rattle.cr_expand_law.specs.Renaming.{Renaming, renamed_event, IsHarmless}

abbrev pub renamed_events : Renaming → List Event → List Event
renamed_events r = map (renamed_event r)

-- where the old work gives a value with harmless events, the new work gives the same, seen through v
abbrev pub Follows : {A : Type 0} → Renaming → (A → A) → Answer A → Answer A → Type 0
Follows r v (Gave a left events) s = AllByRecursion (IsHarmless r) events → s ≡ Gave (v a) left (renamed_events r events)
Follows r v (Stopped cause stopped) s = Unit {0}

pub record Sim {A : Type 0} (r : Renaming) (v : A → A) (m n : Work A) : Type 0 where
  pub at : (left : ℕ) → Follows r v (m left) (n left)

pub harmless_left : (r : Renaming) (xs ys : List Event) → AllByRecursion (IsHarmless r) (xs ++ ys) → AllByRecursion (IsHarmless r) xs
harmless_left r [] ys h = tt
harmless_left r (x ∷ xs) ys h = (h.0, harmless_left r xs ys h.1)

pub harmless_right : (r : Renaming) (xs ys : List Event) → AllByRecursion (IsHarmless r) (xs ++ ys) → AllByRecursion (IsHarmless r) ys
harmless_right r [] ys h = h
harmless_right r (x ∷ xs) ys h = harmless_right r xs ys h.1

follows_then : {A B : Type 0} (r : Renaming) (v : A → A) (w : B → B) (p q : Answer A) (f g : A → Work B) → Follows r v p q → ((a : A) → Sim r w (f a) (g (v a))) → Follows r w (then_do p f) (then_do q g)
follows_then {B = B} r v w (Gave a left events) q f g h k = go (f a left) refl where
  go : (p : Answer B) → f a left ≡ p → Follows r w (after events p) (then_do q g)
  go (Stopped cause stopped) e = tt
  go (Gave b rest more) e = λ fine.
      ap (λ x. then_do x g) (h (harmless_left r events more fine))
      ∙ ap (after (renamed_events r events)) (subst (λ x. Follows r w x (g (v a) left)) e ((k a).at left) (harmless_right r events more fine))
      ∙ ap (λ x. Gave (w b) rest x) (sym (map-append (renamed_event r) events more))
follows_then r v w (Stopped cause stopped) q f g h k = tt

pub sim_then : {A B : Type 0} (r : Renaming) (v : A → A) (w : B → B) (m n : Work A) (f g : A → Work B) → Sim r v m n → ((a : A) → Sim r w (f a) (g (v a))) → Sim r w (m >>= f) (n >>= g)
sim_then r v w m n f g h k = record { at = λ left. follows_then r v w (m left) (n left) f g (h.at left) k }

pub sim_give : {A : Type 0} (r : Renaming) (v : A → A) (a : A) → Sim r v (give a) (give (v a))
sim_give r v a = record { at = λ left fine. refl }

pub sim_to : {A : Type 0} (r : Renaming) (v : A → A) (m n p : Work A) → n ≡ p → Sim r v m p → Sim r v m n
sim_to r v m n p e h = subst (Sim r v m) (sym e) h

pub sim_note : {A : Type 0} (r : Renaming) (v : A → A) (events more : List Event) (a : A) → more ≡ renamed_events r events → Sim r v (note events a) (note more (v a))
sim_note r v events more a e = record { at = λ left fine. ap (Gave (v a) left) e }

pub sim_pay : {A : Type 0} (r : Renaming) (v : A → A) (n : ℕ) (a : A) → Sim r v (pay n a) (pay n (v a))
sim_pay {A} r v n a = record { at = λ left. go left (nat_lt left n) } where
  go : (left : ℕ) (b : Bool) → Follows r v (cond b (Stopped Over []) (Gave a (left - n) (Rule ∷ []))) (cond b (Stopped Over []) (Gave (v a) (left - n) (Rule ∷ [])))
  go left true = tt
  go left false = λ fine. refl

-- work that always sees an event that does harm
abbrev pub Harms : {A : Type 0} → Renaming → Answer A → Type 0
Harms r (Gave a left events) = AllByRecursion (IsHarmless r) events → ⊥
Harms r (Stopped cause stopped) = Unit {0}

pub record Never {A : Type 0} (r : Renaming) (m : Work A) : Type 0 where
  pub at : (left : ℕ) → Harms r (m left)

harms_first : {A B : Type 0} (r : Renaming) (p : Answer A) (f : A → Work B) → Harms r p → Harms r (then_do p f)
harms_first {B = B} r (Gave a left events) f h = go (f a left) where
  go : (p : Answer B) → Harms r (after events p)
  go (Gave b rest more) = λ fine. h (harmless_left r events more fine)
  go (Stopped cause stopped) = tt
harms_first r (Stopped cause stopped) f h = tt

harms_then : {A B : Type 0} (r : Renaming) (p : Answer A) (f : A → Work B) → ((a : A) → Never r (f a)) → Harms r (then_do p f)
harms_then {B = B} r (Gave a left events) f h = go (f a left) ((h a).at left) where
  go : (p : Answer B) → Harms r p → Harms r (after events p)
  go (Gave b rest more) k = λ fine. k (harmless_right r events more fine)
  go (Stopped cause stopped) k = tt
harms_then r (Stopped cause stopped) f h = tt

pub never_first : {A B : Type 0} (r : Renaming) (m : Work A) (f : A → Work B) → Never r m → Never r (m >>= f)
never_first r m f h = record { at = λ left. harms_first r (m left) f (h.at left) }

pub never_then : {A B : Type 0} (r : Renaming) (m : Work A) (f : A → Work B) → ((a : A) → Never r (f a)) → Never r (m >>= f)
never_then r m f h = record { at = λ left. harms_then r (m left) f h }

pub sim_never : {A : Type 0} (r : Renaming) (v : A → A) (m n : Work A) → Never r m → Sim r v m n
sim_never {A = A} r v m n h = record { at = λ left. go (m left) (n left) (h.at left) } where
  go : (p q : Answer A) → Harms r p → Follows r v p q
  go (Gave a left events) q k = λ fine. absurd (k fine)
  go (Stopped cause stopped) q k = tt
