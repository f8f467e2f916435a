-- What an event does to a sound unit.
use Rattle.std.proofs.Common.{◌≡◌, ◌≤◌, ◌⊎◌, inl, inr, ℕ, zero, suc, ◌+◌, Bool, true, false, not, ◌&&◌, ◌||◌, ◌==◌, refl, ap, ◌∙◌, arith}
use Rattle.std.specs.Prelude.{nat_le, nat_lt, if◌then◌else◌, replicate}
use Rattle.std.specs.List.{list_all}
use Rattle.std.proofs.lemmas.Bool.Decides.{nat_tests}
use Rattle.cr_core.specs.declared.progress.Holders.{Holders}
use Rattle.cr_core.specs.declared.progress.Holders.TheVariants.{Nobody, One, Two}
use Rattle.cr_core.specs.declared.progress.Progress.{Progress}
use Rattle.cr_core.specs.declared.Why.{Why}
use Rattle.cr_core.specs.declared.Why.TheVariants.{Struck, Memory, Undriven, Cancelled}
use Rattle.cr_core.specs.Assignment.{untouched, is_spent, is_open, is_unheld, is_held_once_by_another, is_held_by, joined_by, left_by, when_assigned, when_answered, when_lost, strikes_after, dry_after, may_lose}
use Rattle.cr_core.specs.Sound.{is_sound, holder_count}

pub and_true : (a b : Bool) → (a && b) ≡ true → (a ≡ true) × (b ≡ true)
and_true true b e = (refl, e)
and_true false b e = cc

pub both_true : (a b : Bool) → a ≡ true → b ≡ true → (a && b) ≡ true
both_true a b p q = ap (λ x. x && b) p ∙ q

-- a sound unit by its numbers
pub record Sound (retries : ℕ) (x : Progress) : Type 0 where
  pub counted : holder_count x.holders + x.strikes ≤ x.assigned
  pub bounded : x.assigned ≤ retries + 2
  pub exact : x.is_answered ≡ false → x.is_dry ≡ false → x.assigned ≡ holder_count x.holders + x.strikes

or_exact : (a b c : Bool) → (a || b || c) ≡ true → a ≡ false → b ≡ false → c ≡ true
or_exact true b c e na nb = cc
or_exact false true c e na nb = cc
or_exact false false c e na nb = e

pub sound_is : (retries : ℕ) (x : Progress) → is_sound retries x ≡ true → Sound retries x
sound_is retries x e =
    let p = and_true (nat_le (holder_count x.holders + x.strikes) x.assigned) _ e in
    let q = and_true (nat_le x.assigned (retries + 2)) _ p.1 in
    record {
      counted = grind (arith, nat_tests, p.0);
      bounded = grind (arith, nat_tests, q.0);
      exact = λ na nd. let h = or_exact x.is_answered x.is_dry (x.assigned == holder_count x.holders + x.strikes) q.1 na nd in grind (arith, nat_tests, h);
    }

exact_or : (a b c : Bool) → (a ≡ false → b ≡ false → c ≡ true) → (a || b || c) ≡ true
exact_or true b c h = refl
exact_or false true c h = refl
exact_or false false c h = h refl refl

pub is_sound_of : (retries : ℕ) (x : Progress) → Sound retries x → is_sound retries x ≡ true
is_sound_of retries x s =
    both_true (nat_le (holder_count x.holders + x.strikes) x.assigned) _
    (let h = s.counted in grind (arith, nat_tests))
    (both_true (nat_le x.assigned (retries + 2)) _
    (let h = s.bounded in grind (arith, nat_tests))
    (exact_or x.is_answered x.is_dry (x.assigned == holder_count x.holders + x.strikes) (λ na nd. let h = s.exact na nd in grind (arith, nat_tests))))

-- an open unit
pub record Opened (retries : ℕ) (x : Progress) : Type 0 where
  pub unanswered : x.is_answered ≡ false
  pub wet : x.is_dry ≡ false
  pub unspent : x.strikes ≤ retries

not_true : (a : Bool) → not a ≡ true → a ≡ false
not_true true e = cc
not_true false e = refl

unspent_of : (answered : Bool) (retries strikes : ℕ) → answered ≡ false → not (not answered && nat_lt retries strikes) ≡ true → strikes ≤ retries
unspent_of true retries strikes a h = cc
unspent_of false retries strikes a h = grind (arith, nat_tests, h)

pub open_is : (retries : ℕ) (x : Progress) → is_open retries x ≡ true → Opened retries x
open_is retries x e =
    let p = and_true (not x.is_answered) _ e in
    let q = and_true (not (is_spent retries x)) _ p.1 in
    record { unanswered = not_true _ p.0; wet = not_true _ q.1; unspent = unspent_of x.is_answered retries x.strikes (not_true _ p.0) q.0 }

pub joined_count : (w : ℕ) (h : Holders) → ((is_unheld h ≡ true) ⊎ (is_held_once_by_another w h ≡ true)) → (holder_count h ≤ 1) × (holder_count (joined_by w h) ≡ holder_count h + 1)
joined_count w Nobody e = (omega arith, refl)
joined_count w (One v) e = (omega arith, refl)
joined_count w (Two v u) e = elim e [ inl a ↦ cc | inr b ↦ cc ]

left_one : (v w : ℕ) (b : Bool) → b ≡ true → holder_count (if b then Nobody else One v) + 1 ≡ 1
left_one v w true e = refl
left_one v w false e = cc

left_two : (v u : ℕ) (a b : Bool) → (a || b) ≡ true → holder_count (if a then One u else if b then One v else Two v u) + 1 ≡ 2
left_two v u true b e = refl
left_two v u false true e = refl
left_two v u false false e = cc

pub left_count : (w : ℕ) (h : Holders) → is_held_by w h ≡ true → holder_count (left_by w h) + 1 ≡ holder_count h
left_count w Nobody e = cc
left_count w (One v) e = left_one v w (v == w) e
left_count w (Two v u) e = left_two v u (v == w) (u == w) e

-- what each event does to a sound unit

pub sound_assigned : (retries w : ℕ) (x : Progress) → is_open retries x ≡ true → ((is_unheld x.holders ≡ true) ⊎ (is_held_once_by_another w x.holders ≡ true)) → is_sound retries x ≡ true → is_sound retries (when_assigned w x) ≡ true
sound_assigned retries w x may free sound =
    let o = open_is retries x may in
    let s = sound_is retries x sound in
    let j = joined_count w x.holders free in
    let n = s.exact o.unanswered o.wet in
    is_sound_of retries (when_assigned w x) (record {
      counted = omega (arith, n, j.1);
      bounded = omega (arith, n, j.0, o.unspent);
      exact = λ na nd. omega (arith, n, j.1);
    })

pub sound_answered : (retries w : ℕ) (x : Progress) → is_held_by w x.holders ≡ true → is_sound retries x ≡ true → is_sound retries (when_answered w x) ≡ true
sound_answered retries w x held sound =
    let s = sound_is retries x sound in
    let j = left_count w x.holders held in
    is_sound_of retries (when_answered w x) (record {
      counted = omega (arith, s.counted, j);
      bounded = s.bounded;
      exact = λ na nd. cc;
    })

lost_counted : (why : Why) (held after strikes assigned : ℕ) → after + 1 ≡ held → held + strikes ≤ assigned → after + strikes_after why strikes ≤ assigned
lost_counted Struck held after strikes assigned e h = omega (arith, e, h)
lost_counted Memory held after strikes assigned e h = omega (arith, e, h)
lost_counted Undriven held after strikes assigned e h = omega (arith, e, h)
lost_counted Cancelled held after strikes assigned e h = omega (arith, e, h)

lost_exact : (why : Why) (held after strikes assigned : ℕ) (answered dry : Bool) → after + 1 ≡ held → may_lose why answered ≡ true
    → (answered ≡ false → dry ≡ false → assigned ≡ held + strikes) → answered ≡ false → dry_after why dry ≡ false → assigned ≡ after + strikes_after why strikes
lost_exact Struck held after strikes assigned answered dry e c h na nd = let k = h na nd in omega (arith, e, k)
lost_exact Memory held after strikes assigned answered dry e c h na nd = cc
lost_exact Undriven held after strikes assigned answered dry e c h na nd = cc
lost_exact Cancelled held after strikes assigned answered dry e c h na nd = cc

pub sound_lost : (retries w : ℕ) (why : Why) (x : Progress) → is_held_by w x.holders ≡ true → may_lose why x.is_answered ≡ true → is_sound retries x ≡ true → is_sound retries (when_lost w why x) ≡ true
sound_lost retries w why x held may sound =
    let s = sound_is retries x sound in
    let j = left_count w x.holders held in
    is_sound_of retries (when_lost w why x) (record {
      counted = lost_counted why _ _ _ _ j s.counted;
      bounded = s.bounded;
      exact = lost_exact why _ _ _ _ x.is_answered x.is_dry j may s.exact;
    })

pub sound_untouched : (retries n : ℕ) → list_all (is_sound retries) (replicate n untouched) ≡ true
sound_untouched retries zero = refl
sound_untouched retries (suc n) = both_true (is_sound retries untouched) _ (is_sound_of retries untouched (record { counted = omega arith; bounded = omega arith; exact = λ na nd. refl })) (sound_untouched retries n)
