-- Units on their way.
use Rattle.std.proofs.Common.{◌≡◌, ◌≤◌, ◌<◌, ◌+◌, ◌-◌, ℕ, zero, suc, Bool, true, false, List, [], ◌∷◌, ◌++◌, drop, take, length, map, Some, Result, Ok, Err, slice_get, refl, sym, ap, ◌∙◌, subst, arith}
use Rattle.std.specs.Prelude.{slice_index_or, if◌then◌else◌, ◌==◌}
use Rattle.std.specs.List.{Contains}
use Rattle.cr_base.specs.declared.unit.Unit.{Unit as TranslationUnit}
use Rattle.cr_facts.specs.FactOrder.{Facts}
use Rattle.cr_world.specs.Outside.{Rose}
use Rattle.cr_snapshot.specs.declared.known.KnownFile.{KnownFile}
use Rattle.cr_growth.specs.Growth.{is_none}
use Rattle.cr_goal.specs.Refusals.{IfDecided}
use Rattle.cr_goal.specs.declared.refusal.Refused.{Refused}
use Rattle.cr_goal.specs.declared.refusal.Refusal.{Refusal}
use Rattle.cr_goal.specs.declared.refusal.Refusal.TheVariants as refusal
use Rattle.cr_unit_end.specs.declared.unit.UnitEnd.TheVariants as ended
use Rattle.cr_unit_end.specs.UnitEnds.{IsUnitEnd}
use Rattle.cr_survey.specs.Batches.{Surveyed, Tell, none, tells, refuses}
use Rattle.cr_survey.specs.Running.{Comes, AreEnds, IsTold, Want, unit_of, wants_of, want_none}
use Rattle.cr_survey.specs.Refusals.{bad_unit}
use Rattle.cr_survey.specs.declared.running.Running.{Running}

dropped : {X : Type 0} (xs : List X) (i : ℕ) (x : X) → slice_get xs i ≡ Some x → drop i xs ≡ x ∷ drop (suc i) xs
dropped [] i x e = let bad : ⊥ = cc in absurd bad
dropped (y ∷ xs) zero x e = let same : y ≡ x = cc in ap (λ z. z ∷ xs) same
dropped (y ∷ xs) (suc i) x e = dropped xs i x e

pub drop_at : {X : Type 0} (xs : List X) (i : ℕ) (x : X) → slice_get xs i ≡ Some x → drop i xs ≡ x ∷ drop (i + 1) xs
drop_at xs i x e = let next : suc i ≡ i + 1 = omega arith in dropped xs i x e ∙ ap (λ n. x ∷ drop n xs) next

-- one more that ended so
pub ends_more : (files : List KnownFile) (old new : List ℕ) (rs : List Running) (r : Running) → AreEnds files old new rs → IsUnitEnd files r.unit.now old new r.end → AreEnds files old new (rs ++ r ∷ [])
ends_more files old new [] r a e = (e, tt)
ends_more files old new (x ∷ rs) r a e = (a.0, ends_more files old new rs r a.1 e)

pub empty_is_none : (xs : List (List ℕ)) → length xs ≡ 0 → is_none xs ≡ true
empty_is_none [] e = refl
empty_is_none (x ∷ xs) e = absurd (omega (arith, e))

pub some_is_not_none : (xs : List (List ℕ)) → (length xs ≡ 0 → ⊥) → is_none xs ≡ false
some_is_not_none [] e = absurd (e refl)
some_is_not_none (x ∷ xs) e = refl

-- some unit wants more
pub not_settled : (rs : List Running) (i : ℕ) (r : Running) → slice_get rs i ≡ Some r → is_none (wants_of r.end) ≡ false → want_none (drop i rs) ≡ false
not_settled rs i r at some = ap want_none (drop_at rs i r at) ∙ ap (λ (b : Bool). if b then want_none (drop (i + 1) rs) else false) some

-- ---- what wants, in parts

pub at_take : {X : Type 0} (n k : ℕ) (xs : List X) (p : X) → k < length (take n xs) → slice_index_or (take n xs) k p ≡ p → Contains xs p
at_take zero k [] p lt e = absurd (omega (arith, lt))
at_take zero k (x ∷ xs) p lt e = absurd (omega (arith, lt))
at_take (suc n) k [] p lt e = absurd (omega (arith, lt))
at_take (suc n) zero (x ∷ xs) p lt e = (0, omega arith, e)
at_take (suc n) (suc k) (x ∷ xs) p lt e = let h = at_take n k xs p (omega (arith, lt)) e in (suc h.0, omega (arith, h.1), h.2)

in_rest : {X : Type 0} (xs : List X) (p : X) → Contains (drop 1 xs) p → Contains xs p
in_rest [] p h = h
in_rest (x ∷ rest) p h = (suc h.0, omega (arith, h.1), h.2)

pub contains_rest : {X : Type 0} (n : ℕ) (xs : List X) (p : X) → Contains (take n (drop 1 xs)) p → Contains xs p
contains_rest n xs p h = in_rest xs p (at_take n h.0 (drop 1 xs) p h.1 h.2)

pub want_rest : (rs : List Running) (p : List ℕ) → Want (take (length rs - 1) (drop 1 rs)) p → Want rs p
want_rest rs p (r, has, wants) = (r, contains_rest (length rs - 1) rs r has, wants)

pub rose_earlier : (a b c : ℕ) → a ≤ b → Rose b c → Rose a c
rose_earlier a b c h r = omega (arith, h, r)

-- ---- what they tell

pub told_none : (files : List KnownFile) (old new : List ℕ) (rs : List Running) (facts : Facts) → length rs < 1 → Tell old new files (map unit_of rs) facts (Ok (record { files = files; facts = facts }))
told_none files old new [] facts lt = none
told_none files old new (r ∷ rs) facts lt = absurd (omega (arith, lt))

-- the first one tells no more
pub told_bad : {W : Type 0} (seen : W → Surveyed) (files : List KnownFile) (old new : List ℕ) (rs : List Running) (r : Running) (facts : Facts) (result : Result W Refusal) (x y : Refusal) → 1 ≤ length rs → slice_index_or rs 0 r ≡ r
    → result ≡ Err y → y ≡ x → IfDecided (λ d. IsTold files r facts (Err d)) x → AreEnds files old new rs → Comes (Tell old new files (map unit_of rs) facts) seen result
told_bad seen files old new rs r facts result x y le at is same h ends =
    subst (Comes (Tell old new files (map unit_of rs) facts) seen) (sym (is ∙ ap (λ z. Err z) same)) (by rs x le at h ends)
  where
    by : (rs : List Running) (x : Refusal) → 1 ≤ length rs → slice_index_or rs 0 r ≡ r → IfDecided (λ d. IsTold files r facts (Err d)) x → AreEnds files old new rs → IfDecided (λ d. Tell old new files (map unit_of rs) facts (Err d)) x
    by [] x le at h ends = absurd (omega (arith, le))
    by (y ∷ rs) (refusal.Decided d) le at (c, p, is, e) ends =
        let own : IsUnitEnd files y.unit.now old new (ended.Ill c p) = subst (λ z. IsUnitEnd files y.unit.now old new z) (ap (λ (z : Running). z.end) at ∙ is) ends.0 in
        subst (λ z. Tell old new files (map unit_of (y ∷ rs)) facts (Err z)) (ap (λ (z : Running). bad_unit files z.unit.now.number p c) at ∙ sym e) (refuses own)
    by (y ∷ rs) (refusal.ReadFault path) le at h ends = tt
    by (y ∷ rs) refusal.OutOfMemory le at h ends = tt

pub take_whole : {X : Type 0} (xs : List X) → take (length xs) xs ≡ xs
take_whole [] = refl
take_whole (x ∷ xs) = ap (λ l. x ∷ l) (take_whole xs)

pub comes_on : {A V : Type 0} (P Q : Result A Refused → Type 0) (view : V → A) (result : Result V Refusal) → ((x : Result A Refused) → P x → Q x) → Comes P view result → Comes Q view result
comes_on P Q view (Ok v) f h = f (Ok (view v)) h
comes_on P Q view (Err (refusal.Decided d)) f h = f (Err d) h
comes_on P Q view (Err (refusal.ReadFault path)) f h = tt
comes_on P Q view (Err refusal.OutOfMemory) f h = tt

-- the first one tells, and so do the others
pub told_more : (files : List KnownFile) (old new : List ℕ) (rs : List Running) (r : Running) (facts mid now : Facts) (result : Result (Prim.Unit {0}) Refusal) → 1 ≤ length rs → slice_index_or rs 0 r ≡ r
    → IsTold files r facts (Ok mid) → AreEnds files old new rs
    → (AreEnds files old new (take (length rs - 1) (drop 1 rs)) → Comes (Tell old new files (map unit_of (take (length rs - 1) (drop 1 rs))) mid) (λ _. record { files = files; facts = now }) result)
    → Comes (Tell old new files (map unit_of rs) facts) (λ _. record { files = files; facts = now }) result
told_more files old new [] r facts mid now result le at told ends rest = absurd (omega (arith, le))
told_more files old new (y ∷ rs) r facts mid now result le at (more, is, e) ends rest =
    let one : length (y ∷ rs) - 1 ≡ length rs = omega arith in
    let own : IsUnitEnd files y.unit.now old new (ended.Facts more) = subst (λ z. IsUnitEnd files y.unit.now old new z) (ap (λ (z : Running). z.end) at ∙ is) ends.0 in
    let others = subst (λ l. AreEnds files old new l → Comes (Tell old new files (map unit_of l) mid) (λ _. record { files = files; facts = now }) result) (ap (λ n. take n rs) one ∙ take_whole rs) rest in
    comes_on (Tell old new files (map unit_of rs) mid) (Tell old new files (map unit_of (y ∷ rs)) facts) (λ _. record { files = files; facts = now }) result
    (λ x t. tells own (subst (λ z. Tell old new files (map unit_of rs) z x) e t)) (others ends.1)

-- ---- loops over units

map_more : {X Y : Type 0} (f : X → Y) (xs : List X) (x : X) (l : List Y) → map f (xs ++ x ∷ []) ++ l ≡ map f xs ++ f x ∷ l
map_more f [] x l = refl
map_more f (y ∷ xs) x l = ap (λ z. f y ∷ z) (map_more f xs x l)

pub stand_more : (us : List TranslationUnit) (i : ℕ) (u : TranslationUnit) (rs now : List Running) (r : Running) → slice_get us i ≡ Some u → now ≡ rs ++ r ∷ [] → unit_of r ≡ u
    → map unit_of rs ++ drop i us ≡ us → map unit_of now ++ drop (i + 1) us ≡ us
stand_more us i u rs now r at is own held =
    ap (λ l. map unit_of l ++ drop (i + 1) us) is ∙ map_more unit_of rs r (drop (i + 1) us)
    ∙ ap (λ z. map unit_of rs ++ z ∷ drop (i + 1) us) own ∙ ap (λ l. map unit_of rs ++ l) (sym (drop_at us i u at)) ∙ held

pub ends_then : (files : List KnownFile) (old new : List ℕ) (rs now : List Running) (r : Running) → now ≡ rs ++ r ∷ [] → AreEnds files old new rs → IsUnitEnd files r.unit.now old new r.end → AreEnds files old new now
ends_then files old new rs now r is ends own = subst (AreEnds files old new) (sym is) (ends_more files old new rs r ends own)

-- one of the rest ran again
pub again_more : (again now rest rest' all : List Running) (r on : Running) → now ≡ again ++ on ∷ [] → rest ≡ r ∷ rest' → unit_of on ≡ unit_of r
    → map unit_of again ++ map unit_of rest ≡ map unit_of all → map unit_of now ++ map unit_of rest' ≡ map unit_of all
again_more again now rest rest' all r on is was own held =
    ap (λ l. map unit_of l ++ map unit_of rest') is ∙ map_more unit_of again on (map unit_of rest')
    ∙ ap (λ z. map unit_of again ++ z ∷ map unit_of rest') own ∙ ap (λ l. map unit_of again ++ map unit_of l) (sym was) ∙ held

pub settles_false : (rs : List Running) (i : ℕ) (r : Running) (b : Bool) (n : ℕ) → slice_get rs i ≡ Some r → b ≡ (length (wants_of r.end) == 0) → b ≡ false → want_none (drop i rs) ≡ want_none rs → false ≡ want_none rs
settles_false rs i r b n at e f held = by (wants_of r.end) refl
  where
    by : (w : List (List ℕ)) → wants_of r.end ≡ w → false ≡ want_none rs
    by [] is = let bad : ⊥ = subst (λ (w : List (List ℕ)). (length w == 0) ≡ false → ⊥) (sym is) (λ h. cc) (sym e ∙ f) in absurd bad
    by (x ∷ xs) is = sym (not_settled rs i r at (ap is_none is)) ∙ held
