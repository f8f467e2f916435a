-- Batches of the units.
use Rattle.std.proofs.Common.{◌≡◌, ◌≤◌, ◌<◌, ℕ, zero, suc, Bool, true, false, List, [], ◌∷◌, drop, take, length, Some, None, Result, Ok, Err, refl, sym, ap, ◌∙◌, subst, arith}
use Rattle.std.specs.Prelude.{min, ◌==◌, nat_lt}
use Rattle.std.specs.List.{Contains}
use Rattle.std.proofs.lemmas.Bool.Decides.{nat_tests}
use Rattle.cr_base.specs.declared.unit.Unit.{Unit as TranslationUnit}
use Rattle.cr_facts.specs.FactOrder.{Facts}
use Rattle.cr_world.specs.Outside.{Files}
use Rattle.cr_snapshot.specs.declared.known.KnownFile.{KnownFile}
use Rattle.cr_snapshot.specs.declared.snapshot.KnowFault.{KnowFault}
use Rattle.cr_snapshot.specs.declared.snapshot.KnowFault.TheVariants as know
use Rattle.cr_growth.specs.Growth.{IsGrown}
use Rattle.cr_growth.specs.declared.grow.GrowFault.{GrowFault}
use Rattle.cr_growth.specs.declared.grow.GrowFault.TheVariants as fault
use Rattle.cr_goal.specs.Refusals.{IfDecided}
use Rattle.cr_goal.specs.declared.refusal.Refused.{Refused}
use Rattle.cr_goal.specs.declared.refusal.Refusal.{Refusal}
use Rattle.cr_goal.specs.declared.refusal.Refusal.TheVariants as refusal
use Rattle.cr_survey.specs.Batches.{with_words, knows_by, LooksFor, Surveyed, Tell, IsBatch, over, ends, AreSurveyed, done, stops, goes_on}
use Rattle.cr_survey.specs.Running.{Comes, IsOfGrowth, IsOfWords}
use Rattle.cr_survey.proofs.Runs.{at_take}

pub nonzero : (b : Bool) (n : ℕ) → b ≡ (n == 0) → b ≡ false → n ≡ 0 → ⊥
nonzero b n e f z = let t : b ≡ true = subst (λ k. b ≡ (k == 0)) z e in cc

pub zero_at : (b : Bool) (n : ℕ) → b ≡ (n == 0) → b ≡ true → n ≡ 0
zero_at b n e t = let h : (n == 0) ≡ true = sym e ∙ t in grind (arith, nat_tests)

take_le : {X : Type 0} (m : ℕ) (xs : List X) → length xs ≤ m → take m xs ≡ xs
take_le zero [] le = refl
take_le (suc m) [] le = refl
take_le zero (x ∷ xs) le = absurd (omega (arith, le))
take_le (suc m) (x ∷ xs) le = ap (λ l. x ∷ l) (take_le m xs (omega (arith, le)))

drop_le : {X : Type 0} (m : ℕ) (xs : List X) → length xs ≤ m → drop m xs ≡ []
drop_le zero [] le = refl
drop_le (suc m) [] le = refl
drop_le zero (x ∷ xs) le = absurd (omega (arith, le))
drop_le (suc m) (x ∷ xs) le = drop_le m xs (omega (arith, le))

parted : {X : Type 0} (xs : List X) (n : ℕ) → n ≡ min (length xs) 64 → (take n xs ≡ take 64 xs) × (drop n xs ≡ drop 64 xs)
parted xs n e = by (nat_lt 64 (length xs)) refl
  where
    by : (b : Bool) → nat_lt 64 (length xs) ≡ b → (take n xs ≡ take 64 xs) × (drop n xs ≡ drop 64 xs)
    by true h =
        let long : 64 < length xs = grind (arith, nat_tests) in
        let is : n ≡ 64 = omega (arith, e, long) in
        (ap (λ k. take k xs) is, ap (λ k. drop k xs) is)
    by false h =
        let short : length xs ≤ 64 = grind (arith, nat_tests) in
        let all : length xs ≤ n = omega (arith, e, short) in
        (take_le n xs all ∙ sym (take_le 64 xs short), drop_le n xs all ∙ sym (drop_le 64 xs short))

contains_drop : {X : Type 0} (n : ℕ) (xs : List X) (x : X) → Contains (drop n xs) x → Contains xs x
contains_drop zero xs x h = h
contains_drop (suc n) [] x h = h
contains_drop (suc n) (y ∷ xs) x h = let r = contains_drop n xs x h in (suc r.0, omega (arith, r.1), r.2)

pub in_front : (n : ℕ) (xs front : List TranslationUnit) (u : TranslationUnit) → front ≡ take n xs → Contains front u → Contains xs u
in_front n xs front u is h = let k = subst (λ l. Contains l u) is h in at_take n k.0 xs u k.1 k.2

pub in_back : (n : ℕ) (xs back : List TranslationUnit) (u : TranslationUnit) → back ≡ drop n xs → Contains back u → Contains xs u
in_back n xs back u is h = contains_drop n xs u (subst (λ l. Contains l u) is h)

-- what a part of the units wants, all of them want
pub looks_wider : (part units : List TranslationUnit) → ((u : TranslationUnit) → Contains part u → Contains units u) → (p : List ℕ) → LooksFor part p → LooksFor units p
looks_wider part units wider p (files, u, has, wants) = (files, u, wider u has, wants)

module _ (old new : List ℕ) (tree : Files) where
  pub stops_at : (rest batch : List TranslationUnit) (n : ℕ) (files : List KnownFile) (facts : Facts) (d : Refused) → batch ≡ take n rest → n ≡ min (length rest) 64 → (length rest ≡ 0 → ⊥) → IsBatch old new tree batch files facts (Err d) → AreSurveyed old new tree rest files facts (Err d)
  stops_at [] batch n files facts d is e some b = absurd (some refl)
  stops_at (u ∷ us) batch n files facts d is e some b = stops (subst (λ l. IsBatch old new tree l files facts (Err d)) (is ∙ (parted (u ∷ us) n e).0) b)

  pub goes_at : (rest batch back : List TranslationUnit) (n : ℕ) (files : List KnownFile) (facts : Facts) (s : Surveyed) (end : Result Surveyed Refused) → batch ≡ take n rest → back ≡ drop n rest → n ≡ min (length rest) 64 → (length rest ≡ 0 → ⊥)
      → IsBatch old new tree batch files facts (Ok s) → AreSurveyed old new tree back s.files s.facts end → AreSurveyed old new tree rest files facts end
  goes_at [] batch back n files facts s end is then e some b more = absurd (some refl)
  goes_at (u ∷ us) batch back n files facts s end is then e some b more =
      let p = parted (u ∷ us) n e in
      goes_on {s = s} (subst (λ l. IsBatch old new tree l files facts (Ok s)) (is ∙ p.0) b) (subst (λ l. AreSurveyed old new tree l s.files s.facts end) (then ∙ p.1) more)

  pub done_at : (rest : List TranslationUnit) (files : List KnownFile) (facts : Facts) → length rest ≡ 0 → AreSurveyed old new tree rest files facts (Ok (record { files = files; facts = facts }))
  done_at [] files facts e = done
  done_at (u ∷ us) files facts e = absurd (omega (arith, e))

  -- the texts of command words pass a limit
  pub words_over : (batch : List TranslationUnit) (files : List KnownFile) (facts : Facts) (f : KnowFault) (r : Refusal) → (f ≡ know.LimitFiles → with_words batch files ≡ None) → IsOfWords f r → IfDecided (λ d. IsBatch old new tree batch files facts (Err d)) r
  words_over batch files facts know.LimitFiles (refusal.Decided d) limit h =
      subst (λ z. IsBatch old new tree batch files facts (Err z)) (sym h) (over (subst (λ w. knows_by tree batch w None) (sym (limit refl)) refl))
  words_over batch files facts know.LimitFiles (refusal.ReadFault path) limit h = tt
  words_over batch files facts know.LimitFiles refusal.OutOfMemory limit h = tt
  words_over batch files facts know.OutOfMemory r limit h = subst (λ z. IfDecided (λ d. IsBatch old new tree batch files facts (Err d)) z) (sym h) tt

  -- growth passes a limit
  pub growth_over : (batch : List TranslationUnit) (files mid : List KnownFile) (facts : Facts) (f : GrowFault) (r : Refusal) → with_words batch files ≡ Some mid → (f ≡ fault.LimitFiles → IsGrown tree batch mid None) → IsOfGrowth f r → IfDecided (λ d. IsBatch old new tree batch files facts (Err d)) r
  growth_over batch files mid facts fault.LimitFiles (refusal.Decided d) words limit h =
      subst (λ z. IsBatch old new tree batch files facts (Err z)) (sym h) (over (subst (λ w. knows_by tree batch w None) (sym words) (limit refl)))
  growth_over batch files mid facts fault.LimitFiles (refusal.ReadFault path) words limit h = tt
  growth_over batch files mid facts fault.LimitFiles refusal.OutOfMemory words limit h = tt
  growth_over batch files mid facts (fault.ReadFault path) r words limit h = subst (λ z. IfDecided (λ d. IsBatch old new tree batch files facts (Err d)) z) (sym h) tt
  growth_over batch files mid facts fault.OutOfMemory r words limit h = subst (λ z. IfDecided (λ d. IsBatch old new tree batch files facts (Err d)) z) (sym h) tt

  pub batch_ends : (batch us : List TranslationUnit) (files mid more : List KnownFile) (facts : Facts) (end : Result Surveyed Refused) → with_words batch files ≡ Some mid → IsGrown tree batch mid (Some more) → us ≡ batch → Tell old new more us facts end → IsBatch old new tree batch files facts end
  batch_ends batch us files mid more facts end words grown are t =
      ends (subst (λ w. knows_by tree batch w (Some more)) (sym words) grown) (subst (λ l. Tell old new more l facts end) are t)

pub comes_err : {W : Type 0} (P Q : Result Surveyed Refused → Type 0) (seen : W → Surveyed) (result : Result W Refusal) (x y : Refusal) → result ≡ Err y → y ≡ x → ((d : Refused) → P (Err d) → Q (Err d)) → IfDecided (λ d. P (Err d)) x → Comes Q seen result
comes_err P Q seen result x y is same f h = subst (Comes Q seen) (sym (is ∙ ap (λ z. Err z) same)) (by x h)
  where
    by : (x : Refusal) → IfDecided (λ d. P (Err d)) x → IfDecided (λ d. Q (Err d)) x
    by (refusal.Decided d) h = f d h
    by (refusal.ReadFault path) h = tt
    by refusal.OutOfMemory h = tt
