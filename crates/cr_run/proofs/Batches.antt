-- Units in batches.
use Rattle.std.proofs.Common.{◌≡◌, inl, inr, ◌⊎◌, ℕ, zero, suc, ◌+◌, ◌*◌, ◌-◌, ◌<◌, ◌≤◌, Bool, true, false, ◌||◌, List, [], ◌∷◌, ◌++◌, length, take, drop, Option, Some, None, slice_get, refl, sym, ap, ◌∙◌, arith, append_assoc}
use Rattle.std.specs.Prelude.{if◌then◌else◌, Err, codes, bytes_eq, min}
use Rattle.std.specs.Option.{option_or}
use Rattle.std.specs.List.{list_any}
use Rattle.std.proofs.lemmas.List.{map-append, take_all, length-drop}
use Rattle.std.proofs.lemmas.List.Folds.{list_any-append}
use Rattle.cr_base.specs.declared.unit.Unit.{Unit as TranslationUnit}
use Rattle.cr_world.specs.Outside.{Files}
use Rattle.cr_run.specs.Goal.{Refused}
use Rattle.cr_run.specs.Units.{mains, IsMain}
use Rattle.cr_run.specs.Survey.{Meaning, is_over, first_unbuilt, refusal_of_batch, refusal_below, refusal_of_units, batches}
use Rattle.cr_run.specs.Refusals.{IfDecided, refused_of}
use Rattle.cr_run.specs.Held.{Wanted, Holds, IfLimit, AllMet, Met, Settled, Surveys}
use Rattle.cr_run.specs.declared.survey.Survey.{Survey}
use Rattle.cr_run.specs.declared.refusal.Refusal.{Refusal}
use Rattle.cr_run.specs.declared.refusal.Refusal.TheVariants as refusal
use Rattle.cr_run.proofs.Surveys.{over_stays_behind}
use Rattle.cr_run.proofs.Lookups.{met}
use Rattle.cr_run.proofs.Meeting.{if_limit_more}

pub take_more : {X : Type 0} (xs : List X) (i : ℕ) (x : X) → slice_get xs i ≡ Some x → take (suc i) xs ≡ take i xs ++ x ∷ []
take_more [] i x h = let no : None ≡ Some x = h in let bad : ⊥ = cc in absurd bad
take_more (y ∷ xs) zero x h = let same : y ≡ x = cc in ap (λ z. z ∷ []) same
take_more (y ∷ xs) (suc i) x h = ap (λ l. y ∷ l) (take_more xs i x h)

pub taken_on : {X : Type 0} (done xs : List X) (i : ℕ) (x : X) → slice_get xs i ≡ Some x → (done ++ take i xs) ++ x ∷ [] ≡ done ++ take (i + 1) xs
taken_on done xs i x h =
    append_assoc done (take i xs) (x ∷ []) ∙ ap (λ l. done ++ l) (sym (take_more xs i x h)) ∙ ap (λ n. done ++ take n xs) (let e : suc i ≡ i + 1 = omega arith in e)

take_front : {X : Type 0} (xs : List X) (i : ℕ) (x : X) → slice_get xs i ≡ Some x → (rest : List X) × (xs ≡ (take i xs ++ x ∷ []) ++ rest)
take_front [] i x h = let no : None ≡ Some x = h in let bad : ⊥ = cc in absurd bad
take_front (y ∷ xs) zero x h = let same : y ≡ x = cc in (xs, ap (λ z. z ∷ xs) same)
take_front (y ∷ xs) (suc i) x h = let r = take_front xs i x h in (r.0, ap (λ l. y ∷ l) r.1)

-- a limit that one unit of a batch passes is passed by the batch
pub over_batch : (files : Files) (source : List ℕ) (done batch : List TranslationUnit) (i : ℕ) (u : TranslationUnit) → slice_get batch i ≡ Some u → is_over files source ((done ++ take i batch) ++ u ∷ []) ≡ true → is_over files source (done ++ batch) ≡ true
over_batch files source done batch i u h over =
    let r = take_front batch i u h in
    ap (λ l. is_over files source (done ++ l)) r.1
    ∙ ap (is_over files source) (sym (append_assoc done (take i batch ++ u ∷ []) r.0) ∙ ap (λ l. l ++ r.0) (sym (append_assoc done (take i batch) (u ∷ []))))
    ∙ over_stays_behind files source ((done ++ take i batch) ++ u ∷ []) r.0 over

pub met_err : (meaning : Meaning) (files : Files) (wanted : Wanted) (done batch : List TranslationUnit) (i : ℕ) (u : TranslationUnit) (s : Survey) (r : Refusal) → slice_get batch i ≡ Some u
    → Met meaning files wanted ((done ++ take i batch) ++ u ∷ []) s (Err r) → Met meaning files wanted (done ++ batch) s (Err r)
met_err meaning files wanted done batch i u s r h m =
    if_limit_more (is_over files wanted.source ((done ++ take i batch) ++ u ∷ []) ≡ true) (is_over files wanted.source (done ++ batch) ≡ true) r (over_batch files wanted.source done batch i u h) m

-- the refusals of the batches up to one
pub below_stays : (f : ℕ → Option Refused) (n m : ℕ) (r : Refused) → refusal_below f n ≡ Some r → refusal_below f (n + m) ≡ Some r
below_stays f n zero r h = ap (refusal_below f) (let e : n + 0 ≡ n = omega arith in e) ∙ h
below_stays f n (suc m) r h =
    ap (refusal_below f) (let e : n + suc m ≡ suc (n + m) = omega arith in e) ∙ ap (λ o. option_or o (f (n + m))) (below_stays f n m r h)

pub below_now : (f : ℕ → Option Refused) (n : ℕ) (o : Option Refused) → refusal_below f n ≡ None → f n ≡ o → refusal_below f (suc n) ≡ o
below_now f n o h e = ap (λ x. option_or x (f n)) h ∙ by (f n) ∙ e
  where
    by : (x : Option Refused) → option_or None x ≡ x
    by None = refl
    by (Some r) = refl

module _ (meaning : Meaning) (files : Files) (wanted : Wanted) (units : List TranslationUnit) where
  abbrev refusal_at : ℕ → Option Refused
  refusal_at n = refusal_of_batch meaning files wanted.source wanted.new units n

  -- the units up to the end of a batch, and its own
  abbrev pub done_at : ℕ → List TranslationUnit
  done_at n = take (64 * n) units

  abbrev pub batch_at : ℕ → List TranslationUnit
  batch_at n = take 64 (drop (64 * n) units)

  pub up_to : (n : ℕ) → done_at n ++ batch_at n ≡ take (64 * n + 64) units
  up_to n = by (64 * n) 64 units
    where
      by : (a b : ℕ) (xs : List TranslationUnit) → take a xs ++ take b (drop a xs) ≡ take (a + b) xs
      by zero b xs = ap (λ k. take k xs) (let e : b ≡ 0 + b = omega arith in e)
      by (suc a) zero [] = ap (λ k. take {A = TranslationUnit} k []) (let e : suc a ≡ suc a + 0 = omega arith in e)
      by (suc a) (suc b) [] = ap (λ k. take {A = TranslationUnit} k []) (let e : suc (a + suc b) ≡ suc a + suc b = omega arith in e)
      by (suc a) b (x ∷ xs) = ap (λ l. x ∷ l) (by a b xs) ∙ ap (λ k. take k (x ∷ xs)) (let e : suc (a + b) ≡ suc a + b = omega arith in e)

  -- a batch that refuses by a limit
  limit_at : (n : ℕ) → is_over files wanted.source (done_at n ++ batch_at n) ≡ true → refusal_at n ≡ Some (refused_of refusal.LimitFiles)
  limit_at n h =
      ap (λ b. if b then Some (record { status = 19; text = codes "limit: files" }) else first_unbuilt meaning files wanted.new (batch_at n)) (ap (is_over files wanted.source) (sym (up_to n)) ∙ h)

  -- one that is within the limits
  unit_at : (n : ℕ) → is_over files wanted.source (done_at n ++ batch_at n) ≡ false → refusal_at n ≡ first_unbuilt meaning files wanted.new (batch_at n)
  unit_at n h =
      ap (λ b. if b then Some (record { status = 19; text = codes "limit: files" }) else first_unbuilt meaning files wanted.new (batch_at n)) (ap (is_over files wanted.source) (sym (up_to n)) ∙ h)

  refuses : (n : ℕ) (r : Refused) → n < batches units → refusal_below refusal_at n ≡ None → refusal_at n ≡ Some r → refusal_of_units meaning files wanted.source wanted.new units ≡ Some r
  unfolding refusal_of_units
  refuses n r lt none is =
      let e : batches units ≡ suc n + (batches units - suc n) = omega (arith, lt) in
      ap (refusal_below refusal_at) e ∙ below_stays refusal_at (suc n) (batches units - suc n) r (below_now refusal_at n (Some r) none is)

  limit_refuses : (n : ℕ) (r : Refusal) → n < batches units → refusal_below refusal_at n ≡ None → IfLimit (is_over files wanted.source (done_at n ++ batch_at n) ≡ true) r → IfDecided (refusal_of_units meaning files wanted.source wanted.new units ≡ Some (refused_of r)) r
  limit_refuses n (refusal.Usage word) lt none h = absurd h
  limit_refuses n (refusal.Database text) lt none h = absurd h
  limit_refuses n (refusal.ReadFault path) lt none h = tt
  limit_refuses n refusal.NoSymbol lt none h = absurd h
  limit_refuses n (refusal.Reserved name) lt none h = absurd h
  limit_refuses n (refusal.Spelling place) lt none h = absurd h
  limit_refuses n refusal.OutOfMemory lt none h = tt
  limit_refuses n refusal.LimitUnits lt none h = absurd h
  limit_refuses n refusal.LimitFiles lt none h = refuses n (refused_of refusal.LimitFiles) lt none (limit_at n h)
  limit_refuses n (refusal.UnbuiltOption option) lt none h = absurd h
  limit_refuses n (refusal.Unbuilt path) lt none h = absurd h

  pub batch_refuses : (n : ℕ) (r : Refusal) (s : Survey) → n < batches units → refusal_below refusal_at n ≡ None → Met meaning files wanted (done_at n ++ batch_at n) s (Err r) → Surveys meaning files wanted units s (Err r)
  batch_refuses n r s lt none h = limit_refuses n r lt none h

  decided_more : (P Q : Type 0) (r : Refusal) → (P → Q) → IfDecided P r → IfDecided Q r
  decided_more P Q (refusal.Usage word) more h = more h
  decided_more P Q (refusal.Database text) more h = more h
  decided_more P Q (refusal.ReadFault path) more h = tt
  decided_more P Q refusal.NoSymbol more h = more h
  decided_more P Q (refusal.Reserved name) more h = more h
  decided_more P Q (refusal.Spelling place) more h = more h
  decided_more P Q refusal.OutOfMemory more h = tt
  decided_more P Q refusal.LimitUnits more h = more h
  decided_more P Q refusal.LimitFiles more h = more h
  decided_more P Q (refusal.UnbuiltOption option) more h = more h
  decided_more P Q (refusal.Unbuilt path) more h = more h

  pub unit_refuses : (n : ℕ) (r : Refusal) (s : Survey) → n < batches units → refusal_below refusal_at n ≡ None → Holds meaning files wanted (done_at n ++ batch_at n) s → Settled (first_unbuilt meaning files wanted.new (batch_at n)) (Err r) → Surveys meaning files wanted units s (Err r)
  unit_refuses n r s lt none h settled =
      decided_more (first_unbuilt meaning files wanted.new (batch_at n) ≡ Some (refused_of r)) (refusal_of_units meaning files wanted.source wanted.new units ≡ Some (refused_of r)) r (λ is. refuses n (refused_of r) lt none (unit_at n h.within ∙ is)) settled

  pub none_yet : (n : ℕ) (s : Survey) → refusal_below refusal_at n ≡ None → Holds meaning files wanted (done_at n ++ batch_at n) s → first_unbuilt meaning files wanted.new (batch_at n) ≡ None → refusal_below refusal_at (suc n) ≡ None
  none_yet n s none h is = below_now refusal_at n None none (unit_at n h.within ∙ is)

  pub all_met : (n : ℕ) → AllMet wanted.source (done_at n ++ batch_at n) (mains (batch_at n))
  all_met n path h =
      met wanted.source (done_at n ++ batch_at n) path
      (ap (list_any (bytes_eq path)) (map-append (λ unit. unit.main) (done_at n) (batch_at n)) ∙ list_any-append (bytes_eq path) (mains (done_at n)) (mains (batch_at n)) ∙ ap (λ b. list_any (bytes_eq path) (mains (done_at n)) || b) h ∙ right (list_any (bytes_eq path) (mains (done_at n))))
    where
      right : (b : Bool) → (b || true) ≡ true
      right true = refl
      right false = refl

either_way : (a b : ℕ) → (a ≤ b) ⊎ (b ≤ a)
either_way zero b = inl (omega arith)
either_way (suc a) zero = inr (omega arith)
either_way (suc a) (suc b) = by (either_way a b)
  where
    by : (a ≤ b) ⊎ (b ≤ a) → (suc a ≤ suc b) ⊎ (suc b ≤ suc a)
    by (inl h) = inl (omega (arith, h))
    by (inr h) = inr (omega (arith, h))

take_same : {X : Type 0} (xs : List X) (a b : ℕ) → length xs ≤ a → length xs ≤ b → take a xs ≡ take b xs
take_same xs a b p q = take_all a xs p ∙ sym (take_all b xs q)

-- the slice that the code takes is the batch
pub batch_is : (units : List TranslationUnit) (n end : ℕ) → end ≡ min (length units) (64 * n + 64) → 64 * n ≤ length units → take (end - 64 * n) (drop (64 * n) units) ≡ take 64 (drop (64 * n) units)
batch_is units n end e within = by (either_way (64 * n + 64) (length units))
  where
    by : (64 * n + 64 ≤ length units) ⊎ (length units ≤ 64 * n + 64) → take (end - 64 * n) (drop (64 * n) units) ≡ take 64 (drop (64 * n) units)
    by (inl le) = ap (λ k. take k (drop (64 * n) units)) (let k : end - 64 * n ≡ 64 = omega (arith, e, le) in k)
    by (inr le) =
        let size : length (drop (64 * n) units) ≡ length units - 64 * n = length-drop (64 * n) units in
        take_same (drop (64 * n) units) (end - 64 * n) 64 (omega (arith, e, le, size)) (omega (arith, le, size))

pub batch_starts : (units : List TranslationUnit) (n : ℕ) → n < batches units → 64 * n ≤ length units
batch_starts units n lt = omega (arith, lt)

pub batches_end : (units : List TranslationUnit) (n : ℕ) → batches units ≤ n → length units ≤ 64 * n
batches_end units n le = omega (arith, le)

any_take : (p : List ℕ → Bool) (k : ℕ) (xs : List TranslationUnit) → list_any p (mains (take k xs)) ≡ true → list_any p (mains xs) ≡ true
any_take p zero xs h = let no : false ≡ true = h in let bad : ⊥ = cc in absurd bad
any_take p (suc k) [] h = h
any_take p (suc k) (x ∷ xs) h = by (p x.main) h (any_take p k xs)
  where
    by : (b : Bool) → (b || list_any p (mains (take k xs))) ≡ true → (list_any p (mains (take k xs)) ≡ true → list_any p (mains xs) ≡ true) → (b || list_any p (mains xs)) ≡ true
    by true h more = refl
    by false h more = more h

any_drop : (p : List ℕ → Bool) (k : ℕ) (xs : List TranslationUnit) → list_any p (mains (drop k xs)) ≡ true → list_any p (mains xs) ≡ true
any_drop p zero xs h = h
any_drop p (suc k) [] h = h
any_drop p (suc k) (x ∷ xs) h = by (p x.main) (any_drop p k xs h)
  where
    by : (b : Bool) → list_any p (mains xs) ≡ true → (b || list_any p (mains xs)) ≡ true
    by true h = refl
    by false h = h

-- the main file of a unit of a slice is one of all
pub main_in_slice : (k n : ℕ) (xs : List TranslationUnit) (path : List ℕ) → IsMain (take k (drop n xs)) path → IsMain xs path
main_in_slice k n xs path h = any_drop (bytes_eq path) n xs (any_take (bytes_eq path) k (drop n xs) h)
