-- The files that units come to, in order, and their limits.
use Rattle.std.proofs.Common.{◌≡◌, ℕ, ◌+◌, ◌<◌, ◌≤◌, Bool, true, false, ◌||◌, List, [], ◌∷◌, ◌++◌, length, refl, sym, ap, ◌∙◌, subst, arith, append_assoc, append-nil}
use Rattle.std.specs.Prelude.{bytes_eq, nat_lt, if◌then◌else◌, fold}
use Rattle.std.specs.List.{list_any}
use Rattle.std.specs.Ordering.{nat_cmp, match_ordering, is_eq}
use Rattle.std.specs.declared.cmp.Ordering.{Ordering}
use Rattle.std.specs.declared.cmp.Ordering.TheVariants.{Less, Equal, Greater}
use Rattle.std.specs.Cmp.Lexicographic.{slice_cmp, texts_ties}
use Rattle.std.specs.Map.{keys_of}
use Rattle.std.specs.BTreeMap.{insert_entry}
use Rattle.std.proofs.lemmas.Bool.Decides.{nat_tests}
use Rattle.std.proofs.lemmas.Slice.Eq.{bytes_eq-Decides}
use Rattle.std.proofs.lemmas.List.{map-append}
use Rattle.std.proofs.lemmas.List.Sums.{sum_by-cons}
use Rattle.std.proofs.lemmas.List.Folds.{list_any-append}
use Rattle.cr_base.specs.declared.unit.Unit.{Unit as TranslationUnit}
use Rattle.cr_world.specs.Outside.{Files}
use Rattle.cr_run.specs.Units.{mains}
use Rattle.cr_run.specs.Survey.{insert_path, with_path, in_order, files_so_far, size_at, total_size, is_too_long, is_over}

pub same_path : (p q : List ℕ) → slice_cmp nat_cmp p q ≡ Equal → p ≡ q
same_path p q e = (bytes_eq-Decides p q).0 (texts_ties p q ∙ ap is_eq e)

pub eq_self : (p : List ℕ) → bytes_eq p p ≡ true
eq_self p = (bytes_eq-Decides p p).1 refl

or_swap : (a b c : Bool) → (a || (b || c)) ≡ (b || (a || c))
or_swap true true c = refl
or_swap true false c = refl
or_swap false b c = refl

or_same : (a b : Bool) → (a || b) ≡ (a || (a || b))
or_same true b = refl
or_same false b = refl

or_right : (a : Bool) → (a || true) ≡ true
or_right true = refl
or_right false = refl

or_false : (a : Bool) → (a || false) ≡ a
or_false true = refl
or_false false = refl

or_assoc : (a b c : Bool) → ((a || b) || c) ≡ (a || (b || c))
or_assoc true b c = refl
or_assoc false b c = refl

-- some path passes a test, with one more path
module _ (P : List ℕ → Bool) where
  pub insert_any : (p : List ℕ) (ps : List (List ℕ)) → list_any P (insert_path p ps) ≡ (P p || list_any P ps)
  insert_any p [] = refl
  insert_any p (q ∷ ps) = by (slice_cmp nat_cmp p q) refl (insert_any p ps)
    where
      by : (o : Ordering) → slice_cmp nat_cmp p q ≡ o → list_any P (insert_path p ps) ≡ (P p || list_any P ps) → list_any P (match_ordering o (p ∷ q ∷ ps) (q ∷ ps) (q ∷ insert_path p ps)) ≡ (P p || (P q || list_any P ps))
      by Less e more = refl
      by Equal e more = ap (λ x. P x || list_any P ps) (sym (same_path p q e)) ∙ or_same (P p) (list_any P ps) ∙ ap (λ x. P p || (P x || list_any P ps)) (same_path p q e)
      by Greater e more = ap (λ b. P q || b) more ∙ or_swap (P q) (P p) (list_any P ps)

  any_at : (p : List ℕ) (ps : List (List ℕ)) → list_any (bytes_eq p) ps ≡ true → P p ≡ true → list_any P ps ≡ true
  any_at p [] h t = let no : false ≡ true = h in let bad : ⊥ = cc in absurd bad
  any_at p (q ∷ ps) h t = by (bytes_eq p q) refl h (λ g. any_at p ps g t)
    where
      by : (b : Bool) → bytes_eq p q ≡ b → (b || list_any (bytes_eq p) ps) ≡ true → (list_any (bytes_eq p) ps ≡ true → list_any P ps ≡ true) → (P q || list_any P ps) ≡ true
      by true e g more = ap (λ b. b || list_any P ps) (ap P (sym ((bytes_eq-Decides p q).0 e)) ∙ t)
      by false e g more = ap (λ b. P q || b) (more g) ∙ or_right (P q)

  pub with_any : (ps : List (List ℕ)) (p : List ℕ) → list_any P (with_path ps p) ≡ (P p || list_any P ps)
  with_any ps p = by (list_any (bytes_eq p) ps) refl
    where
      still : (b : Bool) → P p ≡ b → list_any (bytes_eq p) ps ≡ true → list_any P ps ≡ (b || list_any P ps)
      still true t h = any_at p ps h t
      still false t h = refl

      by : (b : Bool) → list_any (bytes_eq p) ps ≡ b → list_any P (if b then ps else insert_path p ps) ≡ (P p || list_any P ps)
      by true h = still (P p) refl h
      by false h = insert_any p ps

  folded_any : (ps done : List (List ℕ)) → list_any P (fold with_path done ps) ≡ (list_any P ps || list_any P done)
  folded_any [] done = refl
  folded_any (p ∷ ps) done = folded_any ps (with_path done p) ∙ ap (λ b. list_any P ps || b) (with_any done p) ∙ or_swap (list_any P ps) (P p) (list_any P done) ∙ sym (or_assoc (P p) (list_any P ps) (list_any P done))

  pub order_any : (ps : List (List ℕ)) → list_any P (in_order ps) ≡ list_any P ps
  order_any ps = folded_any ps [] ∙ or_false (list_any P ps)

fold_push : {A B : Type 0} (f : B → A → B) (b : B) (xs : List A) (x : A) → fold f b (xs ++ x ∷ []) ≡ f (fold f b xs) x
fold_push f b [] x = refl
fold_push f b (y ∷ xs) x = fold_push f (f b y) xs x

-- the files with those of one more unit
pub files_more : (source : List ℕ) (done : List TranslationUnit) (u : TranslationUnit) → files_so_far source (done ++ u ∷ []) ≡ with_path (files_so_far source done) u.main
files_more source done u = ap (λ ps. in_order (source ∷ ps)) (map-append (λ unit. unit.main) done (u ∷ [])) ∙ fold_push with_path (with_path [] source) (mains done) u.main

insert_total : (files : Files) (p : List ℕ) (ps : List (List ℕ)) → list_any (bytes_eq p) ps ≡ false → total_size files (insert_path p ps) ≡ size_at files p + total_size files ps
insert_total files p [] h = sum_by-cons (size_at files) p []
insert_total files p (q ∷ ps) h = by (slice_cmp nat_cmp p q) refl (insert_total files p ps)
  where
    apart : (b : Bool) → bytes_eq p q ≡ b → (b || list_any (bytes_eq p) ps) ≡ false → (bytes_eq p q ≡ false) × (list_any (bytes_eq p) ps ≡ false)
    apart true e g = let bad : ⊥ = cc in absurd bad
    apart false e g = (e, g)

    by : (o : Ordering) → slice_cmp nat_cmp p q ≡ o → (list_any (bytes_eq p) ps ≡ false → total_size files (insert_path p ps) ≡ size_at files p + total_size files ps) → total_size files (match_ordering o (p ∷ q ∷ ps) (q ∷ ps) (q ∷ insert_path p ps)) ≡ size_at files p + total_size files (q ∷ ps)
    by Less e more = sum_by-cons (size_at files) p (q ∷ ps)
    by Equal e more = let no : true ≡ false = sym (texts_ties p q ∙ ap is_eq e) ∙ (apart (bytes_eq p q) refl h).0 in let bad : ⊥ = cc in absurd bad
    by Greater e more =
        let one = sum_by-cons (size_at files) q (insert_path p ps) in
        let two = sum_by-cons (size_at files) q ps in
        let rest = more (apart (bytes_eq p q) refl h).1 in
        omega (arith, one, two, rest)

pub with_total : (files : Files) (ps : List (List ℕ)) (p : List ℕ) → list_any (bytes_eq p) ps ≡ false → total_size files (with_path ps p) ≡ total_size files ps + size_at files p
with_total files ps p h = ap (λ b. total_size files (if b then ps else insert_path p ps)) h ∙ (let e = insert_total files p ps h in omega (arith, e))

pub with_known : (ps : List (List ℕ)) (p : List ℕ) → list_any (bytes_eq p) ps ≡ true → with_path ps p ≡ ps
with_known ps p h = ap (λ b. if b then ps else insert_path p ps) h

first_true : (a b c : Bool) → a ≡ true → (a || b || c) ≡ true
first_true a b c h = ap (λ w. w || b || c) h

second_true : (a b c : Bool) → b ≡ true → (a || b || c) ≡ true
second_true a b c h = ap (λ w. a || w || c) h ∙ ap (λ w. w || c) (or_right a)

third_true : (a b c : Bool) → c ≡ true → (a || b || c) ≡ true
third_true a b c h = ap (λ w. a || b || w) h ∙ or_right (a || b)

all_false : (a b c : Bool) → a ≡ false → b ≡ false → c ≡ false → (a || b || c) ≡ false
all_false a b c x y z = ap (λ w. w || b || c) x ∙ ap (λ w. w || c) y ∙ z

-- the limits with one more unit
module _ (files : Files) (source : List ℕ) (done : List TranslationUnit) (u : TranslationUnit) where
  abbrev long_words : TranslationUnit → Bool
  long_words unit = is_too_long (length unit.words)

  abbrev long_file : List ℕ → Bool
  long_file path = is_too_long (size_at files path)

  words_more : list_any long_words (done ++ u ∷ []) ≡ (list_any long_words done || long_words u)
  words_more = list_any-append long_words done (u ∷ []) ∙ ap (λ b. list_any long_words done || b) (or_false (long_words u))

  long_more : list_any long_file (files_so_far source (done ++ u ∷ [])) ≡ (long_file u.main || list_any long_file (files_so_far source done))
  long_more = ap (list_any long_file) (files_more source done u) ∙ with_any long_file (files_so_far source done) u.main

  total_more : total_size files (files_so_far source done) ≤ total_size files (files_so_far source (done ++ u ∷ []))
  total_more = subst (λ ps. total_size files (files_so_far source done) ≤ total_size files ps) (sym (files_more source done u)) (by (list_any (bytes_eq u.main) (files_so_far source done)) refl)
    where
      by : (b : Bool) → list_any (bytes_eq u.main) (files_so_far source done) ≡ b → total_size files (files_so_far source done) ≤ total_size files (with_path (files_so_far source done) u.main)
      by true h = let e = ap (total_size files) (with_known (files_so_far source done) u.main h) in omega (arith, e)
      by false h = let e = with_total files (files_so_far source done) u.main h in omega (arith, e)

  abbrev words_now : Bool
  words_now = list_any long_words (done ++ u ∷ [])

  abbrev long_now : Bool
  long_now = list_any long_file (files_so_far source (done ++ u ∷ []))

  abbrev total_now : Bool
  total_now = nat_lt 536870912 (total_size files (files_so_far source (done ++ u ∷ [])))

  pub over_by_words : long_words u ≡ true → is_over files source (done ++ u ∷ []) ≡ true
  over_by_words h = first_true words_now long_now total_now (words_more ∙ ap (λ b. list_any long_words done || b) h ∙ or_right (list_any long_words done))

  pub over_by_file : 16777216 < size_at files u.main → is_over files source (done ++ u ∷ []) ≡ true
  over_by_file h =
      let t : long_file u.main ≡ true = grind (arith, nat_tests) in
      second_true words_now long_now total_now (long_more ∙ ap (λ b. b || list_any long_file (files_so_far source done)) t)

  pub over_by_total : list_any (bytes_eq u.main) (files_so_far source done) ≡ false → 536870912 < total_size files (files_so_far source done) + size_at files u.main → is_over files source (done ++ u ∷ []) ≡ true
  over_by_total fresh h =
      let e : total_size files (files_so_far source (done ++ u ∷ [])) ≡ total_size files (files_so_far source done) + size_at files u.main = ap (total_size files) (files_more source done u) ∙ with_total files (files_so_far source done) u.main fresh in
      third_true words_now long_now total_now (grind (arith, nat_tests))

  parts : is_over files source done ≡ false → (list_any long_words done ≡ false) × (list_any long_file (files_so_far source done) ≡ false) × (nat_lt 536870912 (total_size files (files_so_far source done)) ≡ false)
  parts h = by (list_any long_words done) (list_any long_file (files_so_far source done)) (nat_lt 536870912 (total_size files (files_so_far source done))) h
    where
      by : (a b c : Bool) → (a || b || c) ≡ false → (a ≡ false) × (b ≡ false) × (c ≡ false)
      by false false false h = (refl, refl, refl)
      by true b c h = let bad : ⊥ = cc in absurd bad
      by false true c h = let bad : ⊥ = cc in absurd bad
      by false false true h = let bad : ⊥ = cc in absurd bad

  pub within_known : is_over files source done ≡ false → long_words u ≡ false → list_any (bytes_eq u.main) (files_so_far source done) ≡ true → is_over files source (done ++ u ∷ []) ≡ false
  within_known h short known =
      let p = parts h in
      let same = files_more source done u ∙ with_known (files_so_far source done) u.main known in
      all_false words_now long_now total_now
      (words_more ∙ ap (λ b. b || long_words u) p.0 ∙ short)
      (ap (list_any long_file) same ∙ p.1)
      (ap (λ ps. nat_lt 536870912 (total_size files ps)) same ∙ p.2)

  pub within_new : is_over files source done ≡ false → long_words u ≡ false → list_any (bytes_eq u.main) (files_so_far source done) ≡ false → size_at files u.main ≤ 16777216 → total_size files (files_so_far source done) + size_at files u.main ≤ 536870912 → is_over files source (done ++ u ∷ []) ≡ false
  within_new h short fresh size total =
      let p = parts h in
      let e : total_size files (files_so_far source (done ++ u ∷ [])) ≡ total_size files (files_so_far source done) + size_at files u.main = ap (total_size files) (files_more source done u) ∙ with_total files (files_so_far source done) u.main fresh in
      let s : long_file u.main ≡ false = grind (arith, nat_tests) in
      let t : nat_lt 536870912 (total_size files (files_so_far source (done ++ u ∷ []))) ≡ false = grind (arith, nat_tests) in
      all_false words_now long_now total_now
      (words_more ∙ ap (λ b. b || long_words u) p.0 ∙ short)
      (long_more ∙ ap (λ b. b || list_any long_file (files_so_far source done)) s ∙ p.1)
      t

  -- a limit that is passed stays passed
  pub over_stays : is_over files source done ≡ true → is_over files source (done ++ u ∷ []) ≡ true
  over_stays h = by (list_any long_words done) (list_any long_file (files_so_far source done)) (nat_lt 536870912 (total_size files (files_so_far source done))) refl refl refl h
    where
      by : (a b c : Bool) → list_any long_words done ≡ a → list_any long_file (files_so_far source done) ≡ b → nat_lt 536870912 (total_size files (files_so_far source done)) ≡ c → (a || b || c) ≡ true → is_over files source (done ++ u ∷ []) ≡ true
      by true b c x y z h = first_true words_now long_now total_now (words_more ∙ ap (λ w. w || long_words u) x)
      by false true c x y z h = second_true words_now long_now total_now (long_more ∙ ap (λ w. long_file u.main || w) y ∙ or_right (long_file u.main))
      by false false true x y z h =
          let m = total_more in
          third_true words_now long_now total_now (grind (arith, nat_tests))
      by false false false x y z h = let bad : ⊥ = cc in absurd bad

pub over_stays_behind : (files : Files) (source : List ℕ) (done more : List TranslationUnit) → is_over files source done ≡ true → is_over files source (done ++ more) ≡ true
over_stays_behind files source done [] h = ap (is_over files source) (append-nil done) ∙ h
over_stays_behind files source done (u ∷ more) h =
    ap (is_over files source) (sym (append_assoc done (u ∷ []) more)) ∙ over_stays_behind files source (done ++ u ∷ []) more (over_stays files source done u h)

-- the keys with one more entry
pub keys_more : {V : Type 0} (p : List ℕ) (v : V) (es : List (List ℕ × V)) → keys_of (insert_entry (slice_cmp nat_cmp) es p v) ≡ insert_path p (keys_of es)
keys_more p v [] = refl
keys_more p v (e ∷ es) = by (slice_cmp nat_cmp p e.0) (keys_more p v es)
  where
    by : (o : Ordering) → keys_of (insert_entry (slice_cmp nat_cmp) es p v) ≡ insert_path p (keys_of es) → keys_of (match_ordering o ((p, v) ∷ e ∷ es) ((e.0, v) ∷ es) (e ∷ insert_entry (slice_cmp nat_cmp) es p v)) ≡ match_ordering o (p ∷ e.0 ∷ keys_of es) (e.0 ∷ keys_of es) (e.0 ∷ insert_path p (keys_of es))
    by Less more = refl
    by Equal more = refl
    by Greater more = ap (λ l. e.0 ∷ l) more
