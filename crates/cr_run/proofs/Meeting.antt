-- One more file, and one more unit.
use Rattle.std.proofs.Common.{◌≡◌, inl, inr, ◌⊎◌, ℕ, ◌+◌, ◌<◌, ◌≤◌, Bool, true, false, List, [], ◌∷◌, ◌++◌, length, Option, Result, sym, ap, ◌∙◌, subst}
use Rattle.std.specs.Prelude.{bytes_eq, if◌then◌else◌, Ok, Err, is_some}
use Rattle.std.specs.List.{list_any}
use Rattle.std.specs.Ordering.{nat_cmp, is_eq}
use Rattle.std.specs.Cmp.Lexicographic.{slice_cmp}
use Rattle.std.specs.Map.{keys_of, lookup}
use Rattle.cr_base.specs.declared.unit.Unit.{Unit as TranslationUnit}
use Rattle.cr_world.specs.Outside.{Files}
use Rattle.cr_run.specs.Survey.{Meaning, files_so_far, size_of, size_at, total_size, is_too_long, is_over, insert_path}
use Rattle.cr_run.specs.Held.{Wanted, IsFound, AreSurveyed, StandsAt, Holds, IfLimit, Adds, Added, Met}
use Rattle.cr_run.specs.declared.survey.Finding.{Finding}
use Rattle.cr_run.specs.declared.survey.Survey.{Survey}
use Rattle.cr_run.specs.declared.refusal.Refusal.{Refusal}
use Rattle.cr_run.specs.declared.refusal.Refusal.TheVariants as refusal
use Rattle.cr_run.proofs.Surveys.{files_more, with_known, with_total, keys_more, over_by_file, over_by_total, within_known, within_new}
use Rattle.cr_facts.specs.FactOrder.{FactsAreOrdered}
use Rattle.cr_run.proofs.Lookups.{found_if, surveyed_more}
use Rattle.cr_run.proofs.Tables.{table_more}

pub if_limit_more : (P Q : Type 0) (r : Refusal) → (P → Q) → IfLimit P r → IfLimit Q r
if_limit_more P Q (refusal.Usage word) more h = h
if_limit_more P Q (refusal.Database text) more h = h
if_limit_more P Q (refusal.ReadFault path) more h = h
if_limit_more P Q refusal.NoSymbol more h = h
if_limit_more P Q (refusal.Reserved name) more h = h
if_limit_more P Q (refusal.Spelling place) more h = h
if_limit_more P Q refusal.OutOfMemory more h = h
if_limit_more P Q refusal.LimitUnits more h = h
if_limit_more P Q refusal.LimitFiles more h = more h
if_limit_more P Q (refusal.UnbuiltOption option) more h = h
if_limit_more P Q (refusal.Unbuilt path) more h = h

-- a file that was found was put to the others
pub added : (meaning : Meaning) (wanted : Wanted) (path copied : List ℕ) (file : Option (List ℕ)) (found : Finding) (number size : ℕ) (before now : Survey) (r : Result (Unit {0}) Refusal)
    → copied ≡ path → number ≡ before.last + 1 → size ≡ size_of file → size ≤ 16777216 → IsFound meaning wanted path file number found → Adds copied found number size before now r → Added meaning wanted path file before now r
added meaning wanted path copied file found number size before now (Ok done) same next is within one h =
    (found, subst (λ k. IsFound meaning wanted path file k found) next one, subst (λ k. Adds path found k (size_of file) before now (Ok done)) next (subst (λ p. Adds p found number (size_of file) before now (Ok done)) same (subst (λ n. Adds copied found number n before now (Ok done)) is h)), subst (λ n. n ≤ 16777216) is within)
added meaning wanted path copied file found number size before now (Err r) same next is within one h =
    if_limit_more (536870912 < before.total + size) ((16777216 < size_of file) ⊎ (536870912 < before.total + size_of file)) r (λ lt. inr (subst (λ n. 536870912 < before.total + n) is lt)) h

module _ (meaning : Meaning) (files : Files) (wanted : Wanted) (done : List TranslationUnit) (u : TranslationUnit) (before : Survey) (h : Holds meaning files wanted done before) where
  -- a file is known just where the code finds it
  pub known_if : (b : Bool) → b ≡ is_some (lookup (λ k. is_eq (slice_cmp nat_cmp u.main k)) before.files.entries) → list_any (bytes_eq u.main) (files_so_far wanted.source done) ≡ b
  known_if b is = sym (is ∙ found_if u.main before.files.entries ∙ ap (list_any (bytes_eq u.main)) h.paths)

  pub met_known : is_too_long (length u.words) ≡ false → list_any (bytes_eq u.main) (files_so_far wanted.source done) ≡ true → Holds meaning files wanted (done ++ u ∷ []) before
  met_known short known =
      let same : files_so_far wanted.source (done ++ u ∷ []) ≡ files_so_far wanted.source done = files_more wanted.source done u ∙ with_known (files_so_far wanted.source done) u.main known in
      record {
        paths = h.paths ∙ sym same;
        each = h.each;
        total = h.total ∙ ap (total_size files) (sym same);
        within = within_known files wanted.source done u h.within short known;
        table = h.table;
      }

  pub met_new : FactsAreOrdered → (now : Survey) (r : Result (Unit {0}) Refusal) → is_too_long (length u.words) ≡ false → list_any (bytes_eq u.main) (files_so_far wanted.source done) ≡ false → Added meaning wanted u.main (files u.main) before now r → Met meaning files wanted (done ++ u ∷ []) now r
  met_new law now (Ok ok) short fresh a =
      let put = a.2 in
      let same : files_so_far wanted.source (done ++ u ∷ []) ≡ insert_path u.main (files_so_far wanted.source done) = files_more wanted.source done u ∙ ap (λ b. if b then files_so_far wanted.source done else insert_path u.main (files_so_far wanted.source done)) fresh in
      let total : total_size files (files_so_far wanted.source (done ++ u ∷ [])) ≡ total_size files (files_so_far wanted.source done) + size_at files u.main = ap (total_size files) (files_more wanted.source done u) ∙ with_total files (files_so_far wanted.source done) u.main fresh in
      let kept : now.total ≡ total_size files (files_so_far wanted.source done) + size_at files u.main = put.1 ∙ ap (λ n. n + size_at files u.main) h.total in
      record {
        paths = ap keys_of put.0 ∙ keys_more u.main a.0.file before.files.entries ∙ ap (insert_path u.main) h.paths ∙ sym same;
        each = subst (AreSurveyed meaning wanted files) (sym put.0) (surveyed_more meaning wanted files u.main a.0.file before.files.entries a.1.0 h.each);
        total = kept ∙ sym total;
        within = within_new files wanted.source done u h.within short fresh a.3 (subst (λ n. n + size_at files u.main ≤ 536870912) h.total put.2);
        table = table_more law (StandsAt meaning wanted files) wanted.key before now u.main a.0 h.table
            (record { numbered = a.1.1.numbered; places = a.1.1.places; told = a.1.1.told; holds = a.1.1.holds; own = a.1.1.own }) put.0 put.3 put.4;
      }
  met_new law now (Err r) short fresh a =
      if_limit_more ((16777216 < size_of (files u.main)) ⊎ (536870912 < before.total + size_of (files u.main))) (is_over files wanted.source (done ++ u ∷ []) ≡ true) r by a
    where
      by : (16777216 < size_of (files u.main)) ⊎ (536870912 < before.total + size_of (files u.main)) → is_over files wanted.source (done ++ u ∷ []) ≡ true
      by (inl lt) = over_by_file files wanted.source done u lt
      by (inr lt) = over_by_total files wanted.source done u fresh (subst (λ n. 536870912 < n + size_of (files u.main)) h.total lt)
