-- What the facts of the files tell, with those of one more.
use Rattle.std.proofs.Common.{◌≡◌, ◌≢◌, ℕ, ◌+◌, ◌<◌, Bool, true, false, ◌||◌, List, [], ◌∷◌, length, Option, Some, None, slice_get, refl, sym, ap, ◌∙◌, subst, arith}
use Rattle.std.specs.Prelude.{◌==◌}
use Rattle.std.specs.List.{list_any}
use Rattle.std.specs.FinSet.{contains, union, contains-union}
use Rattle.std.specs.Ordering.{nat_cmp, match_ordering}
use Rattle.std.specs.declared.cmp.Ordering.{Ordering}
use Rattle.std.specs.declared.cmp.Ordering.TheVariants.{Less, Equal, Greater}
use Rattle.std.specs.Cmp.Lexicographic.{slice_cmp}
use Rattle.std.specs.BTreeMap.{insert_entry}
use Rattle.std.proofs.lemmas.Option.{slice_get-get_or}
use Rattle.cr_small.specs.Keys.{Key}
use Rattle.cr_facts.specs.FactOrder.{Facts, FactsAreOrdered}
use Rattle.cr_facts.specs.declared.fact.Fact.{Fact}
use Rattle.cr_facts.specs.declared.fact.Fact.TheVariants as fact
use Rattle.cr_small_facts.specs.TextFacts.{place, key_over}
use Rattle.cr_small_facts.specs.Places.{ArePlaces}
use Rattle.cr_small_facts.specs.Laws.{PlacesAreOne}
use Rattle.cr_run.specs.Table.{TellsPlaces, TellsNone, IsTold, AreTold, IsTable, IsFinding}
use Rattle.cr_run.specs.Editing.{offsets_of, AllPlaced}
use Rattle.cr_run.specs.declared.survey.Surveyed.{Surveyed}
use Rattle.cr_run.specs.declared.survey.Finding.{Finding}
use Rattle.cr_run.specs.declared.survey.Survey.{Survey}
use Rattle.cr_run.proofs.Surveys.{same_path}

or_false : (a : Bool) → (a || false) ≡ a
or_false true = refl
or_false false = refl

abbrev denotes : ℕ → Key → ℕ → Fact
denotes n key offset = fact.Denotes (place n offset) (key_over 0 key)

module _ (law : FactsAreOrdered) where
  -- further facts that tell nothing of a file
  stays : (s t : Facts) (n : ℕ) (places : List ℕ) (key : Option Key) → TellsPlaces s n places key → TellsNone t n key → TellsPlaces (union s t) n places key
  stays s t n places None a b = tt
  stays s t n places (Some key) a b = record {
    rise = a.rise;
    each = λ o. contains-union law.total s t (denotes n key o) ∙ ap (λ c. c || contains t (denotes n key o)) (a.each o) ∙ ap (λ c. list_any (λ p. o == p) places || c) (b o) ∙ or_false (list_any (λ p. o == p) places);
  }

  -- further facts that tell the places of a file
  joins : (s t : Facts) (n : ℕ) (places : List ℕ) (key : Option Key) → TellsNone s n key → TellsPlaces t n places key → TellsPlaces (union s t) n places key
  joins s t n places None a b = tt
  joins s t n places (Some key) a b = record {
    rise = b.rise;
    each = λ o. contains-union law.total s t (denotes n key o) ∙ ap (λ c. c || contains t (denotes n key o)) (a o) ∙ b.each o;
  }

  none_both : (s t : Facts) (n : ℕ) (key : Option Key) → TellsNone s n key → TellsNone t n key → TellsNone (union s t) n key
  none_both s t n None a b = tt
  none_both s t n (Some key) a b = λ o. contains-union law.total s t (denotes n key o) ∙ ap (λ c. c || contains t (denotes n key o)) (a o) ∙ b o

  module _ (P : List ℕ → Surveyed → List ℕ → Type 0) (key : Option Key) where
    all_later : (s t : Facts) (last : ℕ) (es : List (List ℕ × Surveyed)) → AreTold P key s last es → ((n : ℕ) → n ≢ last + 1 → TellsNone t n key) → AreTold P key (union s t) (last + 1) es
    all_later s t last [] all own = tt
    all_later s t last (e ∷ es) all own = (
      record {
        numbered = omega (arith, all.0.numbered);
        places = all.0.places;
        told = stays s t e.1.number all.0.places key all.0.told (own e.1.number (λ same. absurd (omega (arith, same, all.0.numbered))));
        holds = all.0.holds;
      },
      all_later s t last es all.1 own,
    )

    told_more : (facts : Facts) (last : ℕ) (p : List ℕ) (v : Surveyed) (es : List (List ℕ × Surveyed)) → IsTold P key facts last p v → AreTold P key facts last es → AreTold P key facts last (insert_entry (slice_cmp nat_cmp) es p v)
    told_more facts last p v [] one all = (one, tt)
    told_more facts last p v (e ∷ es) one all = by (slice_cmp nat_cmp p e.0) refl (told_more facts last p v es one all.1)
      where
        by : (o : Ordering) → slice_cmp nat_cmp p e.0 ≡ o → AreTold P key facts last (insert_entry (slice_cmp nat_cmp) es p v)
            → AreTold P key facts last (match_ordering o ((p, v) ∷ e ∷ es) ((e.0, v) ∷ es) (e ∷ insert_entry (slice_cmp nat_cmp) es p v))
        by Less k more = (one, all)
        by Equal k more = (subst (λ x. IsTold P key facts last x v) (same_path p e.0 k) one, all.1)
        by Greater k more = (all.0, more)

    pub table_more : (before now : Survey) (path : List ℕ) (f : Finding) → IsTable P key before → IsFinding P key (before.last + 1) path f
        → now.files.entries ≡ insert_entry (slice_cmp nat_cmp) before.files.entries path f.file → now.last ≡ before.last + 1 → now.facts ≡ union before.facts f.facts → IsTable P key now
    table_more before now path f table one entries last facts =
        let all = union before.facts f.facts in
        let new : IsTold P key all (before.last + 1) path f.file = record {
          numbered = omega (arith, one.numbered);
          places = one.places;
          told = subst (λ n. TellsPlaces all n one.places key) (sym one.numbered) (joins before.facts f.facts (before.last + 1) one.places key (table.fresh (before.last + 1) (omega arith)) one.told);
          holds = one.holds;
        } in
        let told = told_more all (before.last + 1) path f.file before.files.entries new (all_later before.facts f.facts before.last before.files.entries table.told one.own) in
        record {
          told = subst (λ es. AreTold P key now.facts now.last es) (sym entries) (subst (λ n. AreTold P key now.facts n (insert_entry (slice_cmp nat_cmp) before.files.entries path f.file)) (sym last)
              (subst (λ (z : Facts). AreTold P key z (before.last + 1) (insert_entry (slice_cmp nat_cmp) before.files.entries path f.file)) (sym facts) told));
          fresh = λ n later. subst (λ (z : Facts). TellsNone z n key) (sym facts)
              (none_both before.facts f.facts n key (table.fresh n (omega (arith, later, last))) (one.own n (λ same. absurd (omega (arith, later, last, same)))));
        }

module _ (P : List ℕ → Surveyed → List ℕ → Type 0) where
  pub table_start : (key : Option Key) (now : Survey) (path : List ℕ) (f : Finding) → IsFinding P key 0 path f → now.files.entries ≡ (path, f.file) ∷ [] → now.last ≡ 0 → now.facts ≡ f.facts → IsTable P key now
  table_start key now path f one entries last facts =
      let new : IsTold P key f.facts 0 path f.file = record {
        numbered = omega (arith, one.numbered);
        places = one.places;
        told = subst (λ n. TellsPlaces f.facts n one.places key) (sym one.numbered) one.told;
        holds = one.holds;
      } in
      let told : AreTold P key f.facts 0 ((path, f.file) ∷ []) = (new, tt) in
      record {
        told = subst (λ es. AreTold P key now.facts now.last es) (sym entries) (subst (λ n. AreTold P key now.facts n ((path, f.file) ∷ [])) (sym last) (subst (λ (z : Facts). AreTold P key z 0 ((path, f.file) ∷ [])) (sym facts) told));
        fresh = λ n later. subst (λ (z : Facts). TellsNone z n key) (sym facts) (one.own n (λ same. absurd (omega (arith, later, last, same))));
      }

  -- the places that the code gets from the facts are those of each file
  module _ (one : PlacesAreOne) (key : Key) (facts : Facts) (last : ℕ) (lists : List (List ℕ)) (long : length lists ≡ last + 1) (are : (n : ℕ) (offsets : List ℕ) → slice_get lists n ≡ Some offsets → ArePlaces facts n (key_over 0 key) offsets) where
    pub all_placed : (es : List (List ℕ × Surveyed)) → AreTold P (Some key) facts last es → AllPlaced P lists es
    all_placed [] all = tt
    all_placed (e ∷ es) all =
        let within : e.1.number < length lists = omega (arith, all.0.numbered, long) in
        let same = one facts e.1.number (key_over 0 key) all.0.places (offsets_of lists e.1) all.0.told (are e.1.number (offsets_of lists e.1) (slice_get-get_or lists e.1.number [] within)) in
        (within, subst (P e.0 e.1) same all.0.holds, all_placed es all.1)
