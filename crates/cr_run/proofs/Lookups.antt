-- What the code looks up among the files that it has read.
use Rattle.std.proofs.Common.{◌≡◌, ℕ, Bool, true, false, ◌||◌, List, [], ◌∷◌, Some, None, slice_get, refl, sym, ap, ◌∙◌, subst, zero, suc}
use Rattle.std.specs.Prelude.{bytes_eq, if◌then◌else◌, is_some}
use Rattle.std.specs.List.{list_any}
use Rattle.std.specs.Ordering.{nat_cmp, match_ordering, is_eq}
use Rattle.std.specs.declared.cmp.Ordering.{Ordering}
use Rattle.std.specs.declared.cmp.Ordering.TheVariants.{Less, Equal, Greater}
use Rattle.std.specs.Cmp.Lexicographic.{slice_cmp, texts_ties}
use Rattle.std.specs.Map.{keys_of, lookup}
use Rattle.std.specs.BTreeMap.{insert_entry}
use Rattle.std.proofs.lemmas.Slice.Eq.{bytes_eq-Decides}
use Rattle.cr_base.specs.declared.unit.Unit.{Unit as TranslationUnit}
use Rattle.cr_world.specs.Outside.{Files}
use Rattle.cr_run.specs.Units.{mains}
use Rattle.cr_run.specs.Survey.{Meaning, files_so_far}
use Rattle.cr_run.specs.Held.{Wanted, IsSurveyed, AreSurveyed}
use Rattle.cr_run.specs.declared.survey.Surveyed.{Surveyed}
use Rattle.cr_run.proofs.Surveys.{eq_self, order_any}

abbrev at_path : List ℕ → List ℕ → Bool
at_path p k = is_eq (slice_cmp nat_cmp p k)

-- a path is found just where it is one of the keys
pub found_if : {V : Type 0} (p : List ℕ) (es : List (List ℕ × V)) → is_some (lookup (at_path p) es) ≡ list_any (bytes_eq p) (keys_of es)
found_if p [] = refl
found_if p (e ∷ es) = by (at_path p e.0) (texts_ties p e.0) (found_if p es)
  where
    by : (b : Bool) → bytes_eq p e.0 ≡ b → is_some (lookup (at_path p) es) ≡ list_any (bytes_eq p) (keys_of es) → is_some (if b then Some e.1 else lookup (at_path p) es) ≡ (bytes_eq p e.0 || list_any (bytes_eq p) (keys_of es))
    by true h more = ap (λ b. b || list_any (bytes_eq p) (keys_of es)) (sym h)
    by false h more = more ∙ ap (λ b. b || list_any (bytes_eq p) (keys_of es)) (sym h)

module _ (meaning : Meaning) (wanted : Wanted) (files : Files) where
  -- what is found at a path was found of its file
  pub surveyed_at : (p : List ℕ) (es : List (List ℕ × Surveyed)) (v : Surveyed) → AreSurveyed meaning wanted files es → lookup (at_path p) es ≡ Some v → IsSurveyed meaning wanted p (files p) v
  surveyed_at p [] v h f = let no : None ≡ Some v = f in let bad : ⊥ = cc in absurd bad
  surveyed_at p (e ∷ es) v h f = by (at_path p e.0) (texts_ties p e.0) f (surveyed_at p es v h.1)
    where
      by : (b : Bool) → bytes_eq p e.0 ≡ b → (if b then Some e.1 else lookup (at_path p) es) ≡ Some v → (lookup (at_path p) es ≡ Some v → IsSurveyed meaning wanted p (files p) v) → IsSurveyed meaning wanted p (files p) v
      by true k g more =
          let same : e.1 ≡ v = cc in
          let path : e.0 ≡ p = sym ((bytes_eq-Decides p e.0).0 k) in
          subst (λ x. IsSurveyed meaning wanted p (files p) x) same (subst (λ x. IsSurveyed meaning wanted x (files x) e.1) path h.0)
      by false k g more = more g

  -- and so it is with one more
  pub surveyed_more : (p : List ℕ) (v : Surveyed) (es : List (List ℕ × Surveyed)) → IsSurveyed meaning wanted p (files p) v → AreSurveyed meaning wanted files es → AreSurveyed meaning wanted files (insert_entry (slice_cmp nat_cmp) es p v)
  surveyed_more p v [] one all = (one, tt)
  surveyed_more p v (e ∷ es) one all = by (slice_cmp nat_cmp p e.0) refl (surveyed_more p v es one all.1)
    where
      by : (o : Ordering) → slice_cmp nat_cmp p e.0 ≡ o → AreSurveyed meaning wanted files (insert_entry (slice_cmp nat_cmp) es p v) → AreSurveyed meaning wanted files (match_ordering o ((p, v) ∷ e ∷ es) ((e.0, v) ∷ es) (e ∷ insert_entry (slice_cmp nat_cmp) es p v))
      by Less k more = (one, all)
      by Equal k more = (subst (λ x. IsSurveyed meaning wanted x (files x) v) ((bytes_eq-Decides p e.0).0 (texts_ties p e.0 ∙ ap is_eq k)) one, all.1)
      by Greater k more = (all.0, more)

-- the main file of a unit is among those that the units have come to
pub main_of : (units : List TranslationUnit) (i : ℕ) (u : TranslationUnit) → slice_get units i ≡ Some u → list_any (bytes_eq u.main) (mains units) ≡ true
main_of [] i u h = let no : None ≡ Some u = h in let bad : ⊥ = cc in absurd bad
main_of (x ∷ units) zero u h = let same : x ≡ u = cc in ap (λ b. b || list_any (bytes_eq u.main) (mains units)) (ap (λ z. bytes_eq u.main z.main) same ∙ eq_self u.main)
main_of (x ∷ units) (suc i) u h = ap (λ b. bytes_eq u.main x.main || b) (main_of units i u h) ∙ right (bytes_eq u.main x.main)
  where
    right : (b : Bool) → (b || true) ≡ true
    right true = refl
    right false = refl

pub met : (source : List ℕ) (units : List TranslationUnit) (p : List ℕ) → list_any (bytes_eq p) (mains units) ≡ true → list_any (bytes_eq p) (files_so_far source units) ≡ true
met source units p h = order_any (bytes_eq p) (source ∷ mains units) ∙ ap (λ b. bytes_eq p source || b) h ∙ right (bytes_eq p source)
  where
    right : (b : Bool) → (b || true) ≡ true
    right true = refl
    right false = refl

-- a path that isn't met isn't the source
pub apart_source : (source : List ℕ) (units : List TranslationUnit) (p : List ℕ) → list_any (bytes_eq p) (files_so_far source units) ≡ false → bytes_eq source p ≡ false
apart_source source units p h = by (bytes_eq source p) refl
  where
    first : (a b : Bool) → (a || b) ≡ false → a ≡ false
    first true b g = let bad : ⊥ = cc in absurd bad
    first false b g = refl

    by : (b : Bool) → bytes_eq source p ≡ b → b ≡ false
    by true e =
        let same = (bytes_eq-Decides source p).0 e in
        let other : bytes_eq p source ≡ true = (bytes_eq-Decides p source).1 (sym same) in
        sym other ∙ first (bytes_eq p source) (list_any (bytes_eq p) (mains units)) (sym (order_any (bytes_eq p) (source ∷ mains units)) ∙ h)
    by false e = refl
