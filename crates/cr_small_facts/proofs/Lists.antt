-- Lists of offsets, one for each file.
use Rattle.std.proofs.Common.{◌≡◌, ℕ, ◌<◌, Bool, true, false, List, [], ◌∷◌, ◌++◌, length, map, Some, None, slice_get, get_or, refl, sym, ap, ◌∙◌, zero, suc, arith, append_assoc, append-nil, eq-eqb, eqb-true}
use Rattle.std.specs.Prelude.{◌==◌, if◌then◌else◌, slice_set, slice_index_or}
use Rattle.std.proofs.lemmas.List.{map-set, get_or-map}
use Rattle.cr_base.specs.declared.token.Place.{Place}
use Rattle.cr_base.specs.declared.key.Key.{Key}
use Rattle.cr_facts.specs.declared.fact.Fact.{Fact}
use Rattle.cr_small_facts.specs.Filing.{place_of, offset_if, offsets_among, with_place}

-- a list that gains a place
pub placed_in : {V : Type 0} (view : V → List ℕ) (lists : List V) (p : Place) (d v : V) → p.path.0 < length lists → view v ≡ view (get_or lists p.path.0 d) ++ p.offset ∷ []
    → map view (slice_set lists p.path.0 v) ≡ with_place p (map view lists)
placed_in view lists p d v within grown =
    map-set view lists p.path.0 v
    ∙ ap (slice_set (map view lists) p.path.0) (grown ∙ ap (λ ns. ns ++ p.offset ∷ []) (sym (get_or-map view lists p.path.0 d [] within)))

-- a place in no file
pub placed_out : (lists : List (List ℕ)) (p : Place) → (p.path.0 < length lists → ⊥) → with_place p lists ≡ lists
placed_out lists p out = set_past lists p.path.0 (slice_index_or lists p.path.0 [] ++ p.offset ∷ []) out
  where
    set_past : (ls : List (List ℕ)) (i : ℕ) (l : List ℕ) → (i < length ls → ⊥) → slice_set ls i l ≡ ls
    set_past [] i l h = refl
    set_past (x ∷ ls) zero l h = absurd (h (omega arith))
    set_past (x ∷ ls) (suc i) l h = ap (λ t. x ∷ t) (set_past ls i l (λ lt. h (omega (arith, lt))))

set_own : (ls : List (List ℕ)) (i : ℕ) (l now : List ℕ) → slice_get (slice_set ls i l) i ≡ Some now → (slice_get ls i ≡ Some (slice_index_or ls i [])) × (now ≡ l)
set_own [] i l now h = let bad : ⊥ = cc in absurd bad
set_own (x ∷ ls) zero l now h = let same : l ≡ now = cc in (refl, sym same)
set_own (x ∷ ls) (suc i) l now h = set_own ls i l now h

set_other : (ls : List (List ℕ)) (i n : ℕ) (l : List ℕ) → (n ≡ i → ⊥) → slice_get (slice_set ls i l) n ≡ slice_get ls n
set_other [] i n l h = refl
set_other (x ∷ ls) zero zero l h = absurd (h refl)
set_other (x ∷ ls) zero (suc n) l h = refl
set_other (x ∷ ls) (suc i) zero l h = refl
set_other (x ∷ ls) (suc i) (suc n) l h = set_other ls i n l (λ e. h (ap suc e))

-- what stands in the list of a file afterwards
pub placed_at : (lists : List (List ℕ)) (p : Place) (n : ℕ) (now : List ℕ) → slice_get (with_place p lists) n ≡ Some now
    → (before : List ℕ) × (slice_get lists n ≡ Some before) × (now ≡ before ++ offset_if n (Some p))
placed_at lists p n now h = by (n == p.path.0) refl
  where
    more : List ℕ
    more = slice_index_or lists p.path.0 [] ++ p.offset ∷ []

    by : (b : Bool) → (n == p.path.0) ≡ b → (before : List ℕ) × (slice_get lists n ≡ Some before) × (now ≡ before ++ (if b then p.offset ∷ [] else []))
    by true e =
        let here : n ≡ p.path.0 = eqb-true n p.path.0 e in
        let k = set_own lists p.path.0 more now (ap (slice_get (with_place p lists)) (sym here) ∙ h) in
        (slice_index_or lists p.path.0 [], ap (slice_get lists) here ∙ k.0, k.1)
    by false e =
        let apart : n ≡ p.path.0 → ⊥ = λ same. (let no : true ≡ false = sym (eq-eqb n p.path.0 same) ∙ e in cc) in
        (now, sym (set_other lists p.path.0 n more apart) ∙ h, sym (append-nil now))

-- the places so far and those of the facts that are left are all
abbrev pub AreFiled : Key → List Fact → List Fact → List (List ℕ) → Type 0
AreFiled key all left lists = (n : ℕ) (now : List ℕ) → slice_get lists n ≡ Some now → now ++ offsets_among n key left ≡ offsets_among n key all

module _ (key : Key) (all left : List Fact) (f : Fact) where
  pub filed_none : (lists : List (List ℕ)) → AreFiled key all (f ∷ left) lists → place_of key f ≡ None → AreFiled key all left lists
  filed_none lists h e n now at = ap (λ o. now ++ (offset_if n o ++ offsets_among n key left)) (sym e) ∙ h n now at

  pub filed_some : (lists more : List (List ℕ)) (p : Place) → AreFiled key all (f ∷ left) lists → place_of key f ≡ Some p → more ≡ with_place p lists → AreFiled key all left more
  filed_some lists more p h e is n now at =
      let k = placed_at lists p n now (ap (λ ls. slice_get ls n) (sym is) ∙ at) in
      ap (λ ns. ns ++ offsets_among n key left) k.2
      ∙ append_assoc k.0 (offset_if n (Some p)) (offsets_among n key left)
      ∙ ap (λ o. k.0 ++ (offset_if n o ++ offsets_among n key left)) (sym e)
      ∙ h n k.0 k.1

pub filed_all : (key : Key) (all : List Fact) (lists : List (List ℕ)) → ((n : ℕ) (now : List ℕ) → slice_get lists n ≡ Some now → now ≡ []) → AreFiled key all all lists
filed_all key all lists empty n now at = ap (λ ns. ns ++ offsets_among n key all) (empty n now at)

-- lists that are empty, with one more

pub empty_more : (lists : List (List ℕ)) → ((n : ℕ) (now : List ℕ) → slice_get lists n ≡ Some now → now ≡ []) → (n : ℕ) (now : List ℕ) → slice_get (lists ++ [] ∷ []) n ≡ Some now → now ≡ []
empty_more [] h zero now at = let same : [] ≡ now = cc in sym same
empty_more [] h (suc n) now at = let bad : ⊥ = cc in absurd bad
empty_more (l ∷ lists) h zero now at = h zero now at
empty_more (l ∷ lists) h (suc n) now at = empty_more lists (λ k. h (suc k)) n now at
