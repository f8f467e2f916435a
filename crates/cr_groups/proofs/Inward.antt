-- The search outward for the innermost and the outermost scope of a kind.
use Rattle.std.proofs.Common.{◌≡◌, ◌⊎◌, inl, inr, ℕ, ◌+◌, ◌<◌, ◌≤◌, true, Option, Some, None, List, [], ◌∷◌, ◌++◌, length, sym, ap, subst, ◌∙◌, arith, length-append}
use Rattle.std.specs.Prelude.{MatchOption}
use Rattle.std.proofs.lemmas.Bool.{cases_lt}
use Rattle.cr_scope.specs.Declarations.{is_prefix}
use Rattle.cr_scope.proofs.Paths.{prefix_refl, prefix_more}
use Rattle.cr_paths.specs.Paths.{path_at, AreDistinct}
use Rattle.cr_groups.specs.Outward.{Encloses}
use Rattle.cr_groups.proofs.Around.{prefix_length, prefix_one, prefix_through}

-- no scope around that is deeper has what is sought
pub record Left (ps : List (List ℕ)) (place : ℕ) (Found : ℕ → Type 0) (at : ℕ) : Type 0 where
  pub there : at < length ps
  pub around : is_prefix (path_at ps at) (path_at ps place) ≡ true
  pub left : (q : ℕ) → Encloses ps q place → Found q → length (path_at ps q) ≤ length (path_at ps at)

-- of those that are deeper the outermost one is known
abbrev pub IsBest : List (List ℕ) → ℕ → (ℕ → Type 0) → ℕ → ℕ → Type 0
IsBest ps place Found deep b =
    Encloses ps b place × Found b × (deep < length (path_at ps b))
    × ((q : ℕ) → Encloses ps q place → Found q → deep < length (path_at ps q) → length (path_at ps b) ≤ length (path_at ps q))

abbrev pub NoneDeeper : List (List ℕ) → ℕ → (ℕ → Type 0) → ℕ → Type 0
NoneDeeper ps place Found deep = (q : ℕ) → Encloses ps q place → Found q → deep < length (path_at ps q) → ⊥

pub record Passed (ps : List (List ℕ)) (place : ℕ) (Found : ℕ → Type 0) (at : ℕ) (best : Option ℕ) : Type 0 where
  pub there : at < length ps
  pub around : is_prefix (path_at ps at) (path_at ps place) ≡ true
  pub known : MatchOption best (NoneDeeper ps place Found (length (path_at ps at))) (IsBest ps place Found (length (path_at ps at)))

module _ (ps : List (List ℕ)) (place : ℕ) (Found : ℕ → Type 0) (distinct : AreDistinct ps) where
  one_at : (at q : ℕ) → at < length ps → is_prefix (path_at ps at) (path_at ps place) ≡ true → Encloses ps q place → length (path_at ps q) ≡ length (path_at ps at) → q ≡ at
  one_at at q lt around enc e = distinct q at enc.0 lt (prefix_one (path_at ps q) (path_at ps at) (path_at ps place) enc.1 around e)

  step_around : (at o k : ℕ) → is_prefix (path_at ps at) (path_at ps place) ≡ true → path_at ps at ≡ path_at ps o ++ k ∷ [] → is_prefix (path_at ps o) (path_at ps place) ≡ true
  step_around at o k around step =
      prefix_through (path_at ps o) (path_at ps at) (path_at ps place) (subst (λ z. is_prefix (path_at ps o) z ≡ true) (sym step) (prefix_more (path_at ps o) (path_at ps o) (k ∷ []) (prefix_refl (path_at ps o)))) around

  pub left_at_once : place < length ps → Left ps place Found place
  left_at_once lt = record { there = lt; around = prefix_refl (path_at ps place); left = λ q e f. prefix_length (path_at ps q) (path_at ps place) e.1 }

  pub left_outward : (at o k : ℕ) → Left ps place Found at → (Found at → ⊥) → o < length ps → path_at ps at ≡ path_at ps o ++ k ∷ [] → Left ps place Found o
  left_outward at o k r not lt step =
      let n : length (path_at ps at) ≡ length (path_at ps o) + 1 = ap length step ∙ length-append (path_at ps o) (k ∷ []) in
      record {
        there = lt;
        around = step_around at o k r.around step;
        left = λ q e f.
            let l : length (path_at ps q) ≤ length (path_at ps at) = r.left q e f in
            elim (cases_lt (length (path_at ps q)) (length (path_at ps at))) [
              | inl m ↦ omega (arith, m, n)
              | inr ge ↦ absurd (not (subst Found (one_at at q r.there r.around e (omega (arith, l, ge))) f))
            ];
      }

  pub left_nowhere : (at : ℕ) → Left ps place Found at → (Found at → ⊥) → path_at ps at ≡ [] → (q : ℕ) → Encloses ps q place → Found q → ⊥
  left_nowhere at r not file q e f =
      let l : length (path_at ps q) ≤ length (path_at ps at) = r.left q e f in
      let z : length (path_at ps at) ≡ 0 = ap length file in
      not (subst Found (one_at at q r.there r.around e (omega (arith, l, z))) f)

  pub passed_at_once : place < length ps → Passed ps place Found place None
  passed_at_once lt = record {
    there = lt;
    around = prefix_refl (path_at ps place);
    known = λ q e f d. let l : length (path_at ps q) ≤ length (path_at ps place) = prefix_length (path_at ps q) (path_at ps place) e.1 in omega (arith, l, d);
  }

  pub passed_outward : (at o k : ℕ) (best best' : Option ℕ) → Passed ps place Found at best → ((Found at × (best' ≡ Some at)) ⊎ ((Found at → ⊥) × (best' ≡ best))) → o < length ps → path_at ps at ≡ path_at ps o ++ k ∷ [] → Passed ps place Found o best'
  passed_outward at o k best best' r h lt step =
      let n : length (path_at ps at) ≡ length (path_at ps o) + 1 = ap length step ∙ length-append (path_at ps o) (k ∷ []) in
      record {
        there = lt;
        around = step_around at o k r.around step;
        known = elim h [
          | inl x ↦ subst (λ z. MatchOption z (NoneDeeper ps place Found (length (path_at ps o))) (IsBest ps place Found (length (path_at ps o)))) (sym x.1)
              ((r.there, r.around), x.0, omega (arith, n), λ q e f d. omega (arith, n, d))
          | inr x ↦ subst (λ z. MatchOption z (NoneDeeper ps place Found (length (path_at ps o))) (IsBest ps place Found (length (path_at ps o)))) (sym x.1)
              (by best r.known x.0 n)
        ];
      }
    where
      by : (b : Option ℕ) → MatchOption b (NoneDeeper ps place Found (length (path_at ps at))) (IsBest ps place Found (length (path_at ps at))) → (Found at → ⊥) → length (path_at ps at) ≡ length (path_at ps o) + 1
          → MatchOption b (NoneDeeper ps place Found (length (path_at ps o))) (IsBest ps place Found (length (path_at ps o)))
      by None g not n = λ q e f d.
          elim (cases_lt (length (path_at ps at)) (length (path_at ps q))) [
            | inl m ↦ g q e f m
            | inr ge ↦ not (subst Found (one_at at q r.there r.around e (omega (arith, d, ge, n))) f)
          ]
      by (Some b) g not n = (let m : length (path_at ps at) < length (path_at ps b) = g.2 in (
        g.0,
        g.1,
        omega (arith, m, n),
        λ q e f d.
            elim (cases_lt (length (path_at ps at)) (length (path_at ps q))) [
              | inl l ↦ g.3 q e f l
              | inr ge ↦ absurd (not (subst Found (one_at at q r.there r.around e (omega (arith, d, ge, n))) f))
            ],
      ))

  -- all scopes were passed
  pub passed_all : (at : ℕ) (best best' : Option ℕ) → Passed ps place Found at best → ((Found at × (best' ≡ Some at)) ⊎ ((Found at → ⊥) × (best' ≡ best))) → path_at ps at ≡ []
      → MatchOption best' ((q : ℕ) → Encloses ps q place → Found q → ⊥) (λ b. Encloses ps b place × Found b × ((q : ℕ) → Encloses ps q place → Found q → length (path_at ps b) ≤ length (path_at ps q)))
  passed_all at best best' r h file =
      let z : length (path_at ps at) ≡ 0 = ap length file in
      elim h [
        | inl x ↦ subst (λ z. MatchOption z None' Some') (sym x.1) ((r.there, r.around), x.0, λ q e f. omega (arith, z))
        | inr x ↦ subst (λ z. MatchOption z None' Some') (sym x.1) (by best r.known x.0 z)
      ]
    where
      None' : Type 0
      None' = (q : ℕ) → Encloses ps q place → Found q → ⊥

      Some' : ℕ → Type 0
      Some' b = Encloses ps b place × Found b × ((q : ℕ) → Encloses ps q place → Found q → length (path_at ps b) ≤ length (path_at ps q))

      by : (b : Option ℕ) → MatchOption b (NoneDeeper ps place Found (length (path_at ps at))) (IsBest ps place Found (length (path_at ps at))) → (Found at → ⊥) → length (path_at ps at) ≡ 0 → MatchOption b None' Some'
      by None g not z = λ q e f.
          elim (cases_lt (length (path_at ps at)) (length (path_at ps q))) [
            | inl m ↦ g q e f m
            | inr ge ↦ not (subst Found (one_at at q r.there r.around e (omega (arith, ge, z))) f)
          ]
      by (Some b) g not z = (
        g.0,
        g.1,
        λ q e f.
            elim (cases_lt (length (path_at ps at)) (length (path_at ps q))) [
              | inl m ↦ g.3 q e f m
              | inr ge ↦ absurd (not (subst Found (one_at at q r.there r.around e (omega (arith, ge, z))) f))
            ],
      )
