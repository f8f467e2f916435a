-- The scope of what is denoted is one.
use Rattle.std.proofs.Common.{◌≡◌, ℕ, ◌≤◌, Option, Some, None, List, length, refl, sym, ap, subst, ◌∙◌, arith}
use Rattle.std.specs.Prelude.{slice_get, MatchOption}
use Rattle.cr_paths.specs.Paths.{path_at, AreDistinct}
use Rattle.cr_declared.specs.declared.rows.Row.{Row}
use Rattle.cr_declared.specs.declared.rows.Slot.{Slot}
use Rattle.cr_groups.specs.declared.groups.Group.{Group}
use Rattle.cr_groups.specs.declared.groups.Sort.TheVariants as sort
use Rattle.cr_groups.specs.Nearest.{NoneAround, IsNearest}
use Rattle.cr_conflicts.specs.Clauses.{IsMeantAt}
use Rattle.cr_groups.proofs.Around.{prefix_one}

module _ (ps : List (List ℕ)) (rows : List Row) (es : List (Slot × Group)) (s : Slot) (before : ℕ) where
  abbrev pub Meant : Option ℕ → ℕ → Type 0
  Meant den q = IsMeantAt ps rows es s before den q

  abbrev pub One : Option ℕ → Option ℕ → Type 0
  One den r = MatchOption r ((q : ℕ) → Meant den q → ⊥) (λ q. Meant den q × ((p : ℕ) → Meant den p → p ≡ q))

  pub meant_none : (den r : Option ℕ) → AreDistinct ps → MatchOption r (NoneAround ps es s before sort.Any) (IsNearest ps es s before sort.Any) → den ≡ None → One den r
  meant_none den r distinct h e = subst (λ z. One z r) (sym e) (by r h)
    where
      by : (r : Option ℕ) → MatchOption r (NoneAround ps es s before sort.Any) (IsNearest ps es s before sort.Any) → One None r
      by None h = λ q n. h q n.around n.there
      by (Some q) h = (
        h,
        λ p n.
            let a : length (path_at ps p) ≤ length (path_at ps q) = h.best p n.around n.there in
            let b : length (path_at ps q) ≤ length (path_at ps p) = n.best q h.around h.there in
            distinct p q n.around.0 h.around.0 (prefix_one (path_at ps p) (path_at ps q) (path_at ps s.path) n.around.1 h.around.1 (omega (arith, a, b))),
      )

  pub meant_some : (den : Option ℕ) (c : ℕ) (x : Row) → slice_get rows c ≡ Some x → den ≡ Some c → One den (Some x.path)
  meant_some den c x at e = subst (λ z. One z (Some x.path)) (sym e) (
    (x, at, refl),
    λ p h.
        let k : Some h.0 ≡ Some x = sym h.1 ∙ at in
        let same : h.0 ≡ x = cc in
        h.2 ∙ ap (λ (z : Row). z.path) same,
  )
