-- The first declaration of a name in the present scope.
use Rattle.std.proofs.Common.{◌≡◌, ℕ, zero, suc, ◌+◌, ◌<◌, Bool, true, false, ◌&&◌, Option, Some, None, List, [], ◌∷◌, map, refl, sym, ap, subst, ◌∙◌, arith}
use Rattle.std.specs.Prelude.{option_map, slice_get, position}
use Rattle.std.proofs.lemmas.Bool.{eqb-true, eq-eqb}
use Rattle.cr_base.specs.declared.token.Name.{Name}
use Rattle.cr_scope.specs.declared.Space.{Space}
use Rattle.cr_scope.specs.Declarations.{Entry, same_space, same_name}
use Rattle.cr_scope.specs.Redeclaration.{same_path}
use Rattle.cr_scope.proofs.Paths.{and_both, both_ways, same_path_itself, same_path_true}
use Rattle.cr_paths.specs.Paths.{path_at}
use Rattle.cr_declared.specs.declared.rows.Row.{Row}
use Rattle.cr_declared.specs.declared.rows.Slot.{Slot}
use Rattle.cr_declared.specs.declared.table.Ends.{Ends}
use Rattle.cr_declared.specs.Known.{is_here}
use Rattle.cr_declared.specs.Rows.{slot, is_in, entry_of}
use Rattle.cr_declared.specs.Kept.{find_slot, before, ends_from, IsKept}
use Rattle.cr_declared.proofs.First.{position_is, position_none}
use Rattle.cr_declared.proofs.Looked.{in_parts, parts_in, space_true, space_itself, row_at, at_row}

abbrev Begins : ℕ → Slot → List Row → Option Ends → Type 0
Begins n s xs None = (j : ℕ) (x : Row) → slice_get xs j ≡ Some x → is_in s x ≡ false
Begins n s xs (Some e) =
    (j : ℕ) × (x : Row) × (e.first ≡ n + j) × (slice_get xs j ≡ Some x) × (is_in s x ≡ true) × ((i : ℕ) (y : Row) → i < j → slice_get xs i ≡ Some y → is_in s y ≡ false)

begins : (n : ℕ) (s : Slot) (xs : List Row) → Begins n s xs (ends_from n s xs)
begins n s [] = λ j x at. cc
begins n s (x ∷ xs) = by (is_in s x) refl (ends_from (n + 1) s xs) (begins (n + 1) s xs)
  where
    first_is : (y : Row) (b : Bool) → slice_get (x ∷ xs) 0 ≡ Some y → is_in s x ≡ b → is_in s y ≡ b
    first_is y b at e = (let same : x ≡ y = cc in subst (λ z. is_in s z ≡ b) same e)

    none_of : is_in s x ≡ false → Begins (n + 1) s xs None → (j : ℕ) (y : Row) → slice_get (x ∷ xs) j ≡ Some y → is_in s y ≡ false
    none_of e h zero y at = first_is y false at e
    none_of e h (suc j) y at = h j y at

    none_yet : (d : Ends) → is_in s x ≡ false → (h : Begins (n + 1) s xs (Some d)) → (i : ℕ) (y : Row) → i < suc h.0 → slice_get (x ∷ xs) i ≡ Some y → is_in s y ≡ false
    none_yet d e h zero y lt at = first_is y false at e
    none_yet d e h (suc i) y lt at = h.5 i y (omega (arith, lt)) at

    at_once : (i : ℕ) (y : Row) → i < 0 → slice_get (x ∷ xs) i ≡ Some y → is_in s y ≡ false
    at_once i y lt at = absurd (omega (arith, lt))

    by : (b : Bool) → is_in s x ≡ b → (r : Option Ends) → Begins (n + 1) s xs r → Begins n s (x ∷ xs) (before b n r)
    by false e None h = none_of e h
    by false e (Some d) h = (let l : d.first ≡ (n + 1) + h.0 = h.2 in (suc h.0, h.1, omega arith, h.3, h.4, none_yet d e h))
    by true e None h = (0, x, omega arith, refl, e, at_once)
    by true e (Some d) h = (0, x, omega arith, refl, e, at_once)

module _ (ps : List (List ℕ)) (place function : ℕ) (rows : List Row) (es : List (Slot × Ends)) (ls : List (Name × ℕ)) (kept : IsKept ps place function rows es ls)
    (sp : Space) (name : Name) where
  here_is : (j : ℕ) (y : Row) → slice_get rows j ≡ Some y → is_here (path_at ps place) sp name (entry_of ps y) ≡ is_in (slot place sp name) y
  here_is j y at = both_ways (is_here (path_at ps place) sp name (entry_of ps y)) (is_in (slot place sp name) y) to from
    where
      to : is_here (path_at ps place) sp name (entry_of ps y) ≡ true → is_in (slot place sp name) y ≡ true
      to h =
          let a = and_both (same_space y.decl.space sp) (same_path (path_at ps y.path) (path_at ps place) && same_name y.decl.name name) h in
          let b = and_both (same_path (path_at ps y.path) (path_at ps place)) (same_name y.decl.name name) a.1 in
          let n : y.decl.name.0 ≡ name.0 = eqb-true y.decl.name.0 name.0 b.1 in
          let p : y.path ≡ place = kept.placed.distinct y.path place (kept.found.within j y at) kept.placed.there (same_path_true (path_at ps y.path) (path_at ps place) b.0) in
          parts_in place sp name y p (space_true y.decl.space sp a.0) (λ i. record { 0 = n i })

      from : is_in (slot place sp name) y ≡ true → is_here (path_at ps place) sp name (entry_of ps y) ≡ true
      from h =
          let p = in_parts place sp name y h in
          ap (λ z. same_space z sp && (same_path (path_at ps y.path) (path_at ps place) && same_name y.decl.name name)) p.1
          ∙ ap (λ b. b && (same_path (path_at ps y.path) (path_at ps place) && same_name y.decl.name name)) (space_itself sp)
          ∙ ap (λ z. same_path (path_at ps z) (path_at ps place) && same_name y.decl.name name) (sym p.0)
          ∙ ap (λ b. b && same_name y.decl.name name) (same_path_itself (path_at ps place))
          ∙ eq-eqb y.decl.name.0 name.0 (ap (λ (z : Name). z.0) p.2)

  pub first_is_here : (r : Option Ends) → r ≡ find_slot (slot place sp name) es
      → option_map (λ e. e.first) r ≡ position (is_here (path_at ps place) sp name) (map (entry_of ps) rows)
  first_is_here r found =
      by r (subst (Begins 0 (slot place sp name) rows) (sym (kept.found.here (slot place sp name)) ∙ sym found) (begins 0 (slot place sp name) rows))
    where
      test : Entry → Bool
      test = is_here (path_at ps place) sp name

      none : (i : ℕ) (e : Entry) → slice_get (map (entry_of ps) rows) i ≡ Some e → ((y : Row) → slice_get rows i ≡ Some y → is_in (slot place sp name) y ≡ false) → is_here (path_at ps place) sp name e ≡ false
      none i e at f =
          let r = row_at ps rows i e at in
          ap (is_here (path_at ps place) sp name) r.2 ∙ here_is i r.0 r.1 ∙ f r.0 r.1

      by : (r : Option Ends) → Begins 0 (slot place sp name) rows r → option_map (λ e. e.first) r ≡ position (is_here (path_at ps place) sp name) (map (entry_of ps) rows)
      by None h = sym (position_none (is_here (path_at ps place) sp name) (map (entry_of ps) rows) (λ i e at. none i e at (λ y bt. h i y bt)))
      by (Some d) h =
          let l : d.first ≡ 0 + h.0 = h.2 in
          let s : d.first ≡ h.0 = omega arith in
          sym (position_is (is_here (path_at ps place) sp name) (map (entry_of ps) rows) h.0 (entry_of ps h.1)
          (at_row ps rows h.0 h.1 h.3, here_is h.0 h.1 h.3 ∙ h.4, λ i e lt at. none i e at (λ y bt. h.5 i y lt bt))
          ∙ ap Some (sym s))
