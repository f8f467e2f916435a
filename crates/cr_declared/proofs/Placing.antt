-- Scopes that are entered and left.
use Rattle.std.proofs.Common.{◌≡◌, ◌≢◌, ℕ, zero, suc, ◌<◌, cond, eqb, List, [], ◌∷◌, ◌++◌, length, take, map, refl, sym, ap, subst, ◌∙◌, arith}
use Rattle.cr_base.specs.declared.token.Name.{Name}
use Rattle.cr_scope.specs.declared.Space.{Space}
use Rattle.cr_scope.specs.declared.Space.TheVariants as space
use Rattle.cr_scope.specs.Declarations.{path_for}
use Rattle.cr_scope.specs.Linkage.{linked}
use Rattle.cr_scope.proofs.Paths.{not_zero}
use Rattle.cr_paths.specs.Paths.{path_at, AreDistinct, Grows}
use Rattle.cr_declared.specs.declared.rows.Row.{Row}
use Rattle.cr_declared.specs.declared.rows.Slot.{Slot}
use Rattle.cr_declared.specs.declared.table.Ends.{Ends}
use Rattle.cr_declared.specs.Rows.{entry_of, AreApart, AreFormed}
use Rattle.cr_declared.specs.Kept.{number_for, ArePlaced, AreFound}
use Rattle.cr_declared.proofs.Looked.{rows_keep}

take_one : (p : List ℕ) (k : ℕ) → p ≢ [] → take 1 (p ++ k ∷ []) ≡ take 1 p
take_one [] k h = absurd (h refl)
take_one (a ∷ p) k h = refl

-- where paths keep their numbers, declarations stay
pub found_grows : (ps qs : List (List ℕ)) (rows : List Row) (es : List (Slot × Ends)) (ls : List (Name × ℕ)) → Grows ps qs → AreFound ps rows es ls → AreFound qs rows es ls
found_grows ps qs rows es ls g h =
    let same : map (entry_of qs) rows ≡ map (entry_of ps) rows = rows_keep ps qs rows g h.within in
    record {
      within = λ i x at. (g x.path (h.within i x at)).0;
      here = h.here;
      linked = λ n. h.linked n ∙ ap (linked n) (sym same);
      apart = subst AreApart (sym same) h.apart;
      formed = subst AreFormed (sym same) h.formed;
    }

module _ (ps : List (List ℕ)) (place function : ℕ) (placed : ArePlaced ps place function) where
  not_file : 0 < place → path_at ps place ≢ []
  not_file lt e =
      let l : 0 < length ps = (let t = placed.there in omega arith) in
      let z : place ≡ 0 = placed.distinct place 0 placed.there l (e ∙ sym placed.file_scope) in
      omega arith

  pub placed_inside : (qs : List (List ℕ)) (k inner : ℕ) → Grows ps qs → AreDistinct qs → inner < length qs → path_at qs inner ≡ path_at ps place ++ k ∷ []
      → ArePlaced qs inner (cond (eqb place 0) inner function)
  placed_inside qs k inner g distinct lt path =
      let l : 0 < length ps = (let t = placed.there in omega arith) in
      record {
        there = lt;
        distinct = distinct;
        file_scope = (g 0 l).1 ∙ placed.file_scope;
        outer_there = (by place refl).0;
        outermost = (by place refl).1;
      }
    where
      by : (n : ℕ) → place ≡ n → (cond (eqb n 0) inner function < length qs) × (path_at qs (cond (eqb n 0) inner function) ≡ take 1 (path_at qs inner))
      by zero e =
          let empty : path_at ps place ≡ [] = ap (path_at ps) e ∙ placed.file_scope in
          let one : path_at qs inner ≡ k ∷ [] = path ∙ ap (λ p. p ++ k ∷ []) empty in
          (lt, one ∙ ap (take 1) (sym one))
      by (suc n) e =
          let f = g function placed.outer_there in
          subst (λ b. (cond b inner function < length qs) × (path_at qs (cond b inner function) ≡ take 1 (path_at qs inner))) (sym (not_zero n))
          (f.0, f.1 ∙ placed.outermost ∙ sym (take_one (path_at ps place) k (not_file (omega arith))) ∙ ap (take 1) (sym path))

  pub placed_around : (outer : ℕ) → outer < length ps → (0 < place → (k : ℕ) × (path_at ps place ≡ path_at ps outer ++ k ∷ [])) → (place ≡ 0 → path_at ps outer ≡ [])
      → ArePlaced ps outer (cond (eqb outer 0) 0 function)
  placed_around outer lt inner file =
      record {
        there = lt;
        distinct = placed.distinct;
        file_scope = placed.file_scope;
        outer_there = (by outer refl).0;
        outermost = (by outer refl).1;
      }
    where
      by : (n : ℕ) → outer ≡ n → (cond (eqb n 0) 0 function < length ps) × (path_at ps (cond (eqb n 0) 0 function) ≡ take 1 (path_at ps outer))
      by zero e = (omega arith, placed.file_scope ∙ ap (take 1) (sym (ap (path_at ps) e ∙ placed.file_scope)))
      by (suc n) e =
          subst (λ b. (cond b 0 function < length ps) × (path_at ps (cond b 0 function) ≡ take 1 (path_at ps outer))) (sym (not_zero n)) (within place refl)
        where
          full : path_at ps outer ≢ []
          full h =
              let z : outer ≡ 0 = placed.distinct outer 0 lt (omega arith) (h ∙ sym placed.file_scope) in
              omega arith

          within : (m : ℕ) → place ≡ m → (function < length ps) × (path_at ps function ≡ take 1 (path_at ps outer))
          within zero h = absurd (full (file h))
          within (suc m) h =
              let r = inner (omega arith) in
              (placed.outer_there, placed.outermost ∙ ap (take 1) r.1 ∙ take_one (path_at ps outer) r.0 full)

-- the number of a declaration's path is that of its path
pub number_is : (ps : List (List ℕ)) (place function : ℕ) → ArePlaced ps place function → (sp : Space)
    → (number_for place function sp < length ps) × (path_at ps (number_for place function sp) ≡ path_for (path_at ps place) sp)
number_is ps place function h space.Label = (h.outer_there, h.outermost)
number_is ps place function h space.Tag = (h.there, refl)
number_is ps place function h space.Ordinary = (h.there, refl)
