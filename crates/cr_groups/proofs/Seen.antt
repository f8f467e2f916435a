-- What is visible under one of the names, by the groups of slots.
use Rattle.std.proofs.Common.{◌≡◌, ℕ, ◌<◌, ◌≤◌, true, Option, Some, None, List, [], map, refl, sym, subst, arith}
use Rattle.std.specs.Prelude.{slice_get}
use Rattle.cr_base.specs.declared.token.Name.{Name}
use Rattle.cr_scope.specs.declared.Space.{Space}
use Rattle.cr_scope.specs.declared.DeclNo.{DeclNo}
use Rattle.cr_scope.specs.Declarations.{Entry, Flat, number, is_prefix}
use Rattle.cr_capture.specs.Conflicts.{Shows}
use Rattle.cr_binding.specs.Source.{Source}
use Rattle.cr_binding.specs.State.{Declaration, State}
use Rattle.cr_binding.specs.Entities.{entry}
use Rattle.cr_binding.specs.UnitConflicts.{scopes_at, AreScopesAt}
use Rattle.cr_paths.specs.Paths.{path_at}
use Rattle.cr_declared.specs.declared.rows.Row.{Row}
use Rattle.cr_declared.specs.declared.rows.UseRow.{UseRow}
use Rattle.cr_declared.specs.declared.rows.Slot.{Slot}
use Rattle.cr_declared.specs.Rows.{entry_of, slot, is_in}
use Rattle.cr_groups.specs.declared.groups.Group.{Group}
use Rattle.cr_groups.specs.Groups.{find_group}
use Rattle.cr_groups.specs.Outward.{Encloses}
use Rattle.cr_groups.specs.Rows.{IsOneOf, IsGroup, AreGroups}
use Rattle.cr_groups.proofs.Shown.{Views}
use Rattle.cr_groups.proofs.Taken.{mapped, to_mapped, taken, to_taken, in_parts, parts_in}

module _ (unit : ℕ) (t : Source) (s : State) (old new : Name) (ps : List (List ℕ)) (rows : List Row) (uses : List UseRow) (es : List (Slot × Group))
    (shown : Views t s ps rows uses) (groups : AreGroups unit t s old new rows es) where
  -- an entry of the first n declarations is that of a row
  pub row_of : (n j : ℕ) (e : Entry) → slice_get (scopes_at t s [] n).entries j ≡ Some e → (x : Row) × (slice_get rows j ≡ Some x) × (e ≡ entry_of ps x) × (j < n)
  row_of n j e h =
      let a : (j < n) × (slice_get (map (entry t) s.declarations) j ≡ Some e) = taken (entry t) n s.declarations j e h in
      let b : (x : Row) × (slice_get rows j ≡ Some x) × (e ≡ entry_of ps x) = mapped (entry_of ps) rows j e (subst (λ z. slice_get z j ≡ Some e) (sym shown.entries) a.1) in
      (b.0, b.1, b.2, a.0)

  pub of_row : (n j : ℕ) (x : Row) → slice_get rows j ≡ Some x → j < n → slice_get (scopes_at t s [] n).entries j ≡ Some (entry_of ps x)
  of_row n j x h lt =
      to_taken (entry t) n s.declarations j (entry_of ps x) lt (subst (λ z. slice_get z j ≡ Some (entry_of ps x)) shown.entries (to_mapped (entry_of ps) rows j x h))

  pub declaration_of_row : (j : ℕ) (x : Row) → slice_get rows j ≡ Some x → (d : Declaration) × (slice_get s.declarations j ≡ Some d)
  declaration_of_row j x h =
      let r : (d : Declaration) × (slice_get s.declarations j ≡ Some d) × (entry_of ps x ≡ entry t d) = mapped (entry t) s.declarations j (entry_of ps x) (subst (λ z. slice_get z j ≡ Some (entry_of ps x)) shown.entries (to_mapped (entry_of ps) rows j x h)) in
      (r.0, r.1)

  -- what is visible under one of the names, and the group of its slot
  pub seen_group : (f : Flat) (n pl : ℕ) (sp : Space) (name : Name) (d : DeclNo) (e : Entry) → IsOneOf old new name → AreScopesAt t s (path_at ps pl) n f → Shows f sp name d e
      → (x : Row) × (g : Group) × (slice_get rows (number d) ≡ Some x) × (e ≡ entry_of ps x) × Encloses ps x.path pl × (find_group (slot x.path sp name) es ≡ Some g) × (is_in (slot x.path sp name) x ≡ true) × (g.first < n)
  seen_group f n pl sp name d e one at h = by (find_group a es) refl
    where
      r : (x : Row) × (slice_get rows (number d) ≡ Some x) × (e ≡ entry_of ps x) × (number d < n)
      r = row_of n (number d) e (subst (λ z. slice_get z (number d) ≡ Some e) at.1 h.there)

      x : Row
      x = r.0

      a : Slot
      a = slot x.path sp name

      v : is_prefix (path_at ps x.path) (path_at ps pl) ≡ true
      v = subst (λ z. is_prefix z.path (path_at ps pl) ≡ true) r.2 (subst (λ z. is_prefix e.path z ≡ true) at.0 h.visible)

      is : is_in a x ≡ true
      is = parts_in x.path sp name x refl (subst (λ z. z.decl.space ≡ sp) r.2 h.in_space) (subst (λ z. z.decl.name ≡ name) r.2 h.named)

      by : (o : Option Group) → find_group a es ≡ o → (x : Row) × (g : Group) × (slice_get rows (number d) ≡ Some x) × (e ≡ entry_of ps x) × Encloses ps x.path pl × (find_group (slot x.path sp name) es ≡ Some g) × (is_in (slot x.path sp name) x ≡ true) × (g.first < n)
      by None none = absurd (groups.none a one none (number d) x r.1 is)
      by (Some g) some =
          let le : g.first ≤ number d = (groups.some a g some).earliest (number d) x r.1 is in
          let lt : number d < n = r.3 in
          (x, g, r.1, r.2, (shown.within (number d) x r.1, v), some, is, omega (arith, le, lt))

  -- and the other way round
  pub group_seen : (f : Flat) (n pl q : ℕ) (sp : Space) (name : Name) (g : Group) → AreScopesAt t s (path_at ps pl) n f → Encloses ps q pl → find_group (slot q sp name) es ≡ Some g → g.first < n
      → (x : Row) × (slice_get rows g.first ≡ Some x) × (x.path ≡ q) × (is_in (slot q sp name) x ≡ true) × Shows f sp name (record { 0 = g.first }) (entry_of ps x)
  group_seen f n pl q sp name g at enc some lt =
      let i : IsGroup unit t s rows (slot q sp name) g = groups.some (slot q sp name) g some in
      let x : Row = i.first.0 in
      let p : (q ≡ x.path) × (x.decl.space ≡ sp) × (x.decl.name ≡ name) = in_parts q sp name x i.first.2 in (
        x,
        i.first.1,
        sym p.0,
        i.first.2,
        record {
          there = subst (λ z. slice_get z g.first ≡ Some (entry_of ps x)) (sym at.1) (of_row n g.first x i.first.1 lt);
          visible = subst (λ z. is_prefix (path_at ps x.path) z ≡ true) (sym at.0) (subst (λ z. is_prefix (path_at ps z) (path_at ps pl) ≡ true) p.0 enc.1);
          in_space = p.1;
          named = p.2;
        },
      )
