-- (d) The first declarations of both names that have linkage.
use Rattle.std.proofs.Common.{◌≡◌, inl, inr, ℕ, ◌+◌, ◌<◌, Bool, true, false, ◌&&◌, Option, Some, None, List, [], ◌∷◌, length, get_or, refl, sym, ap, subst, ◌∙◌, arith, true≢false}
use Rattle.std.specs.Prelude.{slice_get, position, max}
use Rattle.std.proofs.lemmas.Bool.{cases_lt}
use Rattle.std.proofs.lemmas.Option.{slice_get_within, slice_get-get_or, get_or_from_slice_get}
use Rattle.std.proofs.lemmas.List.Quantifiers.{position-Some}
use Rattle.cr_base.specs.declared.token.Name.{Name}
use Rattle.cr_scope.specs.Declarations.{Entry, number, same_name}
use Rattle.cr_scope.specs.Linkage.{has_linkage, linked}
use Rattle.cr_scope.proofs.Paths.{and_both}
use Rattle.cr_facts.specs.declared.fact.Fact.{Fact}
use Rattle.cr_facts.specs.declared.fact.Fact.TheVariants as fact
use Rattle.cr_binding.specs.Source.{Source}
use Rattle.cr_binding.specs.State.{Declaration, State}
use Rattle.cr_binding.specs.Keys.{declaration_key}
use Rattle.cr_binding.specs.UnitConflicts.{place_at, scopes_at}
use Rattle.cr_declared.specs.declared.rows.Row.{Row}
use Rattle.cr_declared.specs.declared.rows.UseRow.{UseRow}
use Rattle.cr_declared.specs.declared.rows.Slot.{Slot}
use Rattle.cr_groups.specs.declared.groups.Group.{Group}
use Rattle.cr_groups.specs.Groups.{find_group}
use Rattle.cr_declared.specs.Rows.{entry_of}
use Rattle.cr_groups.specs.Rows.{AreGroups}
use Rattle.cr_groups.proofs.Shown.{Views}
use Rattle.cr_declared.specs.Rows.{slot_of}
use Rattle.cr_groups.specs.Built.{is_linked_row}
use Rattle.cr_conflicts.specs.BothLinked.{LinkedAdds, IsOfLinked}
use Rattle.cr_groups.proofs.Building.{slot_itself}
use Rattle.cr_groups.proofs.Grouped.{first_position, names_same}
use Rattle.cr_groups.proofs.Seen.{row_of, of_row, declaration_of_row}

abbrev IsFirst : {A : Type 0} → (A → Bool) → List A → ℕ → A → Type 0
IsFirst {A} p es i e = (slice_get es i ≡ Some e) × (p e ≡ true) × ((j : ℕ) (f : A) → j < i → slice_get es j ≡ Some f → p f ≡ false)

-- what is first has its position
pub position_is : {A : Type 0} (p : A → Bool) (es : List A) (i : ℕ) (e : A) → IsFirst p es i e → position p es ≡ Some i
position_is {A} p es i e h =
    let r : (k : ℕ) × (g : A) × (position p es ≡ Some k) × (slice_get es k ≡ Some g) × (p g ≡ true) × ((j : ℕ) (f : A) → j < k → slice_get es j ≡ Some f → p f ≡ false) = first_position p es i e h.0 h.1 in
    r.2 ∙ ap Some (elim (cases_lt r.0 i) [
      | inl lt ↦ absurd (true≢false (sym r.4 ∙ h.2 r.0 r.1 lt r.3))
      | inr ge ↦ (elim (cases_lt i r.0) [
        | inl lt ↦ absurd (true≢false (sym h.1 ∙ r.5 i e lt h.0))
        | inr le ↦ omega (arith, ge, le)
      ])
    ])

pub position_means : {A : Type 0} (p : A → Bool) (es : List A) (i : ℕ) → position p es ≡ Some i → (e : A) × IsFirst p es i e
position_means p [] i h = cc
position_means p (x ∷ xs) i h =
    let r : (i < length (x ∷ xs)) × (p (get_or (x ∷ xs) i x) ≡ true) × ((k : ℕ) → k < i → p (get_or (x ∷ xs) k x) ≡ false) = position-Some p (x ∷ xs) i x h in
    (get_or (x ∷ xs) i x, (slice_get-get_or (x ∷ xs) i x r.0, r.1, (λ j f lt at. subst (λ z. p z ≡ false) (get_or_from_slice_get (x ∷ xs) j f x at) (r.2 j lt))))

module _ (unit : ℕ) (t : Source) (s : State) (old new : Name) (ps : List (List ℕ)) (rows : List Row) (uses : List UseRow) (es : List (Slot × Group))
    (shown : Views t s ps rows uses) (groups : AreGroups unit t s old new rows es) where
  ents : ℕ → List Entry
  ents n = (scopes_at t s [] n).entries

  -- the first of a name among all rows is that among the first n entries
  abbrev Test : Name → Entry → Bool
  Test name e = has_linkage e.decl.linkage && same_name e.decl.name name

  to_prefix : (name : Name) (n i : ℕ) (x : Row) → IsFirst (is_linked_row name) rows i x → i < n → linked name (scopes_at t s [] n).entries ≡ Some i
  to_prefix name n i x h lt =
      position_is (Test name) (scopes_at t s [] n).entries i (entry_of ps x) (
        of_row unit t s old new ps rows uses es shown groups n i x h.0 lt,
        h.1,
        λ j f l at.
            let r : (y : Row) × (slice_get rows j ≡ Some y) × (f ≡ entry_of ps y) × (j < n) = row_of unit t s old new ps rows uses es shown groups n j f at in
            ap (Test name) r.2 ∙ h.2 j r.0 l r.1,
      )

  from_prefix : (name : Name) (n i : ℕ) → linked name (scopes_at t s [] n).entries ≡ Some i → (x : Row) × IsFirst (is_linked_row name) rows i x × (i < n)
  from_prefix name n i h =
      let m : (e : Entry) × IsFirst (Test name) (scopes_at t s [] n).entries i e = position_means (Test name) (scopes_at t s [] n).entries i h in
      let r : (x : Row) × (slice_get rows i ≡ Some x) × (m.0 ≡ entry_of ps x) × (i < n) = row_of unit t s old new ps rows uses es shown groups n i m.0 m.1.0 in
      let lt : i < n = r.3 in
      (r.0, (r.1, sym (ap (Test name) r.2) ∙ m.1.1, λ j y l at. m.1.2 j (entry_of ps y) l (of_row unit t s old new ps rows uses es shown groups n j y at (omega (arith, l, lt)))), r.3)

  pub linked_from : (fa : Fact) → LinkedAdds old new t.tokens rows es fa → IsOfLinked unit t s old new fa
  linked_from fa (i, j, x, y, g, pi, pj, ax, ay, some, same) =
      let mx : (e : Row) × IsFirst (is_linked_row old) rows i e = position_means (is_linked_row old) rows i pi in
      let my : (e : Row) × IsFirst (is_linked_row new) rows j e = position_means (is_linked_row new) rows j pj in
      let kx : Some mx.0 ≡ Some x = sym mx.1.0 ∙ ax in
      let ky : Some my.0 ≡ Some y = sym my.1.0 ∙ ay in
      let ex : mx.0 ≡ x = cc in
      let ey : my.0 ≡ y = cc in
      let fx : IsFirst (is_linked_row old) rows i x = subst (λ z. IsFirst (is_linked_row old) rows i z) ex mx.1 in
      let fy : IsFirst (is_linked_row new) rows j y = subst (λ z. IsFirst (is_linked_row new) rows j z) ey my.1 in
      let bx : (has_linkage x.decl.linkage ≡ true) × (same_name x.decl.name old ≡ true) = and_both (has_linkage x.decl.linkage) (same_name x.decl.name old) fx.1 in
      let by : (has_linkage y.decl.linkage ≡ true) × (same_name y.decl.name new ≡ true) = and_both (has_linkage y.decl.linkage) (same_name y.decl.name new) fy.1 in
      let d : (d : Declaration) × (slice_get s.declarations i ≡ Some d) = declaration_of_row unit t s old new ps rows uses es shown groups i x ax in
      let e : (d : Declaration) × (slice_get s.declarations j ≡ Some d) = declaration_of_row unit t s old new ps rows uses es shown groups j y ay in
      let key : g.key ≡ declaration_key unit t s d.0 = (groups.some (slot_of x) g some).keyed i x d.0 ax (slot_itself x) d.1 in
      elim (cases_lt i j) [
        | inl lt ↦ (
          g.key,
          place_at t (max x.decl.token y.decl.token),
          scopes_at t s [] (j + 1),
          record { 0 = j },
          record { 0 = i },
          max x.decl.token y.decl.token,
          d.0,
          same,
          (slice_get_within s.declarations j e.0 e.1, refl),
          record {
            itself = entry_of ps y;
            there = of_row unit t s old new ps rows uses es shown groups (j + 1) j y ay (omega arith);
            has = by.0;
            named = inr (names_same y.decl.name new by.1);
            first_old = to_prefix old (j + 1) i x fx (omega (arith, lt));
            of_old = entry_of ps x;
            old_there = of_row unit t s old new ps rows uses es shown groups (j + 1) i x ax (omega (arith, lt));
            other = record { 0 = j };
            first_new = to_prefix new (j + 1) j y fy (omega arith);
            of_new = entry_of ps y;
            new_there = of_row unit t s old new ps rows uses es shown groups (j + 1) j y ay (omega arith);
            at = refl;
          },
          d.1,
          key,
          refl,
        )
        | inr ge ↦ (
          g.key,
          place_at t (max x.decl.token y.decl.token),
          scopes_at t s [] (i + 1),
          record { 0 = i },
          record { 0 = i },
          max x.decl.token y.decl.token,
          d.0,
          same,
          (slice_get_within s.declarations i d.0 d.1, refl),
          record {
            itself = entry_of ps x;
            there = of_row unit t s old new ps rows uses es shown groups (i + 1) i x ax (omega arith);
            has = bx.0;
            named = inl (names_same x.decl.name old bx.1);
            first_old = to_prefix old (i + 1) i x fx (omega arith);
            of_old = entry_of ps x;
            old_there = of_row unit t s old new ps rows uses es shown groups (i + 1) i x ax (omega arith);
            other = record { 0 = j };
            first_new = to_prefix new (i + 1) j y fy (omega (arith, ge));
            of_new = entry_of ps y;
            new_there = of_row unit t s old new ps rows uses es shown groups (i + 1) j y ay (omega (arith, ge));
            at = refl;
          },
          d.1,
          key,
          refl,
        )
      ]

  pub linked_to : (fa : Fact) → IsOfLinked unit t s old new fa → LinkedAdds old new t.tokens rows es fa
  linked_to fa (k, p, f, c, d, token, e, same, mentions, h, there, keyed, placed) =
      let n : ℕ = number c + 1 in
      let a = from_prefix old n (number d) (subst (λ z. linked old z ≡ Some (number d)) mentions.1 h.first_old) in
      let b = from_prefix new n (number h.other) (subst (λ z. linked new z ≡ Some (number h.other)) mentions.1 h.first_new) in
      let x : Row = a.0 in
      let y : Row = b.0 in
      let r = row_of unit t s old new ps rows uses es shown groups n (number d) h.of_old (subst (λ z. slice_get z (number d) ≡ Some h.of_old) mentions.1 h.old_there) in
      let q = row_of unit t s old new ps rows uses es shown groups n (number h.other) h.of_new (subst (λ z. slice_get z (number h.other) ≡ Some h.of_new) mentions.1 h.new_there) in
      let kx : Some r.0 ≡ Some x = sym r.1 ∙ a.1.0 in
      let ky : Some q.0 ≡ Some y = sym q.1 ∙ b.1.0 in
      let ex : r.0 ≡ x = cc in
      let ey : q.0 ≡ y = cc in
      let tx : h.of_old.decl.token ≡ x.decl.token = ap (λ (z : Entry). z.decl.token) r.2 ∙ ap (λ (z : Row). z.decl.token) ex in
      let ty : h.of_new.decl.token ≡ y.decl.token = ap (λ (z : Entry). z.decl.token) q.2 ∙ ap (λ (z : Row). z.decl.token) ey in
      let to : token ≡ max x.decl.token y.decl.token = h.at ∙ ap (λ z. max z h.of_new.decl.token) tx ∙ ap (max x.decl.token) ty in
      let bx : (has_linkage x.decl.linkage ≡ true) × (same_name x.decl.name old ≡ true) = and_both (has_linkage x.decl.linkage) (same_name x.decl.name old) a.1.1 in
      let g : (g : Group) × (find_group (slot_of x) es ≡ Some g) = group_is (number d) x a.1.0 (names_same x.decl.name old bx.1) in
      let key : k ≡ g.0.key = keyed ∙ sym ((groups.some (slot_of x) g.0 g.1).keyed (number d) x e a.1.0 (slot_itself x) there) in (
        number d,
        number h.other,
        x,
        y,
        g.0,
        position_is (is_linked_row old) rows (number d) x a.1,
        position_is (is_linked_row new) rows (number h.other) y b.1,
        a.1.0,
        b.1.0,
        g.1,
        same ∙ ap (λ z. fact.Conflict z p) key ∙ ap (λ z. fact.Conflict g.0.key z) (placed ∙ ap (place_at t) to),
      )
    where
      group_is : (j : ℕ) (x : Row) → slice_get rows j ≡ Some x → x.decl.name ≡ old → (g : Group) × (find_group (slot_of x) es ≡ Some g)
      group_is j x at name = by (find_group (slot_of x) es) refl
        where
          by : (o : Option Group) → find_group (slot_of x) es ≡ o → (g : Group) × (find_group (slot_of x) es ≡ Some g)
          by None e = absurd (groups.none (slot_of x) (inl name) e j x at (slot_itself x))
          by (Some g) e = (g, e)
