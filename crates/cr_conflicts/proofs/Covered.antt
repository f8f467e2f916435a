-- (b) The group of what a mention of old denotes, where new is visible from its scope inward, is what is hidden.
use Rattle.std.proofs.Common.{◌≡◌, ◌⊎◌, inl, inr, ℕ, ◌+◌, ◌<◌, ◌≤◌, true, Option, Some, None, List, length, refl, sym, ap, subst, ◌∙◌, arith}
use Rattle.std.specs.Prelude.{slice_get, option_map, MatchOption}
use Rattle.cr_base.specs.declared.token.Name.{Name}
use Rattle.cr_scope.specs.declared.Space.{Space}
use Rattle.cr_scope.specs.declared.DeclNo.{DeclNo}
use Rattle.cr_scope.specs.Declarations.{Entry, Flat, depth, number, is_prefix, lookup}
use Rattle.cr_scope.specs.Meaning.{IsLookup, SeesNone}
use Rattle.cr_scope.proofs.Looked.{lookup_means}
use Rattle.cr_capture.specs.Conflicts.{IsHidden, Shows}
use Rattle.cr_facts.specs.declared.fact.Fact.{Fact}
use Rattle.cr_facts.specs.declared.fact.Fact.TheVariants as fact
use Rattle.cr_binding.specs.Source.{Source, name_at}
use Rattle.cr_binding.specs.State.{Declaration, State}
use Rattle.cr_binding.specs.Keys.{declaration_key}
use Rattle.cr_binding.specs.UnitConflicts.{place_at, scopes_at, AreScopesAt}
use Rattle.cr_paths.specs.Paths.{path_at}
use Rattle.cr_declared.specs.declared.rows.Row.{Row}
use Rattle.cr_declared.specs.declared.rows.UseRow.{UseRow}
use Rattle.cr_declared.specs.declared.rows.Slot.{Slot}
use Rattle.cr_groups.specs.declared.groups.Group.{Group}
use Rattle.cr_groups.specs.declared.groups.Sort.TheVariants as sort
use Rattle.cr_declared.specs.Rows.{slot}
use Rattle.cr_groups.specs.Groups.{find_group}
use Rattle.cr_groups.specs.Outward.{Encloses}
use Rattle.cr_groups.specs.Nearest.{IsNearest}
use Rattle.cr_declared.specs.Rows.{entry_of, is_in}
use Rattle.cr_groups.specs.Rows.{IsDenoted, IsOneOf, AreGroups}
use Rattle.cr_groups.proofs.Shown.{Views}
use Rattle.cr_conflicts.specs.Clauses.{floor_by, Hides, IsHiddenBy}
use Rattle.cr_groups.proofs.Taken.{parts_in}
use Rattle.cr_groups.proofs.Around.{prefix_one}
use Rattle.cr_groups.proofs.Seen.{row_of, of_row, declaration_of_row, seen_group, group_seen}

pub at_most : {a b j k : ℕ} → (a < b) ⊎ ((a ≡ b) × (j ≤ k)) → a ≤ b
at_most (inl l) = omega (arith, l)
at_most (inr l) = omega (arith, l.0)

module _ (unit : ℕ) (t : Source) (s : State) (old new : Name) (ps : List (List ℕ)) (rows : List Row) (uses : List UseRow) (es : List (Slot × Group))
    (shown : Views t s ps rows uses) (groups : AreGroups unit t s old new rows es) where
  abbrev Seen : Flat → ℕ → ℕ → Space → Name → DeclNo → Entry → Type 0
  Seen f n pl sp name d e = (x : Row) × (g : Group) × (slice_get rows (number d) ≡ Some x) × (e ≡ entry_of ps x) × Encloses ps x.path pl × (find_group (slot x.path sp name) es ≡ Some g) × (is_in (slot x.path sp name) x ≡ true) × (g.first < n)

  seen : (f : Flat) (n pl : ℕ) (sp : Space) (name : Name) (d : DeclNo) (e : Entry) → IsOneOf old new name → AreScopesAt t s (path_at ps pl) n f → Shows f sp name d e → Seen f n pl sp name d e
  seen = seen_group unit t s old new ps rows uses es shown groups

  shows : (f : Flat) (n pl q : ℕ) (sp : Space) (name : Name) (g : Group) → AreScopesAt t s (path_at ps pl) n f → Encloses ps q pl → find_group (slot q sp name) es ≡ Some g → g.first < n
      → (x : Row) × (slice_get rows g.first ≡ Some x) × (x.path ≡ q) × (is_in (slot q sp name) x ≡ true) × Shows f sp name (record { 0 = g.first }) (entry_of ps x)
  shows = group_seen unit t s old new ps rows uses es shown groups

  -- what a look-up of old gives stands in the nearest scope
  nearest_from : (f : Flat) (n pl q : ℕ) (sp : Space) (g : Group) → AreScopesAt t s (path_at ps pl) n f → IsNearest ps es (slot pl sp old) n sort.Any q → find_group (slot q sp old) es ≡ Some g → g.first < n
      → (d : DeclNo) × (x : Row) × (lookup f.present sp old f.entries ≡ Some (number d)) × (slice_get rows (number d) ≡ Some x) × (number d < n) × (is_in (slot q sp old) x ≡ true)
  nearest_from f n pl q sp g at near some lt = by (lookup f.present sp old f.entries) refl (lookup_means f.present sp old f.entries)
    where
      here : (x : Row) × (slice_get rows g.first ≡ Some x) × (x.path ≡ q) × (is_in (slot q sp old) x ≡ true) × Shows f sp old (record { 0 = g.first }) (entry_of ps x)
      here = shows f n pl q sp old g at near.around some lt

      Result : Option ℕ → Type 0
      Result o = (d : DeclNo) × (x : Row) × (o ≡ Some (number d)) × (slice_get rows (number d) ≡ Some x) × (number d < n) × (is_in (slot q sp old) x ≡ true)

      by : (o : Option ℕ) → lookup f.present sp old f.entries ≡ o → MatchOption o (SeesNone f.present sp old f.entries) (λ i. (e : Entry) × IsLookup f.present sp old f.entries i e) → Result o
      by None e h = absurd (h g.first (entry_of ps here.0) here.4)
      by (Some j) e h =
          let d : DeclNo = record { 0 = j } in
          let r : Seen f n pl sp old d h.0 = seen f n pl sp old d h.0 (inl refl) at h.1.seen in
          let x : Row = r.0 in
          let k : Group = r.1 in
          let inner : length (path_at ps x.path) ≤ length (path_at ps q) = near.best x.path r.4 (k, (r.5, r.7, refl)) in
          let deep : depth (entry_of ps here.0) ≤ depth h.0 = at_most (h.1.best g.first (entry_of ps here.0) here.4) in
          let a : depth h.0 ≡ length (path_at ps x.path) = ap depth r.3 in
          let b : depth (entry_of ps here.0) ≡ length (path_at ps q) = ap (λ z. length (path_at ps z)) here.2 in
          let same : x.path ≡ q = shown.distinct x.path q r.4.0 near.around.0 (prefix_one (path_at ps x.path) (path_at ps q) (path_at ps pl) r.4.1 near.around.1 (omega (arith, inner, deep, a, b))) in
          let lt : j < n = (row_of unit t s old new ps rows uses es shown groups n j h.0 (subst (λ z. slice_get z j ≡ Some h.0) at.1 h.1.seen.there)).3 in
          (d, x, refl, r.2, lt, subst (λ z. is_in (slot z sp old) x ≡ true) same r.6)

  module _ (sp : Space) (i pl before : ℕ) where
    abbrev Ok : Option DeclNo → Type 0
    Ok den = IsDenoted t.tokens ps rows sp i pl before (option_map number den)

    from : (den : Option DeclNo) → Ok den → (fa : Fact) → Hides t.tokens ps rows es old new sp i pl before (option_map number den) fa → IsHiddenBy unit t s old new sp i (path_at ps pl) before den fa
    from None ok fa (mentions, over, (q, near, here)) =
        let n : ℕ = before + 1 in
        let f : Flat = scopes_at t s (path_at ps pl) n in
        let g : Group = here.0 in
        let m = nearest_from f n pl q sp g (refl, refl) near here.1.0 here.1.1 in
        let d : (d : Declaration) × (slice_get s.declarations (number m.0) ≡ Some d) = declaration_of_row unit t s old new ps rows uses es shown groups (number m.0) m.1 m.3 in
        let o = shows f n pl over.0 sp new over.3.0 (refl, refl) over.1 over.3.1.0 over.3.1.1 in (
          g.key,
          place_at t i,
          f,
          m.0,
          d.0,
          here.2,
          (
            (refl, refl),
            record {
              mentions = mentions;
              meant = ap (λ z. lookup (path_at ps pl) sp z f.entries) mentions ∙ m.2;
              itself = entry_of ps m.1;
              there = of_row unit t s old new ps rows uses es shown groups n (number m.0) m.1 m.3 m.4;
              other = record { 0 = over.3.0.first };
              over = entry_of ps o.0;
              seen = o.4;
              inside = tt;
            },
          ),
          d.1,
          (groups.some (slot q sp old) g here.1.0).keyed (number m.0) m.1 d.0 m.3 m.5 d.1,
          refl,
        )
    from (Some c) ok fa (mentions, over, (q, meant, here)) =
        let n : ℕ = before in
        let f : Flat = scopes_at t s (path_at ps pl) n in
        let g : Group = here.0 in
        let x : Row = ok.1 in
        let k : Some meant.0 ≡ Some x = sym meant.1 ∙ ok.2 in
        let same : meant.0 ≡ x = cc in
        let qx : q ≡ x.path = meant.2 ∙ ap (λ (z : Row). z.path) same in
        let d : (d : Declaration) × (slice_get s.declarations (number c) ≡ Some d) = declaration_of_row unit t s old new ps rows uses es shown groups (number c) x ok.2 in
        let o = shows f n pl over.0 sp new over.3.0 (refl, refl) over.1 over.3.1.0 over.3.1.1 in
        let l : floor_by ps (Some x) ≤ length (path_at ps over.0) = subst (λ z. floor_by ps z ≤ length (path_at ps over.0)) ok.2 over.2 in (
          g.key,
          place_at t i,
          f,
          c,
          d.0,
          here.2,
          (
            (refl, refl),
            record {
              mentions = mentions;
              meant = refl;
              itself = entry_of ps x;
              there = of_row unit t s old new ps rows uses es shown groups n (number c) x ok.2 ok.0;
              other = record { 0 = over.3.0.first };
              over = entry_of ps o.0;
              seen = o.4;
              inside = subst (λ z. length (path_at ps x.path) ≤ length (path_at ps z)) (sym o.2) l;
            },
          ),
          d.1,
          (groups.some (slot q sp old) g here.1.0).keyed (number c) x d.0 ok.2 (parts_in q sp old x (sym qx) ok.3 (ok.4 ∙ mentions)) d.1,
          refl,
        )

    to : (den : Option DeclNo) → Ok den → (fa : Fact) → IsHiddenBy unit t s old new sp i (path_at ps pl) before den fa → Hides t.tokens ps rows es old new sp i pl before (option_map number den) fa
    to None ok fa (k, p, f, d, e, same, both, there, keyed, placed) =
        let n : ℕ = before + 1 in
        let h : IsHidden f old new sp (name_at t i) None d = both.1 in
        let o = seen f n pl sp new h.other h.over (inr refl) both.0 h.seen in
        let found : lookup f.present sp old f.entries ≡ Some (number d) = ap (λ z. lookup f.present sp z f.entries) (sym h.mentions) ∙ h.meant in
        let l : (e : Entry) × IsLookup f.present sp old f.entries (number d) e = subst (λ z. MatchOption z (SeesNone f.present sp old f.entries) (λ i. (e : Entry) × IsLookup f.present sp old f.entries i e)) found (lookup_means f.present sp old f.entries) in
        let r : Seen f n pl sp old d l.0 = seen f n pl sp old d l.0 (inl refl) both.0 l.1.seen in
        let x : Row = r.0 in
        let g : Group = r.1 in
        let ke : g.key ≡ declaration_key unit t s e = (groups.some (slot x.path sp old) g r.5).keyed (number d) x e r.2 r.6 there in (
          h.mentions,
          (o.0.path, o.4, omega arith, (o.1, (o.5, o.7, refl))),
          (
            x.path,
            record {
              around = r.4;
              there = (g, (r.5, r.7, refl));
              best = λ q enc fo.
                  let z = shows f n pl q sp old fo.0 both.0 enc fo.1.0 fo.1.1 in
                  let b : depth (entry_of ps z.0) ≤ depth l.0 = at_most (l.1.best fo.0.first (entry_of ps z.0) z.4) in
                  let a : depth l.0 ≡ length (path_at ps x.path) = ap depth r.3 in
                  let c : depth (entry_of ps z.0) ≡ length (path_at ps q) = ap (λ y. length (path_at ps y)) z.2 in
                  omega (arith, a, b, c);
            },
            (g, (r.5, r.7, refl), same ∙ ap (λ z. fact.Conflict z p) (keyed ∙ sym ke) ∙ ap (λ z. fact.Conflict g.key z) placed),
          ),
        )
    to (Some c) ok fa (k, p, f, d, e, same, both, there, keyed, placed) =
        let n : ℕ = before in
        let h : IsHidden f old new sp (name_at t i) (Some c) d = both.1 in
        let x : Row = ok.1 in
        let dc : d ≡ c = h.meant in
        let at : slice_get rows (number d) ≡ Some x = ap (λ z. slice_get rows (number z)) dc ∙ ok.2 in
        let o = seen f n pl sp new h.other h.over (inr refl) both.0 h.seen in
        let name : x.decl.name ≡ old = ok.4 ∙ h.mentions in
        let v : Shows f sp old d (entry_of ps x) = record {
          there = subst (λ z. slice_get z (number d) ≡ Some (entry_of ps x)) (sym both.0.1) (of_row unit t s old new ps rows uses es shown groups n (number d) x at (subst (λ z. number z < before) (sym dc) ok.0));
          visible = subst (λ z. is_prefix (path_at ps x.path) z ≡ true) (sym both.0.0) ok.5;
          in_space = ok.3;
          named = name;
        } in
        let r : Seen f n pl sp old d (entry_of ps x) = seen f n pl sp old d (entry_of ps x) (inl refl) both.0 v in
        let y : Row = r.0 in
        let g : Group = r.1 in
        let q : Some y ≡ Some x = sym r.2 ∙ at in
        let yx : y ≡ x = cc in
        let ke : g.key ≡ declaration_key unit t s e = (groups.some (slot y.path sp old) g r.5).keyed (number d) y e r.2 r.6 there in
        let me : slice_get f.entries (number d) ≡ Some h.itself = h.there in
        let mx : Some h.itself ≡ Some (entry_of ps x) = sym me ∙ v.there in
        let it : h.itself ≡ entry_of ps x = cc in
        let ins : depth h.itself ≤ depth h.over = h.inside in
        let lx : length (path_at ps x.path) ≤ length (path_at ps o.0.path) = subst (λ z. length (path_at ps x.path) ≤ depth z) o.3 (subst (λ z. depth z ≤ depth h.over) it ins) in (
          h.mentions,
          (o.0.path, o.4, subst (λ z. floor_by ps z ≤ length (path_at ps o.0.path)) (sym ok.2) lx, (o.1, (o.5, o.7, refl))),
          (y.path, (x, ok.2, ap (λ (z : Row). z.path) yx), (g, (r.5, r.7, refl), same ∙ ap (λ z. fact.Conflict z p) (keyed ∙ sym ke) ∙ ap (λ z. fact.Conflict g.key z) placed)),
        )

    pub hidden_from : (den : Option DeclNo) → Ok den → (fa : Fact) → Hides t.tokens ps rows es old new sp i pl before (option_map number den) fa → IsHiddenBy unit t s old new sp i (path_at ps pl) before den fa
    hidden_from = from

    pub hidden_to : (den : Option DeclNo) → Ok den → (fa : Fact) → IsHiddenBy unit t s old new sp i (path_at ps pl) before den fa → Hides t.tokens ps rows es old new sp i pl before (option_map number den) fa
    hidden_to = to
