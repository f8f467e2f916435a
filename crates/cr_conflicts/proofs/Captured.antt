-- (a) The groups of old around a mention of new are what captures it.
use Rattle.std.proofs.Common.{◌≡◌, inl, ℕ, ◌<◌, ◌≤◌, true, Option, Some, None, List, length, refl, sym, ap, subst, ◌∙◌, arith}
use Rattle.std.specs.Prelude.{slice_get, option_map}
use Rattle.cr_base.specs.declared.token.Name.{Name}
use Rattle.cr_scope.specs.declared.Space.{Space}
use Rattle.cr_scope.specs.declared.DeclNo.{DeclNo}
use Rattle.cr_scope.specs.Declarations.{Entry, Flat, depth, number}
use Rattle.cr_capture.specs.Conflicts.{IsCaptured, IsDeeperThan, Shows}
use Rattle.cr_facts.specs.declared.fact.Fact.{Fact}
use Rattle.cr_facts.specs.declared.fact.Fact.TheVariants as fact
use Rattle.cr_binding.specs.Source.{Source, name_at}
use Rattle.cr_binding.specs.State.{Declaration, State}
use Rattle.cr_binding.specs.Keys.{declaration_key}
use Rattle.cr_binding.specs.UnitConflicts.{place_at, scopes_at, AreScopesAt, made_by}
use Rattle.cr_paths.specs.Paths.{path_at}
use Rattle.cr_declared.specs.declared.rows.Row.{Row}
use Rattle.cr_declared.specs.declared.rows.UseRow.{UseRow}
use Rattle.cr_declared.specs.declared.rows.Slot.{Slot}
use Rattle.cr_groups.specs.declared.groups.Group.{Group}
use Rattle.cr_declared.specs.Rows.{slot}
use Rattle.cr_declared.specs.Rows.{entry_of, is_in}
use Rattle.cr_groups.specs.Rows.{IsDenoted, AreGroups}
use Rattle.cr_groups.proofs.Shown.{Views}
use Rattle.cr_conflicts.specs.Clauses.{limit_by, limit_of, Captures, IsCapturedBy}
use Rattle.cr_groups.proofs.Seen.{row_of, of_row, declaration_of_row, seen_group, group_seen}

pub made_same : (o : Option DeclNo) (n : ℕ) → made_by (option_map number o) n ≡ made_by o n
made_same None n = refl
made_same (Some d) n = refl

module _ (unit : ℕ) (t : Source) (s : State) (old new : Name) (ps : List (List ℕ)) (rows : List Row) (uses : List UseRow) (es : List (Slot × Group))
    (shown : Views t s ps rows uses) (groups : AreGroups unit t s old new rows es) where
  abbrev pub IsDenotedNo : Space → ℕ → ℕ → ℕ → Option DeclNo → Type 0
  IsDenotedNo sp i pl before den = IsDenoted t.tokens ps rows sp i pl before (option_map number den)

  -- deeper than what is denoted
  deeper_from : (f : Flat) (sp : Space) (i pl before : ℕ) (den : Option DeclNo) (e : Entry) → IsDenotedNo sp i pl before den → AreScopesAt t s (path_at ps pl) (made_by den before) f
      → limit_of ps rows (option_map number den) ≤ depth e → IsDeeperThan f e den
  deeper_from f sp i pl before None e ok at le = tt
  deeper_from f sp i pl before (Some c) e ok at le =
      let y : Row = ok.1 in
      let l : limit_by ps (Some y) ≤ depth e = subst (λ z. limit_by ps z ≤ depth e) ok.2 le in
      (entry_of ps y, subst (λ z. slice_get z (number c) ≡ Some (entry_of ps y)) (sym at.1) (of_row unit t s old new ps rows uses es shown groups before (number c) y ok.2 ok.0), omega (arith, l))

  deeper_to : (f : Flat) (sp : Space) (i pl before : ℕ) (den : Option DeclNo) (e : Entry) → IsDenotedNo sp i pl before den → AreScopesAt t s (path_at ps pl) (made_by den before) f
      → IsDeeperThan f e den → limit_of ps rows (option_map number den) ≤ depth e
  deeper_to f sp i pl before None e ok at h = omega arith
  deeper_to f sp i pl before (Some c) e ok at h =
      let r : (x : Row) × (slice_get rows (number c) ≡ Some x) × (h.0 ≡ entry_of ps x) × (number c < before) = row_of unit t s old new ps rows uses es shown groups before (number c) h.0 (subst (λ z. slice_get z (number c) ≡ Some h.0) at.1 h.1) in
      let l : depth h.0 < depth e = h.2 in
      let m : depth h.0 ≡ length (path_at ps r.0.path) = ap depth r.2 in
      subst (λ z. limit_by ps z ≤ depth e) (sym r.1) (omega (arith, l, m))

  module _ (sp : Space) (i pl before : ℕ) (den : Option DeclNo) (ok : IsDenotedNo sp i pl before den) where
    pub captured_from : (fa : Fact) → Captures t.tokens ps rows es old new sp i pl before (option_map number den) fa → IsCapturedBy unit t s old new sp i (path_at ps pl) before den fa
    captured_from fa h =
        let n : ℕ = made_by den before in
        let f : Flat = scopes_at t s (path_at ps pl) n in
        let q : ℕ = h.1.0 in
        let g : Group = h.1.3.0 in
        let lt : g.first < n = subst (λ z. g.first < z) (made_same den before) h.1.3.1.1 in
        let r : (x : Row) × (slice_get rows g.first ≡ Some x) × (x.path ≡ q) × (is_in (slot q sp old) x ≡ true) × Shows f sp old (record { 0 = g.first }) (entry_of ps x) = group_seen unit t s old new ps rows uses es shown groups f n pl q sp old g (refl, refl) h.1.1 h.1.3.1.0 lt in
        let d : (d : Declaration) × (slice_get s.declarations g.first ≡ Some d) = declaration_of_row unit t s old new ps rows uses es shown groups g.first r.0 r.1 in
        let deep : limit_of ps rows (option_map number den) ≤ depth (entry_of ps r.0) = subst (λ z. limit_of ps rows (option_map number den) ≤ length (path_at ps z)) (sym r.2) h.1.2 in (
          g.key,
          place_at t i,
          f,
          record { 0 = g.first },
          d.0,
          h.1.3.2,
          ((refl, refl), record { mentions = h.0; itself = entry_of ps r.0; seen = r.4; deeper = deeper_from f sp i pl before den (entry_of ps r.0) ok (refl, refl) deep }),
          d.1,
          (groups.some (slot q sp old) g h.1.3.1.0).keyed g.first r.0 d.0 r.1 r.3 d.1,
          refl,
        )

    pub captured_to : (fa : Fact) → IsCapturedBy unit t s old new sp i (path_at ps pl) before den fa → Captures t.tokens ps rows es old new sp i pl before (option_map number den) fa
    captured_to fa (k, p, f, d, e, same, both, there, keyed, placed) =
        let n : ℕ = made_by den before in
        let c : IsCaptured f old new sp (name_at t i) den d = both.1 in
        let r = seen_group unit t s old new ps rows uses es shown groups f n pl sp old d c.itself (inl refl) both.0 c.seen in
        let x : Row = r.0 in
        let g : Group = r.1 in
        let deep : limit_of ps rows (option_map number den) ≤ depth c.itself = deeper_to f sp i pl before den c.itself ok both.0 c.deeper in
        let ke : g.key ≡ declaration_key unit t s e = (groups.some (slot x.path sp old) g r.5).keyed (number d) x e r.2 r.6 there in (
          c.mentions,
          (
            x.path,
            r.4,
            subst (λ z. limit_of ps rows (option_map number den) ≤ depth z) r.3 deep,
            (
              g,
              (r.5, subst (λ z. g.first < z) (sym (made_same den before)) r.7, refl),
              same ∙ ap (λ z. fact.Conflict z p) (keyed ∙ sym ke) ∙ ap (λ z. fact.Conflict g.key z) placed,
            ),
          ),
        )
