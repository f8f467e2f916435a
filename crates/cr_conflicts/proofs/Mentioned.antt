-- What the uses of a unit add is what conflicts with its mentions.
use Rattle.std.proofs.Common.{◌≡◌, ◌⊎◌, inl, inr, ℕ, Option, Some, None, List, length, map, refl, sym, ap, subst, ◌∙◌}
use Rattle.std.specs.Prelude.{slice_get, option_map, Contains}
use Rattle.std.proofs.lemmas.Option.{slice_get_within, get_or_from_slice_get, slice_get_read}
use Rattle.cr_base.specs.declared.token.Name.{Name}
use Rattle.cr_scope.specs.declared.Space.{Space}
use Rattle.cr_scope.specs.declared.DeclNo.{DeclNo}
use Rattle.cr_scope.specs.Declarations.{number}
use Rattle.cr_capture.specs.Conflicts.{Pair, IsCaptured, IsHidden}
use Rattle.cr_facts.specs.FactOrder.{Facts}
use Rattle.cr_facts.specs.declared.fact.Fact.{Fact}
use Rattle.cr_binding.specs.Source.{Source, name_at}
use Rattle.cr_binding.specs.State.{LookedUp, State}
use Rattle.cr_binding.specs.UnitConflicts.{place_at, AreScopesAt, made_by, declaration_of}
use Rattle.cr_paths.specs.Paths.{path_at}
use Rattle.cr_declared.specs.declared.rows.Row.{Row}
use Rattle.cr_declared.specs.declared.rows.UseRow.{UseRow}
use Rattle.cr_declared.specs.declared.rows.UseRow.TheVariants as row
use Rattle.cr_declared.specs.declared.rows.Slot.{Slot}
use Rattle.cr_groups.specs.declared.groups.Group.{Group}
use Rattle.cr_groups.specs.Adding.{Adds}
use Rattle.cr_groups.specs.Rows.{use_of, IsDenoted, IsSound, AreGroups}
use Rattle.cr_groups.proofs.Shown.{Views}
use Rattle.cr_conflicts.specs.Clauses.{Captures, Hides, UseAdds, UsesAdd, IsCapturedBy, IsHiddenBy, IsOfMention}
use Rattle.cr_groups.proofs.Taken.{mapped, to_mapped}
use Rattle.cr_groups.proofs.Added.{adds_same}
use Rattle.cr_conflicts.proofs.Captured.{captured_from, captured_to}
use Rattle.cr_conflicts.proofs.Covered.{hidden_from, hidden_to}

pub at : {A : Type 0} (xs : List A) (k : ℕ) (x : A) → slice_get xs k ≡ Some x → Contains xs x
at xs k x e = (k, slice_get_within xs k x e, get_or_from_slice_get xs k x x e)

pub from_at : {A : Type 0} (xs : List A) (x : A) → (h : Contains xs x) → slice_get xs h.0 ≡ Some x
from_at xs x h = slice_get_read xs (length xs) h.0 x refl h.1 (sym h.2)

abbrev number_of : Option ℕ → Option DeclNo
number_of None = None
number_of (Some c) = Some (record { 0 = c })

same_number : (o : Option ℕ) → option_map number (number_of o) ≡ o
same_number None = refl
same_number (Some c) = refl

module _ (unit : ℕ) (t : Source) (s : State) (old new : Name) (ps : List (List ℕ)) (rows : List Row) (uses : List UseRow) (es : List (Slot × Group))
    (shown : Views t s ps rows uses) (groups : AreGroups unit t s old new rows es) where
  -- either clause of one use
  abbrev Both : Space → ℕ → List ℕ → ℕ → Option DeclNo → Fact → Type 0
  Both sp i path before den fa = IsCapturedBy unit t s old new sp i path before den fa ⊎ IsHiddenBy unit t s old new sp i path before den fa

  joined : (sp : Space) (i : ℕ) (path : List ℕ) (before : ℕ) (den : Option DeclNo) (fa : Fact) → Contains s.uses (LookedUp sp i path before (option_map number den)) → Both sp i path before den fa → IsOfMention unit t s old new fa
  joined sp i path before den fa there (inl (k, p, f, d, e, same, both, at, keyed, placed)) =
      (k, p, f, sp, name_at t i, i, den, (Some d, i), e, same, (path, before, there, refl, both.0), (d, refl, inl both.1), at, keyed, placed)
  joined sp i path before den fa there (inr (k, p, f, d, e, same, both, at, keyed, placed)) =
      (k, p, f, sp, name_at t i, i, den, (Some d, i), e, same, (path, before, there, refl, both.0), (d, refl, inr both.1), at, keyed, placed)

  told : (j : ℕ) (u : UseRow) (fa : Fact) → slice_get uses j ≡ Some u → IsSound t.tokens ps rows u → UseAdds t.tokens ps rows es old new u fa → IsOfMention unit t s old new fa
  told j (row.LookedUp sp i pl before dn) fa here ok h =
      let den : Option DeclNo = number_of dn in
      let e : option_map number den ≡ dn = same_number dn in
      let there : Contains s.uses (LookedUp sp i (path_at ps pl) before (option_map number den)) =
      subst (λ z. Contains s.uses (LookedUp sp i (path_at ps pl) before z)) (sym e) (subst (λ z. Contains z (LookedUp sp i (path_at ps pl) before dn)) shown.used (at (map (use_of ps) uses) j (LookedUp sp i (path_at ps pl) before dn) (to_mapped (use_of ps) uses j (row.LookedUp sp i pl before dn) here))) in
      let good : IsDenoted t.tokens ps rows sp i pl before (option_map number den) = subst (λ z. IsDenoted t.tokens ps rows sp i pl before z) (sym e) ok.3 in
      joined sp i (path_at ps pl) before den fa there
      (elim h [
        | inl c ↦ inl (captured_from unit t s old new ps rows uses es shown groups sp i pl before den good fa (subst (λ z. Captures t.tokens ps rows es old new sp i pl before z fa) (sym e) c))
        | inr c ↦ inr (hidden_from unit t s old new ps rows uses es shown groups sp i pl before den good fa (subst (λ z. Hides t.tokens ps rows es old new sp i pl before z fa) (sym e) c))
      ])
  told j (row.GoesTo i label) fa here ok h = absurd h
  told j (row.Selects i member) fa here ok h = absurd h
  told j (row.IsBuiltIn i) fa here ok h = absurd h
  told j (row.IsParameter i) fa here ok h = absurd h
  told j (row.WasAsked i path before answer) fa here ok h = absurd h

  -- the row of a use that is looked up
  row_is : (sp : Space) (i : ℕ) (path : List ℕ) (before : ℕ) (dn : Option ℕ) (u : UseRow) → LookedUp sp i path before dn ≡ use_of ps u → (pl : ℕ) × (u ≡ row.LookedUp sp i pl before dn) × (path ≡ path_at ps pl)
  row_is sp i path before dn (row.LookedUp sp' i' pl before' dn') e =
      let a : sp ≡ sp' = cc in
      let b : i ≡ i' = cc in
      let c : path ≡ path_at ps pl = cc in
      let d : before ≡ before' = cc in
      let f : dn ≡ dn' = cc in
      (pl, cc, c)
  row_is sp i path before dn (row.GoesTo i' label) e = cc
  row_is sp i path before dn (row.Selects i' member) e = cc
  row_is sp i path before dn (row.IsBuiltIn i') e = cc
  row_is sp i path before dn (row.IsParameter i') e = cc
  row_is sp i path before dn (row.WasAsked i' path' before' answer) e = cc

  adds_of : (sp : Space) (i pl before : ℕ) (den : Option DeclNo) (u : UseRow) (fa : Fact) → u ≡ row.LookedUp sp i pl before (option_map number den) → IsSound t.tokens ps rows u → Both sp i (path_at ps pl) before den fa → UseAdds t.tokens ps rows es old new u fa
  adds_of sp i pl before den u fa e ok h =
      let good : IsSound t.tokens ps rows (row.LookedUp sp i pl before (option_map number den)) = subst (λ z. IsSound t.tokens ps rows z) e ok in
      subst (λ z. UseAdds t.tokens ps rows es old new z fa) (sym e)
      (elim h [
        | inl c ↦ inl (captured_to unit t s old new ps rows uses es shown groups sp i pl before den good.3 fa c)
        | inr c ↦ inr (hidden_to unit t s old new ps rows uses es shown groups sp i pl before den good.3 fa c)
      ])

  untold : (fa : Fact) → IsOfMention unit t s old new fa → UsesAdd t.tokens ps rows es old new uses (length uses) fa
  untold fa (k, p, f, sp, name, i, den, x, d, same, (path, before, there, named, scopes), (dno, pair, either), declared, keyed, placed) =
      let u : (u : UseRow) × (slice_get uses there.0 ≡ Some u) × (LookedUp sp i path before (option_map number den) ≡ use_of ps u) =
      mapped (use_of ps) uses there.0 (LookedUp sp i path before (option_map number den)) (subst (λ z. slice_get z there.0 ≡ Some (LookedUp sp i path before (option_map number den))) (sym shown.used) (from_at s.uses (LookedUp sp i path before (option_map number den)) there)) in
      let r : (pl : ℕ) × (u.0 ≡ row.LookedUp sp i pl before (option_map number den)) × (path ≡ path_at ps pl) = row_is sp i path before (option_map number den) u.0 u.2 in
      let at : AreScopesAt t s (path_at ps r.0) (made_by den before) f = subst (λ z. AreScopesAt t s z (made_by den before) f) r.2 scopes in
      let dec : slice_get s.declarations (number dno) ≡ Some d = subst (λ z. declaration_of s z ≡ Some d) pair declared in
      let pl : p ≡ place_at t i = placed ∙ ap (λ (z : Pair). place_at t z.1) pair in (
        there.0,
        u.0,
        slice_get_within uses there.0 u.0 u.1,
        u.1,
        adds_of sp i r.0 before den u.0 fa r.1 (shown.sound there.0 u.0 u.1)
            (elim either [
              | inl c ↦ inl (k, p, f, dno, d, same, (at, subst (λ z. IsCaptured f old new sp z den dno) named c), dec, keyed, pl)
              | inr c ↦ inr (k, p, f, dno, d, same, (at, subst (λ z. IsHidden f old new sp z den dno) named c), dec, keyed, pl)
            ]),
      )

-- What the code adds is what is meant.
pub mentions_told : (unit : ℕ) (t : Source) (s : State) (old new : Name) (ps : List (List ℕ)) (rows : List Row) (uses : List UseRow) (es : List (Slot × Group)) (before after : Facts)
    → Views t s ps rows uses → AreGroups unit t s old new rows es
    → Adds before after (UsesAdd t.tokens ps rows es old new uses (length uses)) → Adds before after (IsOfMention unit t s old new)
mentions_told unit t s old new ps rows uses es before after shown groups h =
    adds_same before after (UsesAdd t.tokens ps rows es old new uses (length uses)) (IsOfMention unit t s old new)
    (λ f a. told unit t s old new ps rows uses es shown groups a.0 a.1 f a.3 (shown.sound a.0 a.1 a.3) a.4)
    (λ f a. untold unit t s old new ps rows uses es shown groups f a)
    h
