-- The nature of what a row of the old name declares is that of what is declared.
use Rattle.std.proofs.Common.{◌≡◌, ◌⊎◌, inl, inr, ℕ, Bool, true, false, ◌&&◌, ◌||◌, eqb, cond, Option, Some, None, List, [], ◌∷◌, refl, sym, ap, subst, ◌∙◌, arith, true≢false}
use Rattle.std.specs.Prelude.{slice_get, position, is_some, if◌then◌else◌, Contains}
use Rattle.std.proofs.lemmas.Bool.{eqb-true, eq-eqb, cases_lt}
use Rattle.cr_base.specs.declared.token.Name.{Name}
use Rattle.cr_base.specs.declared.key.Kind.{Kind}
use Rattle.cr_base.specs.declared.key.Kind.TheVariants as kind
use Rattle.cr_scope.specs.declared.Space.TheVariants as space
use Rattle.cr_scope.specs.Declarations.{Entry, same_name}
use Rattle.cr_scope.specs.Linkage.{has_linkage, is_file_scope}
use Rattle.cr_scope.specs.Redeclaration.{same_path}
use Rattle.cr_scope.proofs.Paths.{and_both}
use Rattle.cr_binding.specs.Source.{Source, name_at}
use Rattle.cr_binding.specs.State.{Declaration, State}
use Rattle.cr_binding.specs.Entities.{entry, is_linked, is_tag, is_typedef, is_typedef_kind, are_one}
use Rattle.cr_binding.specs.Resolution.{Declared}
use Rattle.cr_binding.specs.UnitFacts.{HasKind, IsAtFileScope}
use Rattle.cr_declared.specs.declared.rows.Row.{Row}
use Rattle.cr_declared.specs.declared.rows.UseRow.{UseRow}
use Rattle.cr_declared.specs.Rows.{entry_of, is_tag_kind, is_linked_kind, AreRows}
use Rattle.cr_groups.specs.Built.{is_linked_row}
use Rattle.cr_groups.proofs.Grouped.{both, row_both, first_position, is_first_path, names_same}
use Rattle.cr_conflicts.proofs.Bound.{position_means}
use Rattle.cr_groups.proofs.OneKey.{one_sort}
use Rattle.cr_groups.proofs.Shown.{Views, IsWell, AreWell}
use Rattle.cr_groups.proofs.Taken.{spaces_same}
use Rattle.cr_conflicts.proofs.Mentioned.{at, from_at}
use Rattle.cr_unit_facts.specs.declared.nature.Nature.{Nature}
use Rattle.cr_unit_facts.specs.Occurring.{IsOfNature, is_function, is_object, is_linked_function, is_linked_object, is_linked_outside, any_row, linked_nature, nature_of}

-- ---- tests on lists

abbrev Passes : {A : Type 0} → (A → Bool) → List A → Type 0
Passes {A} p xs = (j : ℕ) × (x : A) × (slice_get xs j ≡ Some x) × (p x ≡ true)

any_from : {A : Type 0} (p : A → Bool) (xs : List A) → is_some (position p xs) ≡ true → Passes p xs
any_from {A} p xs h = by (position p xs) refl h
  where
    by : (o : Option ℕ) → position p xs ≡ o → is_some o ≡ true → Passes p xs
    by None e k = absurd (true≢false (sym k))
    by (Some j) e k = (let m = position_means p xs j e in (j, m.0, m.1.0, m.1.1))

any_to : {A : Type 0} (p : A → Bool) (xs : List A) → Passes p xs → is_some (position p xs) ≡ true
any_to p xs (j, x, h, e) = ap is_some (first_position p xs j x h e).2

if_there : (b : Bool) (k c : Kind) → cond b (Some k) None ≡ Some c → (b ≡ true) × (k ≡ c)
if_there true k c h = (refl, cc)
if_there false k c h = cc

function_is : (k : Kind) → is_function k ≡ true → k ≡ kind.Function
function_is kind.Function h = refl
function_is _ h = absurd (true≢false (sym h))

object_is : (k : Kind) → is_object k ≡ true → k ≡ kind.Object
object_is kind.Object h = refl
object_is _ h = absurd (true≢false (sym h))

-- a linked kind is one of two
linked_is : (k : Kind) → is_linked_kind k ≡ true → (k ≡ kind.Function) ⊎ (k ≡ kind.Object)
linked_is kind.Function h = inl refl
linked_is kind.Object h = inr refl
linked_is _ h = absurd (true≢false (sym h))

no_tag : (k : Kind) → is_linked_kind k ≡ true → (is_tag_kind k ≡ false) × (is_typedef_kind k ≡ false)
no_tag kind.Function h = (refl, refl)
no_tag kind.Object h = (refl, refl)
no_tag _ h = absurd (true≢false (sym h))

paths_are : (p q : List ℕ) → same_path p q ≡ true → p ≡ q
paths_are [] [] h = refl
paths_are [] (b ∷ q) h = absurd (true≢false (sym h))
paths_are (a ∷ p) [] h = absurd (true≢false (sym h))
paths_are (a ∷ p) (b ∷ q) h =
    let x : (eqb a b ≡ true) × (same_path p q ≡ true) = and_both (eqb a b) (same_path p q) h in
    let e : a ≡ b = eqb-true a b x.0 in
    let f : p ≡ q = paths_are p q x.1 in
    cc

-- ---- tests on two declarations

linked_parts : (n l m p z k a b : Bool) → l ≡ true → z ≡ false → k ≡ false → (n && ((l && m) || (p && ((z && a) || (k && b))))) ≡ true → (n ≡ true) × (m ≡ true)
linked_parts true true true p false false a b g h i e = (refl, refl)
linked_parts true true false true false false a b g h i e = absurd (true≢false (sym e))
linked_parts true true false false false false a b g h i e = absurd (true≢false (sym e))
linked_parts false l m p z k a b g h i e = absurd (true≢false (sym e))
linked_parts true false m p z k a b g h i e = absurd (true≢false (sym g))
linked_parts true true m p true k a b g h i e = absurd (true≢false h)
linked_parts true true m p false true a b g h i e = absurd (true≢false i)

linked_whole : (n l m p z k a b : Bool) → n ≡ true → l ≡ true → m ≡ true → (n && ((l && m) || (p && ((z && a) || (k && b))))) ≡ true
linked_whole true true true p z k a b g h i = refl
linked_whole false l m p z k a b g h i = absurd (true≢false (sym g))
linked_whole true false m p z k a b g h i = absurd (true≢false (sym h))
linked_whole true true false p z k a b g h i = absurd (true≢false (sym i))

other_parts : (n l m p z k a b : Bool) → l ≡ false → (n && ((l && m) || (p && ((z && a) || (k && b))))) ≡ true → (n ≡ true) × (p ≡ true) × (((z ≡ true) × (a ≡ true)) ⊎ ((k ≡ true) × (b ≡ true)))
other_parts true false m true true k true b g h = (refl, refl, inl (refl, refl))
other_parts true false m true z true a true g h = (refl, refl, inr (refl, refl))
other_parts true false m true true true false false g h = absurd (true≢false (sym h))
other_parts true false m true true false false b g h = absurd (true≢false (sym h))
other_parts true false m true false true a false g h = absurd (true≢false (sym h))
other_parts true false m true false false a b g h = absurd (true≢false (sym h))
other_parts true false m false z k a b g h = absurd (true≢false (sym h))
other_parts false l m p z k a b g h = absurd (true≢false (sym h))
other_parts true true m p z k a b g h = absurd (true≢false g)

module _ (unit : ℕ) (t : Source) (s : State) (old new : Name) (ps : List (List ℕ)) (rows : List Row) (uses : List UseRow)
    (shown : Views t s ps rows uses) (kept : AreRows ps rows) (well : AreWell t s.declarations)
    (i : ℕ) (x : Row) (d : Declaration) (ax : slice_get rows i ≡ Some x) (ad : slice_get s.declarations i ≡ Some d) (same : entry_of ps x ≡ entry t d) (named : x.decl.name ≡ old) where
  row_pair : (j : ℕ) (y : Row) → slice_get rows j ≡ Some y → (e : Declaration) × (slice_get s.declarations j ≡ Some e) × (entry_of ps y ≡ entry t e)
  row_pair = both unit t s old new ps rows uses shown kept well

  pair_row : (j : ℕ) (e : Declaration) → slice_get s.declarations j ≡ Some e → (y : Row) × (slice_get rows j ≡ Some y) × (entry t e ≡ entry_of ps y)
  pair_row = row_both unit t s old new ps rows uses shown kept well

  abbrev linked : Nature
  linked = linked_nature old rows

  of_kind : x.decl.kind ≡ d.kind
  of_kind = ap (λ (z : Entry). z.decl.kind) same

  of_linkage : has_linkage x.decl.linkage ≡ has_linkage d.linkage
  of_linkage = ap (λ (z : Entry). has_linkage z.decl.linkage) same

  of_name : name_at t d.token ≡ old
  of_name = sym (ap (λ (z : Entry). z.decl.name) same) ∙ named

  of_scope : eqb x.path 0 ≡ is_file_scope d.path
  of_scope = is_first_path ps rows kept i x ax ∙ ap (λ (z : Entry). is_file_scope z.path) same

  formed : IsWell d
  formed = well.formed i d ad

  -- ---- an entity with linkage

  module _ (has : has_linkage d.linkage ≡ true) where
    -- another declaration of it, with its row
    other_row : (e : Declaration) → Contains s.declarations e → ((e ≡ d) ⊎ (are_one t d e ≡ true)) → (j : ℕ) × (y : Row) × (slice_get rows j ≡ Some y) × (is_linked_row old y ≡ true) × (slice_get s.declarations j ≡ Some e) × (entry t e ≡ entry_of ps y)
    other_row e there one =
        let q : (same_name (name_at t d.token) (name_at t e.token) ≡ true) × (is_linked e ≡ true) = elim one [
          | inl h ↦ (ap (λ (z : Declaration). same_name (name_at t d.token) (name_at t z.token)) h ∙ eq-eqb (name_at t d.token).0 (name_at t d.token).0 refl, ap (λ (z : Declaration). is_linked z) h ∙ has)
          | inr h ↦ (let n = no_tag d.kind (formed.linked has) in
              linked_parts (same_name (name_at t d.token) (name_at t e.token)) (is_linked d) (is_linked e) (same_path d.path e.path) (is_tag d) (is_typedef d) (is_tag e) (is_typedef e) has (formed.tags ∙ n.0) n.1 h)
        ] in
        let je : slice_get s.declarations there.0 ≡ Some e = from_at s.declarations e there in
        let y = pair_row there.0 e je in
        let ne : y.0.decl.name ≡ old = sym (ap (λ (z : Entry). z.decl.name) y.2) ∙ sym (names_same (name_at t d.token) (name_at t e.token) q.0) ∙ of_name in
        let le : has_linkage y.0.decl.linkage ≡ true = sym (ap (λ (z : Entry). has_linkage z.decl.linkage) y.2) ∙ q.1 in
        let te : (has_linkage y.0.decl.linkage && same_name y.0.decl.name old) ≡ true =
        ap (λ b. b && same_name y.0.decl.name old) le ∙ ap (same_name y.0.decl.name) (sym ne) ∙ eq-eqb y.0.decl.name.0 y.0.decl.name.0 refl in
        (there.0, y.0, y.1, te, je, y.2)

    row_other : (j : ℕ) (y : Row) → slice_get rows j ≡ Some y → is_linked_row old y ≡ true → (e : Declaration) × Contains s.declarations e × (are_one t d e ≡ true) × (entry_of ps y ≡ entry t e)
    row_other j y ay is =
        let e = row_pair j y ay in
        let q = and_both (has_linkage y.decl.linkage) (same_name y.decl.name old) is in
        let le : is_linked e.0 ≡ true = sym (ap (λ (z : Entry). has_linkage z.decl.linkage) e.2) ∙ q.0 in
        let ne : name_at t e.0.token ≡ name_at t d.token = sym (ap (λ (z : Entry). z.decl.name) e.2) ∙ names_same y.decl.name old q.1 ∙ sym of_name in
        let n : same_name (name_at t d.token) (name_at t e.0.token) ≡ true = ap (same_name (name_at t d.token)) ne ∙ eq-eqb (name_at t d.token).0 (name_at t d.token).0 refl in (
          e.0,
          at s.declarations j e.0 e.1,
          linked_whole (same_name (name_at t d.token) (name_at t e.0.token)) (is_linked d) (is_linked e.0) (same_path d.path e.0.path) (is_tag d) (is_typedef d) (is_tag e.0) (is_typedef e.0) n has le,
          e.2,
        )

    linked_kind_from : (c : Kind) → IsOfNature linked c → HasKind t s (Declared d) c
    linked_kind_from c (inl h) =
        let q = if_there (any_row (is_linked_function old) rows) kind.Function c h in
        let m = any_from (is_linked_function old) rows q.0 in
        let r = and_both (is_linked_row old m.1) (is_function m.1.decl.kind) m.3 in
        let e = row_other m.0 m.1 m.2 r.0 in
        (e.0, e.1, inr e.2, sym q.1 ∙ sym (function_is m.1.decl.kind r.1) ∙ ap (λ (z : Entry). z.decl.kind) e.3)
    linked_kind_from c (inr h) =
        let q = if_there (any_row (is_linked_object old) rows) kind.Object c h in
        let m = any_from (is_linked_object old) rows q.0 in
        let r = and_both (is_linked_row old m.1) (is_object m.1.decl.kind) m.3 in
        let e = row_other m.0 m.1 m.2 r.0 in
        (e.0, e.1, inr e.2, sym q.1 ∙ sym (object_is m.1.decl.kind r.1) ∙ ap (λ (z : Entry). z.decl.kind) e.3)

    linked_kind_to : (c : Kind) → HasKind t s (Declared d) c → IsOfNature linked c
    linked_kind_to c (e, there, one, is) =
        let y = other_row e there one in
        let ky : y.1.decl.kind ≡ e.kind = sym (ap (λ (z : Entry). z.decl.kind) y.5) in
        let fe : IsWell e = well.formed y.0 e y.4 in
        let le : is_linked e ≡ true = ap (λ (z : Entry). has_linkage z.decl.linkage) y.5 ∙ (and_both (has_linkage y.1.decl.linkage) (same_name y.1.decl.name old) y.3).0 in
        elim (linked_is e.kind (fe.linked le)) [
          | inl k ↦ inl (ap (λ b. cond b (Some kind.Function) None) (any_to (is_linked_function old) rows (y.0, y.1, y.2, ap (λ b. b && is_function y.1.decl.kind) y.3 ∙ ap is_function (ky ∙ k))) ∙ ap Some (sym k ∙ sym is))
          | inr k ↦ inr (ap (λ b. cond b (Some kind.Object) None) (any_to (is_linked_object old) rows (y.0, y.1, y.2, ap (λ b. b && is_object y.1.decl.kind) y.3 ∙ ap is_object (ky ∙ k))) ∙ ap Some (sym k ∙ sym is))
        ]

    linked_scope_from : linked.file_scope ≡ true → IsAtFileScope t s (Declared d)
    linked_scope_from h =
        let m = any_from (is_linked_outside old) rows h in
        let r = and_both (is_linked_row old m.1) (eqb m.1.path 0) m.3 in
        let e = row_other m.0 m.1 m.2 r.0 in
        (e.0, e.1, inr e.2, sym (is_first_path ps rows kept m.0 m.1 m.2 ∙ ap (λ (z : Entry). is_file_scope z.path) e.3) ∙ r.1)

    linked_scope_to : IsAtFileScope t s (Declared d) → linked.file_scope ≡ true
    linked_scope_to (e, there, one, is) =
        let y = other_row e there one in
        any_to (is_linked_outside old) rows
        (y.0, y.1, y.2, ap (λ b. b && eqb y.1.path 0) y.3 ∙ is_first_path ps rows kept y.0 y.1 y.2 ∙ sym (ap (λ (z : Entry). is_file_scope z.path) y.5) ∙ is)

  -- ---- any other

  module _ (none : has_linkage d.linkage ≡ false) where
    -- the declarations of one entity have one kind and scope
    alike : (e : Declaration) → Contains s.declarations e → ((e ≡ d) ⊎ (are_one t d e ≡ true)) → (e.kind ≡ d.kind) × (e.path ≡ d.path)
    alike e there (inl h) = (ap (λ (z : Declaration). z.kind) h, ap (λ (z : Declaration). z.path) h)
    alike e there (inr h) =
        let je : slice_get s.declarations there.0 ≡ Some e = from_at s.declarations e there in
        let fe : IsWell e = well.formed there.0 e je in
        let q = other_parts (same_name (name_at t d.token) (name_at t e.token)) (is_linked d) (is_linked e) (same_path d.path e.path) (is_tag d) (is_typedef d) (is_tag e) (is_typedef e) none h in
        let path : d.path ≡ e.path = paths_are d.path e.path q.1 in
        let name : name_at t d.token ≡ name_at t e.token = names_same (name_at t d.token) (name_at t e.token) q.0 in
        let sp : d.space ≡ e.space = elim q.2 [
          | inl k ↦ spaces_same d.space space.Tag k.0 ∙ sym (spaces_same e.space space.Tag k.1)
          | inr k ↦ formed.types k.0 ∙ sym (fe.types k.1)
        ] in
        let kind_is : e.kind ≡ d.kind = elim (cases_lt i there.0) [
          | inl lt ↦ sym (one_sort t s.declarations well i there.0 d e ad je (omega (arith, lt)) path sp name)
          | inr ge ↦ one_sort t s.declarations well there.0 i e d je ad ge (sym path) (sym sp) (sym name)
        ] in
        (kind_is, sym path)

    abbrev single : Nature
    single = record { kind = Some x.decl.kind; other = None; file_scope = eqb x.path 0 }

    here : Contains s.declarations d
    here = at s.declarations i d ad

    other_kind_from : (c : Kind) → IsOfNature single c → HasKind t s (Declared d) c
    other_kind_from c (inl h) = (let e : x.decl.kind ≡ c = cc in (d, here, inl refl, sym e ∙ of_kind))
    other_kind_from c (inr h) = cc

    other_kind_to : (c : Kind) → HasKind t s (Declared d) c → IsOfNature single c
    other_kind_to c (e, there, one, is) = inl (ap Some (of_kind ∙ sym (alike e there one).0 ∙ sym is))

    other_scope_from : single.file_scope ≡ true → IsAtFileScope t s (Declared d)
    other_scope_from h = (d, here, inl refl, sym of_scope ∙ h)

    other_scope_to : IsAtFileScope t s (Declared d) → single.file_scope ≡ true
    other_scope_to (e, there, one, is) = of_scope ∙ ap is_file_scope (sym (alike e there one).1) ∙ is

  -- ---- both

  pick : (b : Bool) → has_linkage x.decl.linkage ≡ b → nature_of linked x ≡ (if b then linked else record { kind = Some x.decl.kind; other = None; file_scope = eqb x.path 0 })
  pick b e = ap (λ z. if z then linked else record { kind = Some x.decl.kind; other = None; file_scope = eqb x.path 0 }) e

  pub kind_from : (c : Kind) → IsOfNature (nature_of linked x) c → HasKind t s (Declared d) c
  kind_from c h = by (has_linkage x.decl.linkage) refl
    where
      by : (b : Bool) → has_linkage x.decl.linkage ≡ b → HasKind t s (Declared d) c
      by true e = linked_kind_from (sym of_linkage ∙ e) c (subst (λ z. IsOfNature z c) (pick true e) h)
      by false e = other_kind_from (sym of_linkage ∙ e) c (subst (λ z. IsOfNature z c) (pick false e) h)

  pub kind_to : (c : Kind) → HasKind t s (Declared d) c → IsOfNature (nature_of linked x) c
  kind_to c h = by (has_linkage x.decl.linkage) refl
    where
      by : (b : Bool) → has_linkage x.decl.linkage ≡ b → IsOfNature (nature_of linked x) c
      by true e = subst (λ z. IsOfNature z c) (sym (pick true e)) (linked_kind_to (sym of_linkage ∙ e) c h)
      by false e = subst (λ z. IsOfNature z c) (sym (pick false e)) (other_kind_to (sym of_linkage ∙ e) c h)

  pub scope_from : (nature_of linked x).file_scope ≡ true → IsAtFileScope t s (Declared d)
  scope_from h = by (has_linkage x.decl.linkage) refl
    where
      by : (b : Bool) → has_linkage x.decl.linkage ≡ b → IsAtFileScope t s (Declared d)
      by true e = linked_scope_from (sym of_linkage ∙ e) (sym (ap (λ (z : Nature). z.file_scope) (pick true e)) ∙ h)
      by false e = other_scope_from (sym of_linkage ∙ e) (sym (ap (λ (z : Nature). z.file_scope) (pick false e)) ∙ h)

  pub scope_to : IsAtFileScope t s (Declared d) → (nature_of linked x).file_scope ≡ true
  scope_to h = by (has_linkage x.decl.linkage) refl
    where
      by : (b : Bool) → has_linkage x.decl.linkage ≡ b → (nature_of linked x).file_scope ≡ true
      by true e = ap (λ (z : Nature). z.file_scope) (pick true e) ∙ linked_scope_to (sym of_linkage ∙ e) h
      by false e = ap (λ (z : Nature). z.file_scope) (pick false e) ∙ other_scope_to (sym of_linkage ∙ e) h
