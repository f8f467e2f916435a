-- What the rows tell of identifiers is what is meant.
use Rattle.std.proofs.Common.{◌≡◌, ◌⊎◌, inl, inr, ℕ, zero, suc, ◌<◌, ◌≤◌, Bool, true, false, ◌&&◌, eqb, cond, Option, Some, None, List, [], ◌∷◌, length, refl, sym, ap, subst, ◌∙◌, arith, true≢false}
use Rattle.std.specs.Prelude.{slice_get, Contains}
use Rattle.std.specs.List.{find}
use Rattle.std.proofs.lemmas.Bool.{eqb-true, eq-eqb, cases_lt}
use Rattle.std.proofs.lemmas.Option.{slice_get_within}
use Rattle.cr_base.specs.declared.token.Name.{Name}
use Rattle.cr_base.specs.declared.token.Place.{Place}
use Rattle.cr_base.specs.declared.token.Origin.{Origin}
use Rattle.cr_base.specs.declared.token.Origin.TheVariants.{At, Made}
use Rattle.cr_base.specs.declared.token.Tok.{Tok}
use Rattle.cr_base.specs.declared.key.Key.{Key}
use Rattle.cr_base.specs.declared.key.Key.TheVariants as key
use Rattle.cr_base.specs.declared.key.Kind.{Kind}
use Rattle.cr_base.specs.declared.key.Kind.TheVariants as kind
use Rattle.cr_scope.specs.declared.Space.{Space}
use Rattle.cr_scope.specs.Declarations.{Entry}
use Rattle.cr_scope.proofs.Paths.{and_both}
use Rattle.cr_facts.specs.declared.fact.Fact.{Fact}
use Rattle.cr_facts.specs.declared.fact.Fact.TheVariants as fact
use Rattle.cr_binding.specs.Source.{Source, name_at, token_of}
use Rattle.cr_binding.specs.State.{Declaration, Member, Use, Selects, IsBuiltIn, State}
use Rattle.cr_binding.specs.Declaring.{declaration_at}
use Rattle.cr_binding.specs.Entities.{entry}
use Rattle.cr_binding.specs.Resolution.{Declared, InRecord, BuiltIn, Occurrence, own_members, means_declared, means_member, meant_by}
use Rattle.cr_binding.specs.Keys.{declaration_key, member_key, key_of}
use Rattle.cr_binding.specs.UnitFacts.{HasKind, IsAtFileScope, is_shared}
use Rattle.cr_declared.specs.declared.rows.Row.{Row}
use Rattle.cr_declared.specs.declared.rows.UseRow.{UseRow}
use Rattle.cr_declared.specs.declared.rows.UseRow.TheVariants as row
use Rattle.cr_declared.specs.declared.rows.Slot.{Slot}
use Rattle.cr_declared.specs.Rows.{entry_of, slot_of, AreRows}
use Rattle.cr_groups.specs.declared.groups.Group.{Group}
use Rattle.cr_groups.specs.Groups.{find_group}
use Rattle.cr_groups.specs.Adding.{OfFirst}
use Rattle.cr_groups.specs.Rows.{name_in, use_of, IsSound, IsOneOf, AreGroups}
use Rattle.cr_groups.proofs.Building.{slot_itself}
use Rattle.cr_groups.proofs.Grouped.{both, row_both, find_at}
use Rattle.cr_groups.proofs.Shown.{Views, AreWell}
use Rattle.cr_groups.proofs.Taken.{mapped, to_mapped}
use Rattle.cr_conflicts.specs.Members.{row_of, AreMembers, member_key_in}
use Rattle.cr_conflicts.specs.declared.members.MemberRow.{MemberRow}
use Rattle.cr_conflicts.proofs.Asked.{find_means}
use Rattle.cr_conflicts.proofs.Keyed.{member_key_is}
use Rattle.cr_conflicts.proofs.Mentioned.{at, from_at}
use Rattle.cr_unit_facts.specs.declared.nature.Nature.{Nature}
use Rattle.cr_unit_facts.specs.Meant.{declared_in, members_in, used_in, OccurrenceTells, AnyTells, AnyIsNew}
use Rattle.cr_unit_facts.specs.Occurring.{IsOfNature, SaysAt, SaysBy, Says, TokenSays, linked_nature, nature_of}
use Rattle.cr_unit_facts.specs.Telling.{RowTells, DeclaredTells, member_nature, no_nature, MemberTells, own_token, DenotedTells, SelectedTells, UseTells}
use Rattle.cr_unit_facts.proofs.Lists.{in_map, to_map, in_flat, to_flat, in_filter, to_filter, find_filter}
use Rattle.cr_unit_facts.proofs.Natured.{kind_from, kind_to, scope_from, scope_to}

-- what is said by kinds and a scope is said by others that follow
says_at : (declares : Type 0) (K L : Kind → Type 0) (S T : Type 0) (k : Key) (p : Place) → ((c : Kind) → K c → L c) → (S → T) → (f : Fact) → SaysAt declares K S k p f → SaysAt declares L T k p f
says_at declares K L S T k p g h f (inl m) = inl m
says_at declares K L S T k p g h f (inr (inl (c, is, same))) = inr (inl (c, g c is, same))
says_at declares K L S T k p g h f (inr (inr (is, same))) = inr (inr (h is, same))

says_by : (declares : Type 0) (K L : Kind → Type 0) (S T : Type 0) (k : Key) (site : Place) → ((c : Kind) → K c → L c) → (S → T) → (f : Fact) (o : Origin) → SaysBy declares K S k site f o → SaysBy declares L T k site f o
says_by declares K L S T k site g h f (At p) m = says_at declares K L S T k p g h f m
says_by declares K L S T k site g h f Made m = m

pub says : (declares : Type 0) (K L : Kind → Type 0) (S T : Type 0) (k l : Key) (x : Tok) → ((c : Kind) → K c → L c) → (S → T) → k ≡ l → (f : Fact) → Says declares K S k x f → Says declares L T l x f
says declares K L S T k l x g h e f m = subst (λ z. Says declares L T z x f) e (says_by declares K L S T k x.site g h f x.origin m)

is_member : (c : Kind) → IsOfNature member_nature c → c ≡ kind.Member
is_member c (inl h) = (let e : kind.Member ≡ c = cc in sym e)
is_member c (inr h) = cc

no_kind : (c : Kind) → IsOfNature no_nature c → ⊥
no_kind c (inl h) = cc
no_kind c (inr h) = cc

own_is : (b : Bool) (k i : ℕ) → cond b (Some k) None ≡ Some i → (b ≡ true) × (k ≡ i)
own_is true k i h = (refl, cc)
own_is false k i h = cc

module _ (unit : ℕ) (t : Source) (s : State) (old new : Name) (ps : List (List ℕ)) (rows : List Row) (uses : List UseRow) (members : List MemberRow) (records : List ℕ) (es : List (Slot × Group))
    (shown : Views t s ps rows uses) (kept : AreRows ps rows) (well : AreWell t s.declarations) (groups : AreGroups unit t s old new rows es) (are : AreMembers s members records) where
  abbrev linked : Nature
  linked = linked_nature old rows

  abbrev Tells : Bool → Occurrence → Fact → Type 0
  Tells declares x f = OccurrenceTells unit t s old declares x f

  row_pair : (j : ℕ) (y : Row) → slice_get rows j ≡ Some y → (e : Declaration) × (slice_get s.declarations j ≡ Some e) × (entry_of ps y ≡ entry t e)
  row_pair = both unit t s old new ps rows uses shown kept well

  pair_row : (j : ℕ) (e : Declaration) → slice_get s.declarations j ≡ Some e → (y : Row) × (slice_get rows j ≡ Some y) × (entry t e ≡ entry_of ps y)
  pair_row = row_both unit t s old new ps rows uses shown kept well

  group_is : (j : ℕ) (x : Row) → slice_get rows j ≡ Some x → IsOneOf old new x.decl.name → (g : Group) × (find_group (slot_of x) es ≡ Some g)
  group_is j x h one = by (find_group (slot_of x) es) refl
    where
      by : (o : Option Group) → find_group (slot_of x) es ≡ o → (g : Group) × (find_group (slot_of x) es ≡ Some g)
      by None e = absurd (groups.none (slot_of x) one e j x h (slot_itself x))
      by (Some g) e = (g, e)

  -- ---- what rows declare

  module _ (j : ℕ) (x : Row) (d : Declaration) (ax : slice_get rows j ≡ Some x) (ad : slice_get s.declarations j ≡ Some d) (same : entry_of ps x ≡ entry t d) where
    key_is : (g : Group) → find_group (slot_of x) es ≡ Some g → g.key ≡ declaration_key unit t s d
    key_is g some = (groups.some (slot_of x) g some).keyed j x d ax (slot_itself x) ad

    row_from : (i : ℕ) (declares : Bool) (f : Fact) → x.decl.name ≡ old → name_at t i ≡ old → RowTells t.tokens es linked i declares x f → Tells declares (i, Declared d) f
    row_from i declares f named spelled (g, some, m) = (
      spelled,
      says (declares ≡ true) (IsOfNature (nature_of linked x)) (HasKind t s (Declared d)) ((nature_of linked x).file_scope ≡ true) (IsAtFileScope t s (Declared d)) g.key (declaration_key unit t s d) (token_of t i)
          (kind_from unit t s old new ps rows uses shown kept well j x d ax ad same named)
          (scope_from unit t s old new ps rows uses shown kept well j x d ax ad same named)
          (key_is g some) f m,
    )

    row_to : (i : ℕ) (declares : Bool) (f : Fact) → x.decl.name ≡ old → Tells declares (i, Declared d) f → RowTells t.tokens es linked i declares x f
    row_to i declares f named (spelled, m) =
        let g = group_is j x ax (inl named) in (
          g.0,
          g.1,
          says (declares ≡ true) (HasKind t s (Declared d)) (IsOfNature (nature_of linked x)) (IsAtFileScope t s (Declared d)) ((nature_of linked x).file_scope ≡ true) (declaration_key unit t s d) g.0.key (token_of t i)
              (kind_to unit t s old new ps rows uses shown kept well j x d ax ad same named)
              (scope_to unit t s old new ps rows uses shown kept well j x d ax ad same named)
              (sym (key_is g.0 g.1)) f m,
        )

  abbrev Declares : Fact → Type 0
  Declares f = AnyTells unit t s old true (declared_in s) f ⊎ AnyIsNew unit t s new (declared_in s) f

  declared_from : (j : ℕ) (x : Row) (f : Fact) → slice_get rows j ≡ Some x → DeclaredTells t.tokens es old new linked x f → Declares f
  declared_from j x f ax (inl (named, m)) =
      let d = row_pair j x ax in
      let token : x.decl.token ≡ d.0.token = ap (λ (z : Entry). z.decl.token) d.2 in
      let spelled : name_at t x.decl.token ≡ old = ap (name_at t) token ∙ sym (ap (λ (z : Entry). z.decl.name) d.2) ∙ named in
      inl (
        (d.0.token, Declared d.0),
        to_map {A = Declaration} (λ e. (e.token, Declared e)) s.declarations j d.0 d.1,
        subst (λ i. Tells true (i, Declared d.0) f) token (row_from j x d.0 ax d.1 d.2 x.decl.token true f named spelled m),
      )
  declared_from j x f ax (inr (named, (g, some, shared, is))) =
      let d = row_pair j x ax in
      let k : g.key ≡ declaration_key unit t s d.0 = key_is j x d.0 ax d.1 d.2 g some in
      inr (
        (d.0.token, Declared d.0),
        to_map {A = Declaration} (λ e. (e.token, Declared e)) s.declarations j d.0 d.1,
        sym (ap (λ (z : Entry). z.decl.name) d.2) ∙ named,
        sym (ap is_shared k) ∙ shared,
        is ∙ ap fact.NewKey k,
      )

  abbrev DeclaredAdds : Fact → Type 0
  DeclaredAdds f = OfFirst (DeclaredTells t.tokens es old new linked) rows (length rows) f

  declared_old : (j : ℕ) (d : Declaration) (f : Fact) → slice_get s.declarations j ≡ Some d → Tells true (d.token, Declared d) f → DeclaredAdds f
  declared_old j d f ad m =
      let x = pair_row j d ad in
      let token : d.token ≡ x.0.decl.token = ap (λ (z : Entry). z.decl.token) x.2 in
      let named : x.0.decl.name ≡ old = sym (ap (λ (z : Entry). z.decl.name) x.2) ∙ m.0 in
      (j, x.0, slice_get_within rows j x.0 x.1, x.1, inl (named, row_to j x.0 d x.1 ad (sym x.2) x.0.decl.token true f named (subst (λ i. Tells true (i, Declared d) f) token m)))

  declared_new : (j : ℕ) (d : Declaration) (f : Fact) → slice_get s.declarations j ≡ Some d → name_at t d.token ≡ new → is_shared (declaration_key unit t s d) ≡ true → f ≡ fact.NewKey (declaration_key unit t s d) → DeclaredAdds f
  declared_new j d f ad spelled shared is =
      let x = pair_row j d ad in
      let named : x.0.decl.name ≡ new = sym (ap (λ (z : Entry). z.decl.name) x.2) ∙ spelled in
      let g = group_is j x.0 x.1 (inr named) in
      let k : g.0.key ≡ declaration_key unit t s d = key_is j x.0 d x.1 ad (sym x.2) g.0 g.1 in
      (j, x.0, slice_get_within rows j x.0 x.1, x.1, inr (named, (g.0, g.1, ap is_shared k ∙ shared, is ∙ ap fact.NewKey (sym k))))

  pub declared_told : (f : Fact) → DeclaredAdds f → Declares f
  declared_told f (j, x, lt, ax, m) = declared_from j x f ax m

  pub declared_untold : (f : Fact) → Declares f → DeclaredAdds f
  declared_untold f (inl (o, there, m)) =
      let d = in_map {A = Declaration} (λ e. (e.token, Declared e)) s.declarations o there in
      declared_old d.0 d.1 f d.2 (subst (λ z. Tells true z f) d.3 m)
  declared_untold f (inr (o, there, spelled, shared, is)) =
      let d = in_map {A = Declaration} (λ e. (e.token, Declared e)) s.declarations o there in
      declared_new d.0 d.1 f d.2
      (sym (ap (λ (z : Occurrence). name_at t z.0) d.3) ∙ spelled)
      (sym (ap (λ (z : Occurrence). is_shared (key_of unit t s z.0 z.1)) d.3) ∙ shared)
      (is ∙ ap (λ (z : Occurrence). fact.NewKey (key_of unit t s z.0 z.1)) d.3)

  -- ---- members

  member_at : (j : ℕ) (x : MemberRow) → slice_get members j ≡ Some x → (m : Member) × (slice_get s.members j ≡ Some m) × (x ≡ row_of m)
  member_at j x h = mapped row_of s.members j x (subst (λ z. slice_get z j ≡ Some x) are.members_are h)

  at_member : (j : ℕ) (m : Member) → slice_get s.members j ≡ Some m → slice_get members j ≡ Some (row_of m)
  at_member j m h = subst (λ z. slice_get z j ≡ Some (row_of m)) (sym are.members_are) (to_mapped row_of s.members j m h)

  abbrev key_in : MemberRow → Key
  key_in x = member_key_in unit t.texts t.tokens rows records x

  member_is : (m : Member) → key_in (row_of m) ≡ member_key unit t s m
  member_is m = member_key_is unit t s ps rows uses shown kept members records m are

  member_from : (m : Member) (i : ℕ) (declares : Bool) (f : Fact) → name_at t i ≡ old → TokenSays t.tokens i declares member_nature (key_in (row_of m)) f → Tells declares (i, InRecord m) f
  member_from m i declares f spelled h = (
    spelled,
    says (declares ≡ true) (IsOfNature member_nature) (HasKind t s (InRecord m)) (false ≡ true) (IsAtFileScope t s (InRecord m)) (key_in (row_of m)) (member_key unit t s m) (token_of t i)
        is_member (λ e. absurd (true≢false (sym e))) (member_is m) f h,
  )

  member_to : (m : Member) (i : ℕ) (declares : Bool) (f : Fact) → Tells declares (i, InRecord m) f → TokenSays t.tokens i declares member_nature (key_in (row_of m)) f
  member_to m i declares f (spelled, h) =
      says (declares ≡ true) (HasKind t s (InRecord m)) (IsOfNature member_nature) (IsAtFileScope t s (InRecord m)) (false ≡ true) (member_key unit t s m) (key_in (row_of m)) (token_of t i)
      (λ c e. inl (ap Some (sym e))) (λ e. absurd e.2) (sym (member_is m)) f h

  abbrev IsOwn : Member → Bool
  IsOwn m = eqb m.own m.holder

  abbrev Members : Fact → Type 0
  Members f = AnyTells unit t s old true (members_in s) f ⊎ AnyIsNew unit t s new (members_in s) f

  abbrev MembersAdd : Fact → Type 0
  MembersAdd f = OfFirst (MemberTells unit t.texts t.tokens rows records old new) members (length members) f

  own_there : (j : ℕ) (m : Member) → slice_get s.members j ≡ Some m → m.own ≡ m.holder → Contains (members_in s) (m.token, InRecord m)
  own_there j m h own =
      let c : Contains (own_members s) m = to_filter (λ n. eqb n.own n.holder) s.members j m h (eq-eqb m.own m.holder own) in
      to_map {A = Member} (λ n. (n.token, InRecord n)) (own_members s) c.0 m (from_at (own_members s) m c)

  member_row : (j : ℕ) (m : Member) (f : Fact) → slice_get s.members j ≡ Some m → MemberTells unit t.texts t.tokens rows records old new (row_of m) f → Members f
  member_row j m f h (own, inl (named, k)) = inl ((m.token, InRecord m), own_there j m h own, member_from m m.token true f named k)
  member_row j m f h (own, inr (named, is)) = inr ((m.token, InRecord m), own_there j m h own, named, refl, is ∙ ap fact.NewKey (member_is m))

  pub members_told : (f : Fact) → MembersAdd f → Members f
  members_told f (j, x, lt, ax, h) =
      let m = member_at j x ax in
      member_row j m.0 f m.1 (subst (λ z. MemberTells unit t.texts t.tokens rows records old new z f) m.2 h)

  -- a member where it is written
  own_at : (o : Occurrence) → Contains (members_in s) o → (j : ℕ) × (m : Member) × (slice_get s.members j ≡ Some m) × (m.own ≡ m.holder) × (o ≡ (m.token, InRecord m))
  own_at o there =
      let r = in_map {A = Member} (λ n. (n.token, InRecord n)) (own_members s) o there in
      let q = in_filter (λ (n : Member). eqb n.own n.holder) s.members r.1 (at (own_members s) r.0 r.1 r.2) in
      (q.0, r.1, q.1, eqb-true r.1.own r.1.holder q.2, r.3)

  pub members_untold : (f : Fact) → Members f → MembersAdd f
  members_untold f (inl (o, there, h)) =
      let m = own_at o there in
      let k : Tells true (m.1.token, InRecord m.1) f = subst (λ z. Tells true z f) m.4 h in
      (m.0, row_of m.1, slice_get_within members m.0 (row_of m.1) (at_member m.0 m.1 m.2), at_member m.0 m.1 m.2, (m.3, inl (k.0, member_to m.1 m.1.token true f k)))
  members_untold f (inr (o, there, spelled, shared, is)) =
      let m = own_at o there in (
        m.0,
        row_of m.1,
        slice_get_within members m.0 (row_of m.1) (at_member m.0 m.1 m.2),
        at_member m.0 m.1 m.2,
        (m.3, inr (sym (ap (λ (z : Occurrence). name_at t z.0) m.4) ∙ spelled, is ∙ ap (λ (z : Occurrence). fact.NewKey (key_of unit t s z.0 z.1)) m.4 ∙ ap fact.NewKey (sym (member_is m.1)))),
      )

  -- ---- uses

  abbrev UsesAdd : Fact → Type 0
  UsesAdd f = OfFirst (UseTells unit t.texts t.tokens rows es records members old linked) uses (length uses) f

  abbrev Used : Fact → Type 0
  Used f = AnyTells unit t s old false (used_in s) f

  abbrev Within : Use → Fact → Type 0
  Within u f = AnyTells unit t s old false (meant_by s u) f

  alone : (o : Occurrence) → Contains (o ∷ []) o
  alone o = at (o ∷ []) 0 o refl

  alone_is : (o p : Occurrence) → Contains (o ∷ []) p → p ≡ o
  alone_is o p h = by h.0 (from_at (o ∷ []) p h)
    where
      by : (j : ℕ) → slice_get (o ∷ []) j ≡ Some p → p ≡ o
      by zero e = (let q : o ≡ p = cc in sym q)
      by (suc j) e = cc

  -- what a name denotes
  abbrev Means : ℕ → Option ℕ → Fact → Type 0
  Means i n f = AnyTells unit t s old false (means_declared i (declaration_at s n)) f

  denoted_from : (i c : ℕ) (f : Fact) → ((x : Row) → slice_get rows c ≡ Some x → x.decl.name ≡ name_in t.tokens i) → DenotedTells t.tokens rows es old linked i (Some c) f → Means i (Some c) f
  denoted_from i c f names (spelled, (x, ax, h)) =
      let d = row_pair c x ax in
      let there : Contains (means_declared i (slice_get s.declarations c)) (i, Declared d.0) = subst (λ z. Contains (means_declared i z) (i, Declared d.0)) (sym d.1) (alone (i, Declared d.0)) in
      ((i, Declared d.0), there, row_from c x d.0 ax d.1 d.2 i false f (names x ax ∙ spelled) spelled h)

  denoted_to : (i c : ℕ) (f : Fact) → ((x : Row) → slice_get rows c ≡ Some x → x.decl.name ≡ name_in t.tokens i) → Means i (Some c) f → DenotedTells t.tokens rows es old linked i (Some c) f
  denoted_to i c f names (o, there, h) = by (slice_get s.declarations c) refl there
    where
      by : (r : Option Declaration) → slice_get s.declarations c ≡ r → Contains (means_declared i r) o → DenotedTells t.tokens rows es old linked i (Some c) f
      by None e k = absurd (omega (arith, k.1))
      by (Some d) e k =
          let q : o ≡ (i, Declared d) = alone_is (i, Declared d) o k in
          let m : Tells false (i, Declared d) f = subst (λ z. Tells false z f) q h in
          let x = pair_row c d e in
          (m.0, (x.0, x.1, row_to c x.0 d x.1 e (sym x.2) i false f (names x.0 x.1 ∙ m.0) m))

  -- what is selected
  own_find : (i : ℕ) → find (λ (m : Member). eqb m.token i) (own_members s) ≡ find (λ (m : Member). eqb m.own m.holder && eqb m.token i) s.members
  own_find i = find_filter (λ (m : Member). eqb m.own m.holder) (λ (m : Member). eqb m.token i) s.members

  not_true : (b : Bool) → (b ≡ true → ⊥) → b ≡ false
  not_true true f = absurd (f refl)
  not_true false f = refl

  own_both : (x : MemberRow) (i : ℕ) → (eqb x.own x.holder && eqb x.token i) ≡ true → own_token x ≡ Some i
  own_both x i h =
      let q = and_both (eqb x.own x.holder) (eqb x.token i) h in
      ap (λ b. cond b (Some x.token) None) q.0 ∙ ap Some (eqb-true x.token i q.1)

  both_own : (x : MemberRow) (i : ℕ) → own_token x ≡ Some i → (eqb x.own x.holder && eqb x.token i) ≡ true
  both_own x i h =
      let q = own_is (eqb x.own x.holder) x.token i h in
      ap (λ b. b && eqb x.token i) q.0 ∙ eq-eqb x.token i q.1

  selected_from : (i member : ℕ) (f : Fact) → name_at t i ≡ old → SelectedTells unit t.texts t.tokens rows records members i member f → Within (Selects i member) f
  selected_from i member f spelled (c, first, h) =
      let x : MemberRow = first.itself.0 in
      let m = member_at c x first.itself.1 in
      let found : find (λ (n : Member). eqb n.token member) (own_members s) ≡ Some m.0 =
      own_find member
      ∙ find_at (λ (n : Member). eqb n.own n.holder && eqb n.token member) s.members c m.0 m.1
      (both_own (row_of m.0) member (subst (λ z. own_token z ≡ Some member) m.2 first.itself.2))
      (λ j n lt bt. not_true (eqb n.own n.holder && eqb n.token member) (λ e.
      let le : c ≤ j = first.earliest j (row_of n) (at_member j n bt) (own_both (row_of n) member e) in
      omega (arith, lt, le))) in
      let there : Contains (means_member i (find (λ (n : Member). eqb n.token member) (own_members s))) (i, InRecord m.0) = subst (λ z. Contains (means_member i z) (i, InRecord m.0)) (sym found) (alone (i, InRecord m.0)) in
      ((i, InRecord m.0), there, member_from m.0 i false f spelled (subst (λ z. TokenSays t.tokens i false member_nature (key_in z) f) m.2 h))

  selected_to : (i member : ℕ) (f : Fact) → Within (Selects i member) f → (name_in t.tokens i ≡ old) × SelectedTells unit t.texts t.tokens rows records members i member f
  selected_to i member f (o, there, h) = by (find (λ (n : Member). eqb n.token member) (own_members s)) refl there
    where
      by : (r : Option Member) → find (λ (n : Member). eqb n.token member) (own_members s) ≡ r → Contains (means_member i r) o → (name_in t.tokens i ≡ old) × SelectedTells unit t.texts t.tokens rows records members i member f
      by None e k = absurd (omega (arith, k.1))
      by (Some m) e k =
          let q : o ≡ (i, InRecord m) = alone_is (i, InRecord m) o k in
          let w : Tells false (i, InRecord m) f = subst (λ z. Tells false z f) q h in
          let a = find_means (λ (n : Member). eqb n.own n.holder && eqb n.token member) s.members m (sym (own_find member) ∙ e) in (
            w.0,
            (
              a.0,
              record {
                before = slice_get_within members a.0 (row_of m) (at_member a.0 m a.1);
                itself = (row_of m, at_member a.0 m a.1, own_both (row_of m) member a.2);
                earliest = λ j z zt ez. order a.0 a.3 j z zt ez;
              },
              member_to m i false f w,
            ),
          )
        where
          order : (c : ℕ) → ((j : ℕ) (n : Member) → j < c → slice_get s.members j ≡ Some n → (eqb n.own n.holder && eqb n.token member) ≡ false) → (j : ℕ) (z : MemberRow) → slice_get members j ≡ Some z → own_token z ≡ Some member → c ≤ j
          order c none j z zt ez =
              let n = member_at j z zt in
              elim (cases_lt j c) [
                | inl lt ↦ absurd (true≢false (sym (both_own (row_of n.0) member (subst (λ w. own_token w ≡ Some member) n.2 ez)) ∙ none j n.0 lt n.1))
                | inr ge ↦ ge
              ]

  built_from : (i : ℕ) (f : Fact) → name_at t i ≡ old → TokenSays t.tokens i false no_nature (key.Made unit i) f → Within (IsBuiltIn i) f
  built_from i f spelled h = (
    (i, BuiltIn),
    alone (i, BuiltIn),
    (
      spelled,
      says (false ≡ true) (IsOfNature no_nature) (HasKind t s BuiltIn) (false ≡ true) (IsAtFileScope t s BuiltIn) (key.Made unit i) (key.Made unit i) (token_of t i)
          no_kind (λ e. absurd (true≢false (sym e))) refl f h,
    ),
  )

  built_to : (i : ℕ) (f : Fact) → Within (IsBuiltIn i) f → (name_in t.tokens i ≡ old) × TokenSays t.tokens i false no_nature (key.Made unit i) f
  built_to i f (o, there, h) =
      let q : o ≡ (i, BuiltIn) = alone_is (i, BuiltIn) o there in
      let w : Tells false (i, BuiltIn) f = subst (λ z. Tells false z f) q h in
      (w.0, says (false ≡ true) (HasKind t s BuiltIn) (IsOfNature no_nature) (IsAtFileScope t s BuiltIn) (false ≡ true) (key.Made unit i) (key.Made unit i) (token_of t i) (λ c e. absurd e) (λ e. absurd e.2) refl f w.1)

  -- what is denoted has the name
  looked_up : (sp : Space) (i path before c : ℕ) → IsSound t.tokens ps rows (row.LookedUp sp i path before (Some c)) → (x : Row) → slice_get rows c ≡ Some x → x.decl.name ≡ name_in t.tokens i
  looked_up sp i path before c sound x ax =
      let e : Some sound.3.1 ≡ Some x = sym sound.3.2 ∙ ax in
      let q : sound.3.1 ≡ x = cc in
      ap (λ (z : Row). z.decl.name) (sym q) ∙ sound.3.4

  labelled : (i label : ℕ) → IsSound t.tokens ps rows (row.GoesTo i label) → (x : Row) → slice_get rows label ≡ Some x → x.decl.name ≡ name_in t.tokens i
  labelled i label sound x ax =
      let e : Some sound.1.0 ≡ Some x = sym sound.1.1 ∙ ax in
      let q : sound.1.0 ≡ x = cc in
      ap (λ (z : Row). z.decl.name) (sym q) ∙ sound.1.2

  use_from : (u : UseRow) (f : Fact) → IsSound t.tokens ps rows u → UseTells unit t.texts t.tokens rows es records members old linked u f → Within (use_of ps u) f
  use_from (row.LookedUp sp i path before None) f sound h = absurd h
  use_from (row.LookedUp sp i path before (Some c)) f sound h = denoted_from i c f (looked_up sp i path before c sound) h
  use_from (row.GoesTo i label) f sound h = denoted_from i label f (labelled i label sound) h
  use_from (row.Selects i member) f sound h = selected_from i member f h.0 h.1
  use_from (row.IsBuiltIn i) f sound h = built_from i f h.0 h.1
  use_from (row.IsParameter i) f sound h = absurd h
  use_from (row.WasAsked i path before answer) f sound h = absurd h

  use_to : (u : UseRow) (f : Fact) → IsSound t.tokens ps rows u → Within (use_of ps u) f → UseTells unit t.texts t.tokens rows es records members old linked u f
  use_to (row.LookedUp sp i path before None) f sound (o, there, h) = absurd (omega (arith, there.1))
  use_to (row.LookedUp sp i path before (Some c)) f sound h = denoted_to i c f (looked_up sp i path before c sound) h
  use_to (row.GoesTo i label) f sound h = denoted_to i label f (labelled i label sound) h
  use_to (row.Selects i member) f sound h = selected_to i member f h
  use_to (row.IsBuiltIn i) f sound h = built_to i f h
  use_to (row.IsParameter i) f sound (o, there, h) = absurd (omega (arith, there.1))
  use_to (row.WasAsked i path before answer) f sound (o, there, h) = absurd (omega (arith, there.1))

  pub uses_told : (f : Fact) → UsesAdd f → Used f
  uses_told f (j, u, lt, au, h) =
      let w = use_from u f (shown.sound j u au) h in
      let a : slice_get s.uses j ≡ Some (use_of ps u) = subst (λ z. slice_get z j ≡ Some (use_of ps u)) shown.used (to_mapped (use_of ps) uses j u au) in
      (w.0, to_flat (meant_by s) s.uses j (use_of ps u) w.0 a w.1, w.2)

  pub uses_untold : (f : Fact) → Used f → UsesAdd f
  uses_untold f (o, there, h) =
      let r = in_flat (meant_by s) s.uses o there in
      let u : (u : UseRow) × (slice_get uses r.0 ≡ Some u) × (r.1 ≡ use_of ps u) = mapped (use_of ps) uses r.0 r.1 (subst (λ z. slice_get z r.0 ≡ Some r.1) (sym shown.used) r.2) in
      (r.0, u.0, slice_get_within uses r.0 u.0 u.1, u.1, use_to u.0 f (shown.sound r.0 u.0 u.1) (o, subst (λ z. Contains (meant_by s z) o) u.2 r.3, h))
