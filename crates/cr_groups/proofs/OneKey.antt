-- The declarations of one scope, name space and name are of one entity, so they have one key.
use Rattle.std.proofs.Common.{◌≡◌, ◌⊎◌, inl, inr, ℕ, zero, suc, ◌≤◌, Bool, true, false, not, ◌&&◌, ◌||◌, Some, List, [], ◌∷◌, refl, sym, ap, subst, ◌∙◌, arith, true≢false}
use Rattle.std.specs.Prelude.{slice_get, if◌then◌else◌, slice_index_or, cond}
use Rattle.std.specs.List.{find}
use Rattle.std.proofs.lemmas.Bool.{eq-eqb, cases_lt}
use Rattle.cr_base.specs.declared.token.Name.{Name}
use Rattle.cr_base.specs.declared.Kind.{Kind}
use Rattle.cr_base.specs.declared.Kind.TheVariants as kind
use Rattle.cr_base.specs.declared.key.Key.{Key}
use Rattle.cr_base.specs.declared.key.Key.TheVariants as key
use Rattle.cr_scope.specs.declared.Space.{Space}
use Rattle.cr_scope.specs.declared.Space.TheVariants as space
use Rattle.cr_scope.specs.declared.Linkage.{Linkage}
use Rattle.cr_scope.specs.declared.Linkage.TheVariants as linkage
use Rattle.cr_scope.specs.Declarations.{same_space, same_name}
use Rattle.cr_scope.specs.Linkage.{has_linkage, is_file_scope}
use Rattle.cr_scope.specs.Redeclaration.{same_path, repeats, may_repeat, are_opposite, clashes}
use Rattle.cr_scope.proofs.Paths.{and_both}
use Rattle.cr_binding.specs.Source.{Source, name_at}
use Rattle.cr_binding.specs.State.{Declaration, State}
use Rattle.cr_binding.specs.Entities.{entry, is_linked, is_tag, is_typedef, is_typedef_kind, are_one, token_or, first_token}
use Rattle.cr_binding.specs.Keys.{declaration_key, token_key, tag_kind, is_external}
use Rattle.cr_declared.specs.Rows.{is_tag_kind, is_linked_kind}
use Rattle.cr_groups.proofs.Shown.{IsWell, AreWell}

-- ---- what differs in nothing but its token and type

pub record Alike (t : Source) (d e : Declaration) : Type 0 where
  pub name : name_at t d.token ≡ name_at t e.token
  pub path : d.path ≡ e.path
  pub space : d.space ≡ e.space
  pub kind : d.kind ≡ e.kind
  pub linkage : d.linkage ≡ e.linkage

abbrev one_by : Source → Name → Linkage → List ℕ → Space → Kind → Declaration → Bool
one_by t n l p sp k x =
    same_name n (name_at t x.token)
    && ((has_linkage l && is_linked x) || (same_path p x.path && ((same_space sp space.Tag && is_tag x) || (is_typedef_kind k && is_typedef x))))

abbrev key_by : ℕ → Source → Name → Linkage → List ℕ → Space → Kind → ℕ → Key
key_by unit t n l p sp k i =
    if is_external l
    then key.Ext (slice_index_or t.texts n.0 [])
    else (if same_space sp space.Tag && is_file_scope p then key.Tag (tag_kind k) (slice_index_or t.texts n.0 []) else token_key unit t i)

pub found_in : (P : Declaration → Bool) (ds : List Declaration) (j : ℕ) (d : Declaration) → slice_get ds j ≡ Some d → P d ≡ true → (x : Declaration) × (find P ds ≡ Some x)
found_in P [] j d h p = cc
found_in P (x ∷ xs) j d h p = by (P x) refl j h (λ k at. found_in P xs k d at p)
  where
    by : (b : Bool) → P x ≡ b → (j : ℕ) → slice_get (x ∷ xs) j ≡ Some d → ((k : ℕ) → slice_get xs k ≡ Some d → (y : Declaration) × (find P xs ≡ Some y)) → (y : Declaration) × (find P (x ∷ xs) ≡ Some y)
    by true e j h more = (x, ap (λ b. cond b (Some x) (find P xs)) e)
    by false e zero h more = (let same : x ≡ d = cc in absurd (true≢false (sym p ∙ ap P (sym same) ∙ e)))
    by false e (suc j) h more = (let r : (y : Declaration) × (find P xs ≡ Some y) = more j h in (r.0, ap (λ b. cond b (Some x) (find P xs)) e ∙ r.1))

module _ (unit : ℕ) (t : Source) (s : State) where
  same_find : (d e : Declaration) (ds : List Declaration) → Alike t d e → find (are_one t d) ds ≡ find (are_one t e) ds
  same_find d e ds a =
      ap (λ n. find (one_by t n d.linkage d.path d.space d.kind) ds) a.name
      ∙ ap (λ l. find (one_by t (name_at t e.token) l d.path d.space d.kind) ds) a.linkage
      ∙ ap (λ p. find (one_by t (name_at t e.token) e.linkage p d.space d.kind) ds) a.path
      ∙ ap (λ z. find (one_by t (name_at t e.token) e.linkage e.path z d.kind) ds) a.space
      ∙ ap (λ k. find (one_by t (name_at t e.token) e.linkage e.path e.space k) ds) a.kind

  -- where one of them is of one entity with itself, they have one key
  pub alike_key : (j : ℕ) (d e : Declaration) → slice_get s.declarations j ≡ Some d → are_one t d d ≡ true → Alike t d e → declaration_key unit t s d ≡ declaration_key unit t s e
  alike_key j d e at self a =
      let r : (x : Declaration) × (find (are_one t d) s.declarations ≡ Some x) = found_in (are_one t d) s.declarations j d at self in
      let f : first_token t s.declarations d ≡ r.0.token = ap (token_or d.token) r.1 in
      let g : first_token t s.declarations e ≡ r.0.token = ap (token_or e.token) (sym (same_find d e s.declarations a) ∙ r.1) in
      ap (λ i. key_by unit t (name_at t d.token) d.linkage d.path d.space d.kind i) (f ∙ sym g)
      ∙ ap (λ n. key_by unit t n d.linkage d.path d.space d.kind (first_token t s.declarations e)) a.name
      ∙ ap (λ l. key_by unit t (name_at t e.token) l d.path d.space d.kind (first_token t s.declarations e)) a.linkage
      ∙ ap (λ p. key_by unit t (name_at t e.token) e.linkage p d.space d.kind (first_token t s.declarations e)) a.path
      ∙ ap (λ z. key_by unit t (name_at t e.token) e.linkage e.path z d.kind (first_token t s.declarations e)) a.space
      ∙ ap (λ k. key_by unit t (name_at t e.token) e.linkage e.path e.space k (first_token t s.declarations e)) a.kind

-- ---- what may repeat another is alike

same_name_refl : (n : Name) → same_name n n ≡ true
same_name_refl n = eq-eqb n.0 n.0 refl

same_path_refl : (p : List ℕ) → same_path p p ≡ true
same_path_refl [] = refl
same_path_refl (a ∷ p) = ap (λ z. z && same_path p p) (eq-eqb a a refl) ∙ same_path_refl p

one_kind : (l : Bool) (a b : Kind) → repeats l a b ≡ true → a ≡ b
one_kind l kind.Function kind.Function h = refl
one_kind l kind.Object kind.Object h = refl
one_kind l kind.Typedef kind.Typedef h = refl
one_kind l kind.Struct kind.Struct h = refl
one_kind l kind.Union kind.Union h = refl
one_kind l kind.Enum kind.Enum h = refl
one_kind l _ _ h = absurd (true≢false (sym h))

-- one of three kinds of things is declared again
sorts : (l : Bool) (k : Kind) → repeats l k k ≡ true → ((is_linked_kind k ≡ true) × (l ≡ true)) ⊎ ((is_linked_kind k ≡ false) × ((is_tag_kind k || is_typedef_kind k) ≡ true))
sorts l kind.Function h = inl (refl, h)
sorts l kind.Object h = inl (refl, h)
sorts l kind.Typedef h = inr (refl, refl)
sorts l kind.Struct h = inr (refl, refl)
sorts l kind.Union h = inr (refl, refl)
sorts l kind.Enum h = inr (refl, refl)
sorts l _ h = absurd (true≢false (sym h))

linked_alike : (a b : Linkage) → has_linkage a ≡ true → has_linkage b ≡ true → are_opposite a b ≡ false → a ≡ b
linked_alike linkage.Internal linkage.Internal g h k = refl
linked_alike linkage.External linkage.External g h k = refl
linked_alike linkage.Internal linkage.External g h k = absurd (true≢false k)
linked_alike linkage.External linkage.Internal g h k = absurd (true≢false k)
linked_alike linkage.None b g h k = absurd (true≢false (sym g))
linked_alike a linkage.None g h k = absurd (true≢false (sym h))

unlinked : (a : Linkage) → has_linkage a ≡ false → a ≡ linkage.None
unlinked linkage.None h = refl
unlinked linkage.Internal h = absurd (true≢false h)
unlinked linkage.External h = absurd (true≢false h)

no_linkage : (d : Declaration) → IsWell d → is_linked_kind d.kind ≡ false → has_linkage d.linkage ≡ false
no_linkage d f h = by (has_linkage d.linkage) refl
  where
    by : (b : Bool) → has_linkage d.linkage ≡ b → b ≡ false
    by false e = refl
    by true e = absurd (true≢false (sym (f.linked e) ∙ h))

not_clash : (n p : Bool) (o : Bool) → n ≡ true → (n && (p || o)) ≡ false → (p ≡ false) × (o ≡ false)
not_clash true true o e h = absurd (true≢false h)
not_clash true false o e h = (refl, h)
not_clash false p o e h = absurd (true≢false (sym e))

not_other : (p s r : Bool) → p ≡ true → s ≡ true → (p && (s && not r)) ≡ false → r ≡ true
not_other true true true e f h = refl
not_other true true false e f h = absurd (true≢false h)
not_other true false r e f h = absurd (true≢false (sym f))
not_other false s r e f h = absurd (true≢false (sym e))

same_space_refl : (a : Space) → same_space a a ≡ true
same_space_refl space.Label = refl
same_space_refl space.Tag = refl
same_space_refl space.Ordinary = refl

self_linked : (n l p z k : Bool) → n ≡ true → l ≡ true → (n && ((l && l) || (p && ((z && z) || (k && k))))) ≡ true
self_linked true true p z k g h = refl
self_linked true false p z k g h = absurd (true≢false (sym h))
self_linked false l p z k g h = absurd (true≢false (sym g))

self_other : (n l p z k : Bool) → n ≡ true → p ≡ true → (z || k) ≡ true → (n && ((l && l) || (p && ((z && z) || (k && k))))) ≡ true
self_other true true p z k g h i = refl
self_other true false true true k g h i = refl
self_other true false true false true g h i = refl
self_other true false true false false g h i = absurd (true≢false (sym i))
self_other true false false z k g h i = absurd (true≢false (sym h))
self_other false l p z k g h i = absurd (true≢false (sym g))

-- a later declaration e of what d declares
pub later_alike : (t : Source) (d e : Declaration) → IsWell d → IsWell e → d.path ≡ e.path → d.space ≡ e.space → name_at t d.token ≡ name_at t e.token → clashes (entry t e) (entry t d) ≡ false
    → Alike t d e × (are_one t d d ≡ true)
later_alike t d e fd fe path sp name apart =
    let n : same_name (name_at t e.token) (name_at t d.token) ≡ true = subst (λ z. same_name (name_at t e.token) z ≡ true) (sym name) (same_name_refl (name_at t e.token)) in
    let p : same_path e.path d.path ≡ true = subst (λ z. same_path e.path z ≡ true) (sym path) (same_path_refl e.path) in
    let z : same_space e.space d.space ≡ true = subst (λ z. same_space e.space z ≡ true) (sym sp) (same_space_refl e.space) in
    let c = not_clash (same_name (name_at t e.token) (name_at t d.token)) (same_path e.path d.path && (same_space e.space d.space && not (may_repeat (entry t e).decl (entry t d).decl))) (are_opposite e.linkage d.linkage) n apart in
    let r : repeats (has_linkage e.linkage && has_linkage d.linkage) e.kind d.kind ≡ true = not_other (same_path e.path d.path) (same_space e.space d.space) (may_repeat (entry t e).decl (entry t d).decl) p z c.0 in
    let k : e.kind ≡ d.kind = one_kind (has_linkage e.linkage && has_linkage d.linkage) e.kind d.kind r in
    elim (sorts (has_linkage e.linkage && has_linkage d.linkage) d.kind (subst (λ z. repeats (has_linkage e.linkage && has_linkage d.linkage) z d.kind ≡ true) k r)) [
      | inl x ↦ (let b : (has_linkage e.linkage ≡ true) × (has_linkage d.linkage ≡ true) = and_both (has_linkage e.linkage) (has_linkage d.linkage) x.1 in (
        record { name = name; path = path; space = sp; kind = sym k; linkage = sym (linked_alike e.linkage d.linkage b.0 b.1 c.1) },
        self_linked (same_name (name_at t d.token) (name_at t d.token)) (has_linkage d.linkage) (same_path d.path d.path) (is_tag d) (is_typedef d) (same_name_refl (name_at t d.token)) b.1,
      ))
      | inr x ↦ (let ld : d.linkage ≡ linkage.None = unlinked d.linkage (no_linkage d fd x.0) in
          let le : e.linkage ≡ linkage.None = unlinked e.linkage (no_linkage e fe (ap is_linked_kind k ∙ x.0)) in (
            record { name = name; path = path; space = sp; kind = sym k; linkage = ld ∙ sym le },
            self_other (same_name (name_at t d.token) (name_at t d.token)) (has_linkage d.linkage) (same_path d.path d.path) (is_tag d) (is_typedef d) (same_name_refl (name_at t d.token)) (same_path_refl d.path) (ap (λ b. b || is_typedef d) fd.tags ∙ x.1),
          ))
    ]

pub one_key : (unit : ℕ) (t : Source) (s : State) → AreWell t s.declarations → (i j : ℕ) (d e : Declaration) → slice_get s.declarations i ≡ Some d → slice_get s.declarations j ≡ Some e → i ≤ j
    → d.path ≡ e.path → d.space ≡ e.space → name_at t d.token ≡ name_at t e.token → declaration_key unit t s d ≡ declaration_key unit t s e
one_key unit t s a i j d e at bt le path sp name =
    elim (cases_lt i j) [
      | inl lt ↦ (let r = later_alike t d e (a.formed i d at) (a.formed j e bt) path sp name (a.apart i j d e at bt lt) in alike_key unit t s i d e at r.1 r.0)
      | inr ge ↦ (let same : i ≡ j = omega (arith, le, ge) in
          let f : slice_get s.declarations j ≡ Some d = subst (λ z. slice_get s.declarations z ≡ Some d) same at in
          let g : Some d ≡ Some e = sym f ∙ bt in
          let h : d ≡ e = cc in
          ap (declaration_key unit t s) h)
    ]

pub one_sort : (t : Source) (ds : List Declaration) → AreWell t ds → (i j : ℕ) (d e : Declaration) → slice_get ds i ≡ Some d → slice_get ds j ≡ Some e → i ≤ j
    → d.path ≡ e.path → d.space ≡ e.space → name_at t d.token ≡ name_at t e.token → d.kind ≡ e.kind
one_sort t ds a i j d e at bt le path sp name =
    elim (cases_lt i j) [
      | inl lt ↦ (let r : Alike t d e × (are_one t d d ≡ true) = later_alike t d e (a.formed i d at) (a.formed j e bt) path sp name (a.apart i j d e at bt lt) in r.0.kind)
      | inr ge ↦ (let same : i ≡ j = omega (arith, le, ge) in
          let f : slice_get ds j ≡ Some d = subst (λ z. slice_get ds z ≡ Some d) same at in
          let g : Some d ≡ Some e = sym f ∙ bt in
          let h : d ≡ e = cc in
          ap (λ (z : Declaration). z.kind) h)
    ]
