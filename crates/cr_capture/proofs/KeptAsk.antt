-- A denied ask is kept.
use Rattle.std.proofs.Common.{◌≡◌, ℕ, ◌<◌, ◌≤◌, ◌⊎◌, inl, inr, Bool, true, false, cond, not, ◌&&◌, ◌||◌, Option, Some, None, List, [], ◌∷◌, refl, sym, ◌∙◌, ap, subst, arith}
use Rattle.std.specs.Prelude.{slice_get}
use Rattle.std.proofs.lemmas.Bool.{eq-eqb, cases_lt}
use Rattle.cr_base.specs.declared.Name.{Name}
use Rattle.cr_base.specs.declared.Kind.{Kind}
use Rattle.cr_base.specs.declared.Kind.TheVariants as kind
use Rattle.cr_scope.specs.declared.Space.{Space}
use Rattle.cr_scope.specs.declared.Space.TheVariants as space
use Rattle.cr_scope.specs.Declarations.{Entry, Flat, depth, number, lookup, same_space}
use Rattle.cr_scope.specs.Meaning.{Sees, IsLookup, LookupMeans}
use Rattle.cr_scope.specs.Linkage.{has_linkage}
use Rattle.cr_scope.specs.Redeclaration.{same_path, repeats, may_repeat, are_opposite, clashes}
use Rattle.cr_capture.specs.declared.Mention.TheVariants as mention
use Rattle.cr_capture.specs.Conflicts.{IsTypedef, IsTypeName, IsTypedefOver}
use Rattle.cr_capture.specs.Renaming.{Class, renamed, all_renamed, IsRenaming, IsFree, AreFree, AreAccepted, IsFreeParameter, KeepsAsk}
use Rattle.cr_capture.proofs.Beside.{same_prefix}
use Rattle.cr_capture.proofs.Renamed.{numbered, renamed_at, from_renamed, no_collision, Answers}
use Rattle.cr_capture.proofs.KeptLinkage.{same_names}

-- declarations that may stand beside each other are both typedefs, or neither is
pub repeats_typedef : (linked : Bool) (k : Kind) → repeats linked kind.Typedef k ≡ true → k ≡ kind.Typedef
repeats_typedef linked kind.Typedef h = refl
repeats_typedef linked _ h = cc

pub typedef_repeats : (linked : Bool) (k : Kind) → repeats linked k kind.Typedef ≡ true → k ≡ kind.Typedef
typedef_repeats linked kind.Typedef h = refl
typedef_repeats linked _ h = cc

pub path_itself : (p : List ℕ) → same_path p p ≡ true
path_itself [] = refl
path_itself (a ∷ p) = ap (λ z. z && same_path p p) (eq-eqb a a refl) ∙ path_itself p

pub space_itself : (s : Space) → same_space s s ≡ true
space_itself space.Label = refl
space_itself space.Tag = refl
space_itself space.Ordinary = refl

pub or_first : (b c : Bool) → (b || c) ≡ false → b ≡ false
or_first true c h = cc
or_first false c h = refl

pub not_no : (b : Bool) → not b ≡ false → b ≡ true
not_no true h = refl
not_no false h = cc

pub not_refused : (d e : Entry) → clashes d e ≡ false → d.path ≡ e.path → d.decl.space ≡ e.decl.space → d.decl.name ≡ e.decl.name → may_repeat d.decl e.decl ≡ true
not_refused d e h p s n =
    let rest : Bool = (same_path d.path e.path && (same_space d.decl.space e.decl.space && not (may_repeat d.decl e.decl))) || are_opposite d.decl.linkage e.decl.linkage in
    let a : rest ≡ false = ap (λ z. z && rest) (sym (same_names d.decl.name e.decl.name n)) ∙ h in
    let b : (same_path d.path e.path && (same_space d.decl.space e.decl.space && not (may_repeat d.decl e.decl))) ≡ false = or_first (same_path d.path e.path && (same_space d.decl.space e.decl.space && not (may_repeat d.decl e.decl))) (are_opposite d.decl.linkage e.decl.linkage) a in
    let path : same_path d.path e.path ≡ true = ap (same_path d.path) (sym p) ∙ path_itself d.path in
    let of_space : same_space d.decl.space e.decl.space ≡ true = ap (same_space d.decl.space) (sym s) ∙ space_itself d.decl.space in
    not_no (may_repeat d.decl e.decl)
    (ap (λ z. z && not (may_repeat d.decl e.decl)) (sym of_space)
    ∙ ap (λ z. z && (same_space d.decl.space e.decl.space && not (may_repeat d.decl e.decl))) (sym path)
    ∙ b)

module _ (es : List Entry) (accepted : AreAccepted es) where
  pub one_sort : (i j : ℕ) (c d : Entry) → slice_get es i ≡ Some c → slice_get es j ≡ Some d → c.path ≡ d.path → c.decl.space ≡ d.decl.space → c.decl.name ≡ d.decl.name → IsTypedef c → IsTypedef d
  one_sort i j c d hc hd p s n t =
      elim (cases_lt i j) [
        | inl lt ↦
            (let r : may_repeat d.decl c.decl ≡ true = not_refused d c (accepted j i d c lt hd hc) (sym p) (sym s) (sym n) in
            typedef_repeats (has_linkage d.decl.linkage && has_linkage c.decl.linkage) d.decl.kind
            (ap (repeats (has_linkage d.decl.linkage && has_linkage c.decl.linkage) d.decl.kind) (sym t) ∙ r))
        | inr le ↦
            elim (cases_lt j i) [
              | inl lt ↦
                  (let r : may_repeat c.decl d.decl ≡ true = not_refused c d (accepted i j c d lt hc hd) p s n in
                  repeats_typedef (has_linkage c.decl.linkage && has_linkage d.decl.linkage) d.decl.kind
                  (ap (λ k. repeats (has_linkage c.decl.linkage && has_linkage d.decl.linkage) k d.decl.kind) (sym t) ∙ r))
              | inr ge ↦
                  (let q : i ≡ j = omega arith in
                  let g : Some c ≡ Some d = sym hc ∙ ap (slice_get es) q ∙ hd in
                  let k : c ≡ d = cc in
                  subst IsTypedef k t)
            ]
      ]

module _ (class : Class) (old new : Name) (f : Flat) (name : Name) (token : ℕ) (parameter : Bool) (of : IsRenaming class old new f.entries) (accepted : AreAccepted f.entries) (before : AreFree class f old new) (free : IsFree class f old new (mention.Asked name token parameter)) (was_no : IsTypeName f name → ⊥) (means : LookupMeans) where
  abbrev pub after : Flat
  after = all_renamed class new f

  abbrev pub Sees_in : Flat → Name → ℕ → Entry → Type 0
  Sees_in g n j e = Sees g.present space.Ordinary n g.entries j e

  abbrev pub Is : Flat → Name → ℕ → Entry → Type 0
  Is g n j e = IsLookup g.present space.Ordinary n g.entries j e

  -- a visible declaration of another class is visible afterwards
  pub seen_after : (n : Name) (j : ℕ) (d : Entry) (b : Bool) → class d ≡ b → b ≡ false → Sees_in f n j d → Sees_in after n j (renamed class new d)
  seen_after n j d b cd kept h =
      record {
        there = renamed_at class new f.entries j d h.there;
        visible = h.visible;
        in_space = h.in_space;
        named = ap (λ z. cond z new d.decl.name) (cd ∙ kept) ∙ h.named;
      }

  -- what is new is in no class
  pub not_class : (j : ℕ) (d : Entry) (b : Bool) → class d ≡ b → Sees_in f new j d → b ≡ false
  not_class j d true cd h = absurd (of.differ (sym (of.named j d h.there cd) ∙ h.named))
  not_class j d false cd h = refl

  -- what is renamed and found under new stands deeper than all of new
  pub over : (i : ℕ) (e : Entry) → slice_get f.entries i ≡ Some e → class e ≡ true → Is after new i (renamed class new e) → (j : ℕ) (d : Entry) → Sees_in f new j d → depth d < depth e
  over i e there ce is j d h =
      elim (is.best j (renamed class new d) (seen_after new j d (class d) refl (not_class j d (class d) refl h) h)) [
        | inl k ↦ k
        | inr k ↦
            absurd
            (no_collision class old new f before (numbered i) (numbered j) e d there ce (of.named i e there ce) h.there h.named
            (same_prefix e.path d.path f.present is.seen.visible h.visible (sym k.0))
            (is.seen.in_space ∙ sym h.in_space))
      ]

  pub typedef_over : (i : ℕ) (e : Entry) → slice_get f.entries i ≡ Some e → class e ≡ true → IsTypedef e → Is after new i (renamed class new e) → IsTypedefOver f old new (numbered i)
  typedef_over i e there ce td is =
      record {
        itself = e;
        seen = record { there = there; visible = is.seen.visible; in_space = is.seen.in_space; named = of.named i e there ce };
        sort = td;
        deeper = λ c g h. over i e there ce is (number c) g h;
      }

  -- of those that are not renamed the last of the deepest is so before
  pub best_new : (i : ℕ) (e : Entry) → slice_get f.entries i ≡ Some e → e.decl.name ≡ new → Is after new i (renamed class new e) → Is f new i e
  best_new i e there named is =
      record {
        seen = record { there = there; visible = is.seen.visible; in_space = is.seen.in_space; named = named };
        best = λ j d h. is.best j (renamed class new d) (seen_after new j d (class d) refl (not_class j d (class d) refl h) h);
      }

  -- the token keeps its name, and what is found is not renamed
  pub kept_by : (i : ℕ) (e : Entry) → slice_get f.entries i ≡ Some e → e.decl.name ≡ name → IsTypedef e → Is after name i (renamed class new e) → (k : ℕ) (g : Entry) → Is f name k g → (b : Bool) → class g ≡ b → ⊥
  kept_by i e there named td is k g first true cg =
      let o : name ≡ old = sym first.seen.named ∙ of.named k g first.seen.there cg in
      let se : Sees_in f name i e = record { there = there; visible = is.seen.visible; in_space = is.seen.in_space; named = named } in
      let nt : IsTypedef g → ⊥ = λ t. was_no (numbered k, g, first, t) in
      elim (first.best i e se) [
        | inl lt ↦
            free (numbered k) token g
            (inr (inl (
              o,
              numbered k,
              refl,
              record {
                itself = g;
                seen = subst (λ z. Sees_in f z k g) o first.seen;
                sort = nt;
                other = numbered i;
                outer = e;
                other_seen = subst (λ z. Sees_in f z i e) o se;
                other_sort = td;
                deeper = lt;
              },
            )))
            first.seen.there
            cg
        | inr q ↦
            nt
            (one_sort f.entries accepted i k e g there first.seen.there
            (same_prefix e.path g.path f.present is.seen.visible first.seen.visible q.0)
            (is.seen.in_space ∙ sym first.seen.in_space)
            (named ∙ sym first.seen.named)
            td)
      ]
  kept_by i e there named td is k g first false cg =
      let se : Sees_in f name i e = record { there = there; visible = is.seen.visible; in_space = is.seen.in_space; named = named } in
      let x : (depth e < depth g) ⊎ ((depth e ≡ depth g) × (i ≤ k)) = first.best i e se in
      let y : (depth g < depth e) ⊎ ((depth g ≡ depth e) × (k ≤ i)) = is.best k (renamed class new g) (seen_after name k g false cg refl first.seen) in
      let same : k ≡ i = elim x [
        | inl a ↦
            elim y [ inl b ↦ absurd (omega arith) | inr b ↦ (let q : depth g ≡ depth e = b.0 in absurd (omega arith)) ]
        | inr a ↦
            elim y [ inl b ↦ (let q : depth e ≡ depth g = a.0 in absurd (omega arith)) | inr b ↦ omega (arith, a.1, b.1) ]
      ] in
      let h : Some g ≡ Some e = sym first.seen.there ∙ ap (slice_get f.entries) same ∙ there in
      let q : g ≡ e = cc in
      was_no (numbered k, g, first, subst IsTypedef (sym q) td)

  pub kept_found : (i : ℕ) (e : Entry) → slice_get f.entries i ≡ Some e → e.decl.name ≡ name → IsTypedef e → Is after name i (renamed class new e) → (r : Option ℕ) → Answers f.present space.Ordinary name f.entries r → ⊥
  kept_found i e there named td is None m =
      m i e (record { there = there; visible = is.seen.visible; in_space = is.seen.in_space; named = named })
  kept_found i e there named td is (Some k) m = kept_by i e there named td is k m.0 m.1 (class m.0) refl

  pub no_kept : (itself : Bool) → IsFreeParameter itself f old new name token parameter → (i : ℕ) (e : Entry) (b : Bool) → class e ≡ b → slice_get f.entries i ≡ Some e → IsTypedef e → cond b new e.decl.name ≡ cond itself new name → Is after (cond itself new name) i (renamed class new e) → ⊥
  no_kept true own i e true ce there td n is =
      free (numbered i) token e
      (inl (inr ((own refl).0, (own refl).1, numbered i, refl, typedef_over i e there ce td is)))
      there
      ce
  no_kept true own i e false ce there td n is =
      (own refl).2 token
      (inr (inr ((own refl).0, (own refl).1, refl, (numbered i, e, best_new i e there n is, td))))
  no_kept false own i e true ce there td n is =
      free (numbered i) token e
      (inl (inl (sym n, numbered i, refl, typedef_over i e there ce td (subst (λ z. Is after z i (renamed class new e)) (sym n) is))))
      there
      ce
  no_kept false own i e false ce there td n is =
      kept_found i e there n td is (lookup f.present space.Ordinary name f.entries) (means f.present space.Ordinary name f.entries)

pub keeps_ask : LookupMeans → KeepsAsk
keeps_ask means class old new f name token parameter itself of accepted before free own was_no is_yes =
    let g : (c : Entry) × (slice_get f.entries (number is_yes.0) ≡ Some c) × (is_yes.1 ≡ renamed class new c) = from_renamed class new f.entries (number is_yes.0) is_yes.1 is_yes.2.seen.there in
    let is : IsLookup f.present space.Ordinary (cond itself new name) (all_renamed class new f).entries (number is_yes.0) (renamed class new g.0) = subst (λ z. IsLookup f.present space.Ordinary (cond itself new name) (all_renamed class new f).entries (number is_yes.0) z) g.2 is_yes.2 in
    no_kept class old new f name token parameter of accepted before free was_no means itself own (number is_yes.0) g.0 (class g.0) refl g.1
    (subst IsTypedef g.2 is_yes.3)
    is.seen.named
    is
