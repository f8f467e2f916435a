-- The linkage that is taken is kept.
use Rattle.std.proofs.Common.{◌≡◌, ℕ, zero, suc, ◌+◌, ◌⊎◌, inl, inr, Bool, true, false, cond, not, ◌&&◌, ◌||◌, nat_lt, Option, Some, None, List, [], ◌∷◌, length, get_or, refl, sym, ◌∙◌, ap, subst, arith}
use Rattle.std.specs.Prelude.{slice_get, position, max}
use Rattle.std.specs.List.{position_or_len}
use Rattle.std.proofs.lemmas.Bool.{eq-eqb, eqb-true, lt-ltb}
use Rattle.std.proofs.lemmas.Option.{slice_get_within, get_or_from_slice_get}
use Rattle.std.proofs.lemmas.List.Folds.{list_any_at}
use Rattle.cr_base.specs.declared.Name.{Name}
use Rattle.cr_scope.specs.declared.Space.TheVariants as space
use Rattle.cr_scope.specs.declared.Linkage.{Linkage}
use Rattle.cr_scope.specs.declared.Linkage.TheVariants as linkage
use Rattle.cr_scope.specs.declared.Decl.{Decl}
use Rattle.cr_scope.specs.declared.DeclNo.{DeclNo}
use Rattle.cr_scope.specs.Declarations.{Entry, Flat, number, lookup, declared, entry, same_name, same_space}
use Rattle.cr_scope.specs.Meaning.{IsLookup, LookupMeans}
use Rattle.cr_scope.specs.Linkage.{has_linkage, is_linked, linked, linkage_or_external, linkage_seen, linkage_by, is_file_scope, entry_at}
use Rattle.cr_scope.specs.Redeclaration.{same_path, may_repeat, are_opposite, clashes, is_redeclared}
use Rattle.cr_capture.specs.declared.Mention.TheVariants as mention
use Rattle.cr_capture.specs.Renaming.{Class, renamed, all_renamed, name_after, IsRenaming, IsFree, AreFree, KeepsLinkage}
use Rattle.cr_capture.proofs.Beside.{and_both}
use Rattle.cr_capture.proofs.Renamed.{numbered, renamed_at, from_renamed, found_at}
use Rattle.cr_capture.proofs.KeptLookup.{keeps_lookup}
use Rattle.cr_capture.proofs.KeptTag.{at_front, at_end}

-- where linkage depends on what is seen
pub same_linkage : (file_scope static extern function : Bool) (a b : Option Entry) → (static ≡ false → linkage_by file_scope static extern function a ≡ linkage_seen a → linkage_seen b ≡ linkage_seen a) → linkage_by file_scope static extern function b ≡ linkage_by file_scope static extern function a
same_linkage fs true ex fn a b h = refl
same_linkage fs false true fn a b h = h refl refl
same_linkage fs false false true a b h = h refl refl
same_linkage fs false false false a b h = refl

-- what is seen has internal linkage, or what is taken is external
abbrev pub IsInternal : Entry → Type 0
IsInternal e = e.decl.linkage ≡ linkage.Internal

pub or_external : (l : Linkage) → (l ≡ linkage.Internal) ⊎ (linkage_or_external l ≡ linkage.External)
or_external linkage.None = inr refl
or_external linkage.Internal = inl refl
or_external linkage.External = inr refl

pub internal_or : (o : Option Entry) → ((e : Entry) × (o ≡ Some e) × IsInternal e) ⊎ (linkage_seen o ≡ linkage.External)
internal_or None = inr refl
internal_or (Some e) = elim (or_external e.decl.linkage) [ inl k ↦ inl (e, refl, k) | inr k ↦ inr k ]

-- what a look-up gave has a number
pub entry_number : (es : List Entry) (r : Option ℕ) (e : Entry) → entry_at es r ≡ Some e → (i : ℕ) × (r ≡ Some i) × (slice_get es i ≡ Some e)
entry_number es None e h = cc
entry_number es (Some i) e h = (i, refl, h)

-- the first that passes a test, where one does
pub first_at : (p : Entry → Bool) (es : List Entry) (i : ℕ) (e : Entry) → slice_get es i ≡ Some e → p e ≡ true → (g : Entry) × (slice_get es (position_or_len p es) ≡ Some g) × (p g ≡ true)
first_at p [] i e h t = cc
first_at p (a ∷ es) zero e h t =
    let q : a ≡ e = cc in
    let k : p a ≡ true = ap p q ∙ t in
    (a, ap (λ b. slice_get (a ∷ es) (cond (not b) (1 + position_or_len p es) 0)) k, k)
first_at p (a ∷ es) (suc i) e h t = by (p a) refl (first_at p es i e h t)
  where
    by : (b : Bool) → p a ≡ b → (g : Entry) × (slice_get es (position_or_len p es) ≡ Some g) × (p g ≡ true) → (g : Entry) × (slice_get (a ∷ es) (position_or_len p (a ∷ es)) ≡ Some g) × (p g ≡ true)
    by true k rest = (a, ap (λ b. slice_get (a ∷ es) (cond (not b) (1 + position_or_len p es) 0)) k, k)
    by false k rest =
        let n : 1 + position_or_len p es ≡ suc (position_or_len p es) = omega arith in (
          rest.0,
          ap (λ b. slice_get (a ∷ es) (cond (not b) (1 + position_or_len p es) 0)) k ∙ ap (slice_get (a ∷ es)) n ∙ rest.1,
          rest.2,
        )

pub first_position : (p : Entry → Bool) (es : List Entry) (i : ℕ) (e : Entry) → slice_get es i ≡ Some e → p e ≡ true → (k : ℕ) × (g : Entry) × (position p es ≡ Some k) × (slice_get es k ≡ Some g) × (p g ≡ true)
first_position p es i e h t =
    let f : (g : Entry) × (slice_get es (position_or_len p es) ≡ Some g) × (p g ≡ true) = first_at p es i e h t in
    let lt : nat_lt (position_or_len p es) (length es) ≡ true = lt-ltb (position_or_len p es) (length es) (slice_get_within es (position_or_len p es) f.0 f.1) in
    (position_or_len p es, f.0, ap (λ b. cond b (Some (position_or_len p es)) None) lt, f.1, f.2)

pub or_true : (b c : Bool) → c ≡ true → (b || c) ≡ true
or_true true c h = refl
or_true false c h = h

pub same_names : (a b : Name) → a ≡ b → same_name a b ≡ true
same_names a b e = eq-eqb a.0 b.0 (ap (λ (n : Name). n.0) e)

pub one_name : (a b : Name) → same_name a b ≡ true → a ≡ b
one_name a b h = ap (λ n. record { 0 = n }) (eqb-true a.0 b.0 h)

-- a name with internal and external linkage is refused
pub is_clash : (d e : Entry) → d.decl.name ≡ e.decl.name → d.decl.linkage ≡ linkage.External → e.decl.linkage ≡ linkage.Internal → clashes d e ≡ true
is_clash d e n x i =
    let o : are_opposite d.decl.linkage e.decl.linkage ≡ true = ap (λ z. are_opposite z e.decl.linkage) x ∙ ap (are_opposite linkage.External) i in
    ap (λ z. z && ((same_path d.path e.path && (same_space d.decl.space e.decl.space && not (may_repeat d.decl e.decl))) || are_opposite d.decl.linkage e.decl.linkage)) (same_names d.decl.name e.decl.name n)
    ∙ or_true (same_path d.path e.path && (same_space d.decl.space e.decl.space && not (may_repeat d.decl e.decl))) (are_opposite d.decl.linkage e.decl.linkage) o

module _ (class : Class) (old new : Name) (f : Flat) (x : Decl) (own : DeclNo) (of : IsRenaming class old new (declared f x).entries) (free : IsFree class (declared f x) old new (mention.Declared own)) (n : number own ≡ length f.entries) (fine : is_redeclared f x ≡ false) (outer : x.linkage ≡ linkage.External) where
  abbrev pub itself : Entry
  itself = entry f x

  abbrev pub es : List Entry
  es = (declared f x).entries

  pub own_there : slice_get es (number own) ≡ Some itself
  own_there = ap (slice_get es) n ∙ at_end f.entries itself

  pub own_has : has_linkage x.linkage ≡ true
  own_has = ap has_linkage outer

  -- the first declaration of a name with linkage
  pub first_linked : (name : Name) (i : ℕ) (g : Entry) → slice_get es i ≡ Some g → has_linkage g.decl.linkage ≡ true → g.decl.name ≡ name → (k : ℕ) × (e : Entry) × (linked name es ≡ Some k) × (slice_get es k ≡ Some e) × (has_linkage e.decl.linkage ≡ true) × (e.decl.name ≡ name)
  first_linked name i g there has named =
      let p : Entry → Bool = λ e. is_linked e && same_name e.decl.name name in
      let t : p g ≡ true = ap (λ z. z && same_name g.decl.name name) has ∙ same_names g.decl.name name named in
      let r : (k : ℕ) × (e : Entry) × (position p es ≡ Some k) × (slice_get es k ≡ Some e) × (p e ≡ true) = first_position p es i g there t in
      let b : (is_linked r.1 ≡ true) × (same_name r.1.decl.name name ≡ true) = and_both (is_linked r.1) (same_name r.1.decl.name name) r.4 in
      (r.0, r.1, r.2, r.3, b.0, one_name r.1.decl.name name b.1)

  -- both names can't have linkage, where that of old is of the class
  pub not_both : (i j : ℕ) (g h : Entry) → slice_get es i ≡ Some g → slice_get es j ≡ Some h → has_linkage g.decl.linkage ≡ true → has_linkage h.decl.linkage ≡ true → g.decl.name ≡ old → h.decl.name ≡ new → class g ≡ true → (x.name ≡ old) ⊎ (x.name ≡ new) → ⊥
  not_both i j g h hg hh lg lh ng nh cg either =
      let a : (k : ℕ) × (e : Entry) × (linked old es ≡ Some k) × (slice_get es k ≡ Some e) × (has_linkage e.decl.linkage ≡ true) × (e.decl.name ≡ old) = first_linked old i g hg lg ng in
      let b : (k : ℕ) × (e : Entry) × (linked new es ≡ Some k) × (slice_get es k ≡ Some e) × (has_linkage e.decl.linkage ≡ true) × (e.decl.name ≡ new) = first_linked new j h hh lh nh in
      free (numbered a.0) (max a.1.decl.token b.1.decl.token) a.1 (
        numbered a.0,
        max a.1.decl.token b.1.decl.token,
        refl,
        inr (record {
          itself = itself;
          there = own_there;
          has = own_has;
          named = either;
          first_old = a.2;
          of_old = a.1;
          old_there = a.3;
          other = numbered b.0;
          first_new = b.2;
          of_new = b.1;
          new_there = b.3;
          at = refl;
        }),
      )
      a.3
      (of.whole a.0 i a.1 g a.3 hg (a.5 ∙ sym ng) a.4 lg ∙ cg)

  pub clash : (k : ℕ) (g : Entry) → slice_get f.entries k ≡ Some g → IsInternal g → x.name ≡ g.decl.name → ⊥
  clash k g there internal named =
      let c : clashes itself g ≡ true = is_clash itself g named outer internal in
      let t : clashes itself (get_or f.entries k g) ≡ true = ap (clashes itself) (get_or_from_slice_get f.entries k g g there) ∙ c in
      let r : is_redeclared f x ≡ true = list_any_at (clashes itself) f.entries k g (slice_get_within f.entries k g there) t in
      let z : true ≡ false = sym r ∙ fine in
      absurd cc

  -- no declaration with internal linkage has the name afterwards
  pub none_internal : (v : Bool) → class itself ≡ v → (k : ℕ) (g : Entry) (w : Bool) → class g ≡ w → slice_get f.entries k ≡ Some g → IsInternal g → cond w new g.decl.name ≡ cond v new x.name → ⊥
  none_internal true co k g true cg there internal named =
      clash k g there internal
      (of.named (number own) itself own_there co ∙ sym (of.named k g (at_front f.entries itself k g there) cg))
  none_internal true co k g false cg there internal named =
      not_both (number own) k itself g own_there (at_front f.entries itself k g there) own_has (ap has_linkage internal)
      (of.named (number own) itself own_there co)
      named
      co
      (inl (of.named (number own) itself own_there co))
  none_internal false co k g true cg there internal named =
      not_both k (number own) g itself (at_front f.entries itself k g there) own_there (ap has_linkage internal) own_has
      (of.named k g (at_front f.entries itself k g there) cg)
      (sym named)
      cg
      (inr (sym named))
  none_internal false co k g false cg there internal named = clash k g there internal (sym named)

  abbrev pub after : Name
  after = name_after class new itself x.name

  pub still_external : LookupMeans → linkage_seen (entry_at (all_renamed class new f).entries (lookup f.present space.Ordinary after (all_renamed class new f).entries)) ≡ linkage.External
  still_external means =
      elim (internal_or (entry_at (all_renamed class new f).entries (lookup f.present space.Ordinary after (all_renamed class new f).entries))) [
        | inl h ↦
            (let i : (i : ℕ) × (lookup f.present space.Ordinary after (all_renamed class new f).entries ≡ Some i) × (slice_get (all_renamed class new f).entries i ≡ Some h.0) = entry_number (all_renamed class new f).entries (lookup f.present space.Ordinary after (all_renamed class new f).entries) h.0 h.1 in
            let g : (e : Entry) × IsLookup f.present space.Ordinary after (all_renamed class new f).entries i.0 e = found_at f.present space.Ordinary after (all_renamed class new f).entries means i.0 i.1 in
            let q : g.0 ≡ h.0 = (let e : Some g.0 ≡ Some h.0 = sym g.1.seen.there ∙ i.2 in cc) in
            let k : (c : Entry) × (slice_get f.entries i.0 ≡ Some c) × (h.0 ≡ renamed class new c) = from_renamed class new f.entries i.0 h.0 i.2 in
            absurd
            (none_internal (class itself) refl i.0 k.0 (class k.0) refl k.1
            (ap (λ (z : Entry). z.decl.linkage) (sym k.2) ∙ h.2)
            (ap (λ (z : Entry). z.decl.name) (sym k.2) ∙ ap (λ (z : Entry). z.decl.name) (sym q) ∙ g.1.seen.named)))
        | inr h ↦ h
      ]

module _ (class : Class) (old new : Name) (f : Flat) (x : Decl) (own : DeclNo) (of : IsRenaming class old new (declared f x).entries) (before : AreFree class f old new) (free : IsFree class (declared f x) old new (mention.Declared own)) (taken : (d : DeclNo) (e : Entry) → IsLookup f.present space.Ordinary x.name f.entries (number d) e → e.decl.linkage ≡ linkage.Internal → x.linkage ≡ linkage.Internal → IsFree class f old new (mention.Named space.Ordinary x.name x.token (Some d))) (n : number own ≡ length f.entries) (fine : is_redeclared f x ≡ false) (means : LookupMeans) where
  abbrev pub seen : Option Entry
  seen = entry_at f.entries (lookup f.present space.Ordinary x.name f.entries)

  abbrev pub name_then : Name
  name_then = name_after class new (entry f x) x.name

  abbrev pub seen_then : Option Entry
  seen_then =
      entry_at (all_renamed class new f).entries (lookup f.present space.Ordinary name_then (all_renamed class new f).entries)

  pub of_front : IsRenaming class old new f.entries
  of_front =
      record {
        differ = of.differ;
        named = λ i e h. of.named i e (at_front f.entries (entry f x) i e h);
        whole = λ i j e g h k. of.whole i j e g (at_front f.entries (entry f x) i e h) (at_front f.entries (entry f x) j g k);
      }

  -- what is seen has internal linkage: it is seen afterwards
  pub sees_same : (e : Entry) → seen ≡ Some e → IsInternal e → x.linkage ≡ linkage.Internal → linkage_seen seen_then ≡ linkage_seen seen
  sees_same e h internal mine =
      let i : (i : ℕ) × (lookup f.present space.Ordinary x.name f.entries ≡ Some i) × (slice_get f.entries i ≡ Some e) = entry_number f.entries (lookup f.present space.Ordinary x.name f.entries) e h in
      let g : (e : Entry) × IsLookup f.present space.Ordinary x.name f.entries i.0 e = found_at f.present space.Ordinary x.name f.entries means i.0 i.1 in
      let q : g.0 ≡ e = (let z : Some g.0 ≡ Some e = sym g.1.seen.there ∙ i.2 in cc) in
      let is : IsLookup f.present space.Ordinary x.name f.entries i.0 e = subst (λ z. IsLookup f.present space.Ordinary x.name f.entries i.0 z) q g.1 in
      let c : class (entry f x) ≡ class e = of.whole (number own) i.0 (entry f x) e (ap (slice_get (declared f x).entries) n ∙ at_end f.entries (entry f x)) (at_front f.entries (entry f x) i.0 e i.2) (sym is.seen.named) (ap has_linkage mine) (ap has_linkage internal) in
      let k : lookup f.present space.Ordinary (name_after class new e x.name) (all_renamed class new f).entries ≡ lookup f.present space.Ordinary x.name f.entries = keeps_lookup means class old new f space.Ordinary x.name x.token (numbered i.0) e of_front before (taken (numbered i.0) e is internal mine) is in
      let there : seen_then ≡ Some (renamed class new e) =
      ap (λ b. entry_at (all_renamed class new f).entries (lookup f.present space.Ordinary (cond b new x.name) (all_renamed class new f).entries)) c
      ∙ ap (entry_at (all_renamed class new f).entries) (k ∙ i.1)
      ∙ renamed_at class new f.entries i.0 e i.2 in
      ap linkage_seen there ∙ sym (ap linkage_seen h)

  pub same_seen : x.linkage ≡ linkage_seen seen → linkage_seen seen_then ≡ linkage_seen seen
  same_seen mine =
      elim (internal_or seen) [
        | inl h ↦ sees_same h.0 h.1 h.2 (mine ∙ ap linkage_seen h.1 ∙ ap linkage_or_external h.2)
        | inr h ↦ still_external class old new f x own of free n fine (mine ∙ h) means ∙ sym h
      ]

pub keeps_linkage : LookupMeans → KeepsLinkage
keeps_linkage means class old new f x own static extern function of before free taken n mine fine =
    same_linkage (is_file_scope f.present) static extern function
    (entry_at f.entries (lookup f.present space.Ordinary x.name f.entries))
    (entry_at (all_renamed class new f).entries (lookup f.present space.Ordinary (name_after class new (entry f x) x.name) (all_renamed class new f).entries))
    (λ t h. same_seen class old new f x own of before free (taken t) n fine means (mine ∙ h))
