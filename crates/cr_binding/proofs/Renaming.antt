-- A renaming without a conflict keeps meanings, and what may be declared.
use Rattle.std.specs.Prelude.{◌≡◌, ◌⊎◌, ℕ, zero, suc, Bool, true, false, cond, not, ◌&&◌, ◌||◌, Option, Some, None, option_map, List, [], ◌∷◌, length, map, slice_get, position, max}
use Rattle.std.specs.List.{list_any}
use Rattle.std.proofs.Common.{refl, sym, ◌∙◌, ap, inl, inr}
use Rattle.cr_base.specs.declared.Name.{Name}
use Rattle.cr_base.specs.declared.Kind.{Kind}
use Rattle.cr_base.specs.declared.Kind.TheVariants as kind
use Rattle.cr_scope.specs.declared.Space.TheVariants as space
use Rattle.cr_scope.specs.declared.DeclNo.{DeclNo}
use Rattle.cr_scope.specs.declared.Linkage.{Linkage}
use Rattle.cr_scope.specs.declared.Linkage.TheVariants as linkage
use Rattle.cr_scope.specs.Declarations.{Entry, Flat, number, lookup, same_name, same_space}
use Rattle.cr_scope.specs.Meaning.{IsLookup}
use Rattle.cr_scope.specs.Linkage as scopes
use Rattle.cr_scope.specs.Linkage.{has_linkage, is_linked, linked, is_file_scope, linkage_by, entry_at}
use Rattle.cr_scope.specs.Redeclaration.{same_path, may_repeat, are_opposite, clashes}
use Rattle.cr_scope.proofs.Looked.{one_space}
use Rattle.cr_scope.proofs.Paths.{same_path_true}
use Rattle.cr_capture.specs.declared.Mention.TheVariants as mention
use Rattle.cr_capture.specs.Renaming.{Class, renamed, all_renamed, name_after, IsRenaming, IsFree, AreFree, KeepsLookup, KeepsLinkage, KeepsNewTag}
use Rattle.cr_capture.proofs.Beside.{and_both}
use Rattle.cr_capture.proofs.Renamed.{numbered}
use Rattle.cr_capture.proofs.KeptLinkage.{first_position, same_names, one_name}
use Rattle.cr_capture.proofs.KeptTag.{at_front, at_end}
use Rattle.cr_binding.specs.Source.{Source, name_at}
use Rattle.cr_binding.specs.State.{Declaration, State}
use Rattle.cr_binding.specs.Entities.{entry}
use Rattle.cr_decl.specs.declared.SpecWord.TheVariants as word
use Rattle.cr_binding.specs.Declaring.{declaration_at, meaning_here, has_word}
use Rattle.cr_binding.specs.BindingStays.{is_refused}
use Rattle.cr_binding.specs.ActionsStay.{IsRespelled, declared_by, entries_of, scopes_of, scopes_with, taking, taken_linkage, tag_at, KeepsMeaning, KeepsDeclaration, KeepsTakenLinkage, KeepsUnseenTag}

-- ---- meanings

entry_after : (class : ℕ → Bool) (new : Name) (t u : Source) → IsRespelled class new t u → (d : Declaration) → entry u d ≡ renamed (declared_by class) new (entry t d)
entry_after class new t u r d =
    ap (λ n. record { path = d.path; decl = record { space = d.space; name = n; token = d.token; kind = d.kind; linkage = d.linkage; note = 0 } }) (r.names d.token)

pub entries_after : (class : ℕ → Bool) (new : Name) (t u : Source) → IsRespelled class new t u → (ds : List Declaration) → map (entry u) ds ≡ map (renamed (declared_by class) new) (map (entry t) ds)
entries_after class new t u r [] = refl
entries_after class new t u r (d ∷ ds) =
    ap (λ e. e ∷ map (entry u) ds) (entry_after class new t u r d)
    ∙ ap (λ es. renamed (declared_by class) new (entry t d) ∷ es) (entries_after class new t u r ds)

pub keeps_meaning : KeepsLookup → KeepsMeaning
keeps_meaning kept class old new t u s sp i d e r of all free is same =
    ap (λ n. lookup s.present sp n (entries_of u s)) (r.names i ∙ ap (λ b. cond b new (name_at t i)) same)
    ∙ ap (λ es. lookup s.present sp (name_after (declared_by class) new e (name_at t i)) es) (entries_after class new t u r s.declarations)
    ∙ kept (declared_by class) old new (scopes_of t s) sp (name_at t i) i d e of all free is

-- ---- declarations

-- whatever their names are, two declarations may not stand beside each other
abbrev may_not : Entry → Entry → Bool
may_not d e =
    (same_path d.path e.path && (same_space d.decl.space e.decl.space && not (may_repeat d.decl e.decl))) || are_opposite d.decl.linkage e.decl.linkage

opposite_linked : (k l : Linkage) → are_opposite k l ≡ true → (has_linkage k ≡ true) × (has_linkage l ≡ true)
opposite_linked linkage.None l h = cc
opposite_linked linkage.Internal linkage.None h = cc
opposite_linked linkage.Internal linkage.Internal h = cc
opposite_linked linkage.Internal linkage.External h = (refl, refl)
opposite_linked linkage.External linkage.None h = cc
opposite_linked linkage.External linkage.Internal h = (refl, refl)
opposite_linked linkage.External linkage.External h = cc

either : (a b : Bool) → (a || b) ≡ true → (a ≡ true) ⊎ (b ≡ true)
either true b h = inl refl
either false b h = inr h

-- in a list with a declaration more, that one conflicts with none of the class
module _ (class : Class) (old new : Name) (f : Flat) (own : DeclNo) (x : Entry) (of : IsRenaming class old new f.entries) (there : slice_get f.entries (number own) ≡ Some x) (free : IsFree class f old new (mention.Declared own)) where
  -- the first declaration of a name with linkage
  abbrev First : Name → Type 0
  First name =
      (k : ℕ) × (e : Entry) × (linked name f.entries ≡ Some k) × (slice_get f.entries k ≡ Some e) × (has_linkage e.decl.linkage ≡ true) × (e.decl.name ≡ name)

  first_linked : (name : Name) (i : ℕ) (g : Entry) → slice_get f.entries i ≡ Some g → has_linkage g.decl.linkage ≡ true → g.decl.name ≡ name → First name
  first_linked name i g at has named =
      let p : Entry → Bool = λ e. is_linked e && same_name e.decl.name name in
      let b : p g ≡ true = ap (λ z. z && same_name g.decl.name name) has ∙ same_names g.decl.name name named in
      let r : (k : ℕ) × (e : Entry) × (position p f.entries ≡ Some k) × (slice_get f.entries k ≡ Some e) × (p e ≡ true) = first_position p f.entries i g at b in
      let c : (is_linked r.1 ≡ true) × (same_name r.1.decl.name name ≡ true) = and_both (is_linked r.1) (same_name r.1.decl.name name) r.4 in
      (r.0, r.1, r.2, r.3, c.0, one_name r.1.decl.name name c.1)

  -- one is of the class, so of the name old, and the other of the name new; one of the two is x
  pub not_beside : (i j : ℕ) (g h : Entry) → slice_get f.entries i ≡ Some g → slice_get f.entries j ≡ Some h → (own ≡ numbered i) ⊎ (own ≡ numbered j) → class g ≡ true → g.decl.name ≡ old → h.decl.name ≡ new → g.path ≡ h.path → g.decl.space ≡ h.decl.space → ⊥
  not_beside i j g h at_g at_h one cg ng nh path sp =
      free (numbered i) (max g.decl.token h.decl.token) g (
        numbered i,
        max g.decl.token h.decl.token,
        refl,
        inl (record {
          itself = g;
          there = at_g;
          named = ng;
          other = numbered j;
          beside = h;
          other_there = at_h;
          other_named = nh;
          one_scope = path;
          one_space = sp;
          made = one;
          at = refl;
        }),
      )
      at_g
      cg

  pub not_linked : (i j : ℕ) (g h : Entry) → slice_get f.entries i ≡ Some g → slice_get f.entries j ≡ Some h → (x.decl.name ≡ old) ⊎ (x.decl.name ≡ new) → has_linkage x.decl.linkage ≡ true → class g ≡ true → g.decl.name ≡ old → h.decl.name ≡ new → has_linkage g.decl.linkage ≡ true → has_linkage h.decl.linkage ≡ true → ⊥
  not_linked i j g h at_g at_h named lx cg ng nh lg lh =
      let a : First old = first_linked old i g at_g lg ng in
      let b : First new = first_linked new j h at_h lh nh in
      free (numbered a.0) (max a.1.decl.token b.1.decl.token) a.1 (
        numbered a.0,
        max a.1.decl.token b.1.decl.token,
        refl,
        inr (record {
          itself = x;
          there = there;
          has = lx;
          named = named;
          first_old = a.2;
          of_old = a.1;
          old_there = a.3;
          other = numbered b.0;
          first_new = b.2;
          of_new = b.1;
          new_there = b.3;
          at = refl;
        }),
      )
      a.3
      (of.whole a.0 i a.1 g a.3 at_g (a.5 ∙ sym ng) a.4 lg ∙ cg)

  -- x is of the class and another one of the name new
  own_fits : (j : ℕ) (h : Entry) → slice_get f.entries j ≡ Some h → class x ≡ true → h.decl.name ≡ new → may_not x h ≡ true → ⊥
  own_fits j h at_h cx nh r =
      let nx : x.decl.name ≡ old = of.named (number own) x there cx in
      by nx (either (same_path x.path h.path && (same_space x.decl.space h.decl.space && not (may_repeat x.decl h.decl))) (are_opposite x.decl.linkage h.decl.linkage) r)
    where
      by : x.decl.name ≡ old → ((same_path x.path h.path && (same_space x.decl.space h.decl.space && not (may_repeat x.decl h.decl))) ≡ true) ⊎ (are_opposite x.decl.linkage h.decl.linkage ≡ true) → ⊥
      by nx (inl k) =
          let p : (same_path x.path h.path ≡ true) × ((same_space x.decl.space h.decl.space && not (may_repeat x.decl h.decl)) ≡ true) = and_both (same_path x.path h.path) (same_space x.decl.space h.decl.space && not (may_repeat x.decl h.decl)) k in
          let q : (same_space x.decl.space h.decl.space ≡ true) × (not (may_repeat x.decl h.decl) ≡ true) = and_both (same_space x.decl.space h.decl.space) (not (may_repeat x.decl h.decl)) p.1 in
          not_beside (number own) j x h there at_h (inl refl) cx nx nh (same_path_true x.path h.path p.0) (one_space x.decl.space h.decl.space q.0)
      by nx (inr k) =
          let l : (has_linkage x.decl.linkage ≡ true) × (has_linkage h.decl.linkage ≡ true) = opposite_linked x.decl.linkage h.decl.linkage k in
          not_linked (number own) j x h there at_h (inl nx) l.0 cx nx nh l.0 l.1

  -- another one is of the class and x of the name new
  other_fits : (i : ℕ) (g : Entry) → slice_get f.entries i ≡ Some g → class g ≡ true → x.decl.name ≡ new → may_not x g ≡ true → ⊥
  other_fits i g at_g cg nx r =
      let ng : g.decl.name ≡ old = of.named i g at_g cg in
      by ng (either (same_path x.path g.path && (same_space x.decl.space g.decl.space && not (may_repeat x.decl g.decl))) (are_opposite x.decl.linkage g.decl.linkage) r)
    where
      by : g.decl.name ≡ old → ((same_path x.path g.path && (same_space x.decl.space g.decl.space && not (may_repeat x.decl g.decl))) ≡ true) ⊎ (are_opposite x.decl.linkage g.decl.linkage ≡ true) → ⊥
      by ng (inl k) =
          let p : (same_path x.path g.path ≡ true) × ((same_space x.decl.space g.decl.space && not (may_repeat x.decl g.decl)) ≡ true) = and_both (same_path x.path g.path) (same_space x.decl.space g.decl.space && not (may_repeat x.decl g.decl)) k in
          let q : (same_space x.decl.space g.decl.space ≡ true) × (not (may_repeat x.decl g.decl) ≡ true) = and_both (same_space x.decl.space g.decl.space) (not (may_repeat x.decl g.decl)) p.1 in
          not_beside i (number own) g x at_g there (inr refl) cg ng nx (sym (same_path_true x.path g.path p.0)) (sym (one_space x.decl.space g.decl.space q.0))
      by ng (inr k) =
          let l : (has_linkage x.decl.linkage ≡ true) × (has_linkage g.decl.linkage ≡ true) = opposite_linked x.decl.linkage g.decl.linkage k in
          not_linked i (number own) g x at_g there (inr nx) l.0 cg ng nx l.1 l.0

-- of two declarations with a name in common afterwards both have the same name before, or both may stand
fits_by : (a b r : Bool) → (a && r) ≡ false → (r ≡ true → b ≡ true → a ≡ false → ⊥) → (b && r) ≡ false
fits_by a false r h unlike = refl
fits_by a true false h unlike = refl
fits_by true true true h unlike = cc
fits_by false true true h unlike = absurd (unlike refl refl refl)

-- names after the renaming that are the same
one_after : (c d : Bool) (new n m : Name) → same_name (cond c new n) (cond d new m) ≡ true → same_name n m ≡ false → ((c ≡ true → d ≡ true → n ≡ m) → (((c ≡ true) × (m ≡ new)) ⊎ ((d ≡ true) × (n ≡ new))))
one_after true true new n m h unlike both = absurd (differ unlike (both refl refl))
  where
    differ : same_name n m ≡ false → n ≡ m → ⊥
    differ e f = let k : same_name n m ≡ true = same_names n m f in cc
one_after true false new n m h unlike both = inl (refl, sym (one_name new m h))
one_after false true new n m h unlike both = inr (refl, one_name n new h)
one_after false false new n m h unlike both = cc

module _ (class : ℕ → Bool) (old new : Name) (t u : Source) (s : State) (d : Declaration) (own : DeclNo) (r : IsRespelled class new t u) (of : IsRenaming (declared_by class) old new (scopes_with t s d).entries) (n : number own ≡ length (entries_of t s)) (free : IsFree (declared_by class) (scopes_with t s d) old new (mention.Declared own)) where
  own_there : slice_get (scopes_with t s d).entries (number own) ≡ Some (entry t d)
  own_there = ap (slice_get (scopes_with t s d).entries) n ∙ at_end (entries_of t s) (entry t d)

  -- e, which was declared before, may stand beside d
  one_fits : (k : ℕ) (e : Declaration) → slice_get (scopes_with t s d).entries k ≡ Some (entry t e) → clashes (entry t d) (entry t e) ≡ false → clashes (entry u d) (entry u e) ≡ false
  one_fits k e at h =
      fits_by (same_name (name_at t d.token) (name_at t e.token)) (same_name (name_at u d.token) (name_at u e.token)) (may_not (entry t d) (entry t e)) h unlike
    where
      same_class : class d.token ≡ true → class e.token ≡ true → name_at t d.token ≡ name_at t e.token
      same_class cd ce = of.named (number own) (entry t d) own_there cd ∙ sym (of.named k (entry t e) at ce)

      unlike : may_not (entry t d) (entry t e) ≡ true → same_name (name_at u d.token) (name_at u e.token) ≡ true → same_name (name_at t d.token) (name_at t e.token) ≡ false → ⊥
      unlike beside same differ =
          let after : same_name (cond (class d.token) new (name_at t d.token)) (cond (class e.token) new (name_at t e.token)) ≡ true = ap (λ x. same_name x (cond (class e.token) new (name_at t e.token))) (sym (r.names d.token)) ∙ ap (λ x. same_name (name_at u d.token) x) (sym (r.names e.token)) ∙ same in
          by (one_after (class d.token) (class e.token) new (name_at t d.token) (name_at t e.token) after differ same_class)
        where
          by : ((class d.token ≡ true) × (name_at t e.token ≡ new)) ⊎ ((class e.token ≡ true) × (name_at t d.token ≡ new)) → ⊥
          by (inl z) =
              own_fits (declared_by class) old new (scopes_with t s d) own (entry t d) of own_there free k (entry t e) at z.0 z.1 beside
          by (inr z) =
              other_fits (declared_by class) old new (scopes_with t s d) own (entry t d) of own_there free k (entry t e) at z.0 z.1 beside

-- what is so of each is so of all
none_of : (P Q : Entry → Bool) (t u : Source) (ds : List Declaration) → ((k : ℕ) (e : Declaration) → slice_get (map (entry t) ds) k ≡ Some (entry t e) → P (entry t e) ≡ false → Q (entry u e) ≡ false) → list_any P (map (entry t) ds) ≡ false → list_any Q (map (entry u) ds) ≡ false
none_of P Q t u [] each h = refl
none_of P Q t u (d ∷ ds) each h =
    let a : (P (entry t d) ≡ false) × (list_any P (map (entry t) ds) ≡ false) = neither (P (entry t d)) (list_any P (map (entry t) ds)) h in
    ap (λ b. b || list_any Q (map (entry u) ds)) (each 0 d refl a.0)
    ∙ none_of P Q t u ds (λ k e at. each (suc k) e at) a.1
  where
    neither : (a b : Bool) → (a || b) ≡ false → (a ≡ false) × (b ≡ false)
    neither true b h = cc
    neither false b h = (refl, h)

pub keeps_declaration : KeepsDeclaration
keeps_declaration class old new t u s d own r of n free fine =
    none_of (clashes (entry t d)) (clashes (entry u d)) t u s.declarations
    (λ k e at h. one_fits class old new t u s d own r of n free k e (at_front (entries_of t s) (entry t d) k (entry t e) at) h) fine

-- ---- linkage

pub entry_found : (t : Source) (ds : List Declaration) (i : ℕ) → option_map (entry t) (slice_get ds i) ≡ slice_get (map (entry t) ds) i
entry_found t [] i = refl
entry_found t (d ∷ ds) zero = refl
entry_found t (d ∷ ds) (suc i) = entry_found t ds i

seen_entry : (t : Source) (s : State) (k : Option ℕ) → option_map (entry t) (declaration_at s k) ≡ entry_at (entries_of t s) k
seen_entry t s None = refl
seen_entry t s (Some i) = entry_found t s.declarations i

-- where it isn't a typedef name
abbrev taken_as : Source → State → ℕ → Bool → Linkage
taken_as t s i function = scopes.linkage_of (scopes_of t s) (name_at t i) (has_word word.Static s) (has_word word.Extern s) function

taken_by : (t : Source) (s : State) (i : ℕ) (function : Bool) → linkage_by (is_file_scope s.present) (has_word word.Static s) (has_word word.Extern s) function (option_map (entry t) (declaration_at s (meaning_here t space.Ordinary i s))) ≡ taken_as t s i function
taken_by t s i function =
    ap (λ e. linkage_by (is_file_scope s.present) (has_word word.Static s) (has_word word.Extern s) function e) (seen_entry t s (meaning_here t space.Ordinary i s))

module _ (kept : KeepsLinkage) (class : ℕ → Bool) (old new : Name) (t u : Source) (s : State) (r : IsRespelled class new t u) (free : AreFree (declared_by class) (scopes_of t s) old new) where
  taken_after : (function : Bool) (i : ℕ) → scopes.linkage_of (all_renamed (declared_by class) new (scopes_of t s)) (cond (class i) new (name_at t i)) (has_word word.Static s) (has_word word.Extern s) function ≡ taken_as t s i function → taken_as u s i function ≡ taken_as t s i function
  taken_after function i h =
      ap (λ n. scopes.linkage_of (scopes_of u s) n (has_word word.Static s) (has_word word.Extern s) function) (r.names i)
      ∙ ap (λ es. scopes.linkage_of (record { scopes = []; present = s.present; entries = es }) (cond (class i) new (name_at t i)) (has_word word.Static s) (has_word word.Extern s) function) (entries_after class new t u r s.declarations)
      ∙ h

  -- the declaration of a kind with linkage
  module _ (what : Kind) (i : ℕ) (own : DeclNo) (of : IsRenaming (declared_by class) old new (scopes_with t s (taking t s what i)).entries) (n : number own ≡ length (entries_of t s)) (own_free : IsFree (declared_by class) (scopes_with t s (taking t s what i)) old new (mention.Declared own)) (seen_free : has_word word.Static s ≡ false → (d : DeclNo) (e : Entry) → IsLookup s.present space.Ordinary (name_at t i) (entries_of t s) (number d) e → e.decl.linkage ≡ linkage.Internal → taken_linkage t s what i ≡ linkage.Internal → IsFree (declared_by class) (scopes_of t s) old new (mention.Named space.Ordinary (name_at t i) i (Some d))) (fine : is_refused t u s t (taking t s what i) ≡ false) where
    linkage_kept : (function : Bool) → taken_linkage t s what i ≡ taken_as t s i function → taken_linkage u s what i ≡ taken_as u s i function → taken_linkage u s what i ≡ taken_linkage t s what i
    linkage_kept function by_t by_u =
        by_u
        ∙ taken_after function i (kept (declared_by class) old new (scopes_of t s) (entry t (taking t s what i)).decl own (has_word word.Static s) (has_word word.Extern s) function of free own_free seen_free n by_t fine)
        ∙ sym by_t

pub keeps_taken_linkage : KeepsLinkage → KeepsTakenLinkage
keeps_taken_linkage kept class old new t u s kind.Typedef i own r of free n own_free seen_free fine = refl
keeps_taken_linkage kept class old new t u s kind.Function i own r of free n own_free seen_free fine =
    linkage_kept kept class old new t u s r free kind.Function i own of n own_free seen_free fine true (taken_by t s i true) (taken_by u s i true)
keeps_taken_linkage kept class old new t u s kind.Object i own r of free n own_free seen_free fine =
    linkage_kept kept class old new t u s r free kind.Object i own of n own_free seen_free fine false (taken_by t s i false) (taken_by u s i false)
keeps_taken_linkage kept class old new t u s kind.Enumerator i own r of free n own_free seen_free fine =
    linkage_kept kept class old new t u s r free kind.Enumerator i own of n own_free seen_free fine false (taken_by t s i false) (taken_by u s i false)
keeps_taken_linkage kept class old new t u s kind.Struct i own r of free n own_free seen_free fine =
    linkage_kept kept class old new t u s r free kind.Struct i own of n own_free seen_free fine false (taken_by t s i false) (taken_by u s i false)
keeps_taken_linkage kept class old new t u s kind.Union i own r of free n own_free seen_free fine =
    linkage_kept kept class old new t u s r free kind.Union i own of n own_free seen_free fine false (taken_by t s i false) (taken_by u s i false)
keeps_taken_linkage kept class old new t u s kind.Enum i own r of free n own_free seen_free fine =
    linkage_kept kept class old new t u s r free kind.Enum i own of n own_free seen_free fine false (taken_by t s i false) (taken_by u s i false)
keeps_taken_linkage kept class old new t u s kind.Member i own r of free n own_free seen_free fine =
    linkage_kept kept class old new t u s r free kind.Member i own of n own_free seen_free fine false (taken_by t s i false) (taken_by u s i false)
keeps_taken_linkage kept class old new t u s kind.Label i own r of free n own_free seen_free fine =
    linkage_kept kept class old new t u s r free kind.Label i own of n own_free seen_free fine false (taken_by t s i false) (taken_by u s i false)

-- ---- tags that are used first

pub keeps_unseen_tag : KeepsNewTag → KeepsUnseenTag
keeps_unseen_tag kept class old new t u s i r of free none =
    ap (λ n. lookup s.present space.Tag n (entries_of u s)) (r.names i)
    ∙ ap (λ es. lookup s.present space.Tag (cond (class i) new (name_at t i)) es) (entries_after class new t u r s.declarations)
    ∙ kept (declared_by class) old new (scopes_of t s) (entry t (tag_at s i)).decl of free refl none
