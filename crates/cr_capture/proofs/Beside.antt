-- Declarations beside one another.
use Rattle.std.proofs.Common.{◌≡◌, ℕ, Bool, true, false, ◌&&◌, eqb, Option, Some, List, [], ◌∷◌, ◌++◌, length, refl, sym, ◌∙◌, ap, subst, arith}
use Rattle.std.specs.Prelude.{max}
use borrow.Author.Tests.{eqb-true}
use Rattle.std.specs.Option.{unwrap_or}
use Rattle.cr_base.specs.declared.Name.{Name}
use Rattle.cr_scope.specs.declared.Decl.{Decl}
use Rattle.cr_scope.specs.declared.DeclNo.{DeclNo}
use Rattle.cr_scope.specs.Declarations.{Entry, Flat, depth, is_prefix, visible, number, decl_at, depth_at}
use Rattle.cr_scope.specs.Meaning.{Sees, VisibleMeans}
use Rattle.cr_capture.specs.Conflicts.{Pair, IsEntry}
use Rattle.cr_capture.specs.Finding.{Adds, IsLater, IsBeside, BesidePair}
use Rattle.cr_capture.proofs.Found.{Passed, IsBetween, takes, leaves, all_found, adds_same}
use Rattle.cr_capture.proofs.Sought.{one_entry, entry_of, depth_of}

pub and_both : (a b : Bool) → (a && b) ≡ true → (a ≡ true) × (b ≡ true)
and_both true true h = (refl, refl)
and_both true false h = cc
and_both false b h = cc

-- two prefixes of one length are one
pub same_prefix : (p r q : List ℕ) → is_prefix p q ≡ true → is_prefix r q ≡ true → length p ≡ length r → p ≡ r
same_prefix [] [] q h k n = refl
same_prefix [] (c ∷ r) q h k n = absurd (omega arith)
same_prefix (a ∷ p) [] q h k n = absurd (omega arith)
same_prefix (a ∷ p) (c ∷ r) [] h k n = cc
same_prefix (a ∷ p) (c ∷ r) (b ∷ q) h k n =
    let x : (eqb a b ≡ true) × (is_prefix p q ≡ true) = and_both (eqb a b) (is_prefix p q) h in
    let y : (eqb c b ≡ true) × (is_prefix r q ≡ true) = and_both (eqb c b) (is_prefix r q) k in
    let m : length p ≡ length r = omega arith in
    let t : p ≡ r = same_prefix p r q x.1 y.1 m in
    let u : a ≡ b = eqb-true a b x.0 in
    let v : c ≡ b = eqb-true c b y.0 in
    cc

-- what d gives where it stands as deep as c: the pair of the later token
abbrev pub GivesBeside : Flat → DeclNo → Option DeclNo → DeclNo → Pair → Type 0
GivesBeside f c named d x =
    (e : Entry) × (g : Entry) × IsEntry f c e × IsEntry f d g × (depth g ≡ depth e)
    × (x ≡ (Some (unwrap_or named d), max e.decl.token g.decl.token))

module _ (f : Flat) (c : DeclNo) (name : Name) (named : Option DeclNo) (made : Decl) (means : VisibleMeans) (read : decl_at f c ≡ Some made) (shown : (e : Entry) × IsEntry f c e × (is_prefix e.path f.present ≡ true)) where
  abbrev pub all : List ℕ
  all = visible f.present made.space name f.entries

  abbrev pub itself : Entry
  itself = shown.0

  pub its_decl : itself.decl ≡ made
  its_decl =
      let g : (e : Entry) × IsEntry f c e × (e.decl ≡ made) = entry_of f c made read in
      ap (λ (z : Entry). z.decl) (one_entry f c itself g.0 shown.1 g.1) ∙ g.2

  pub beside : (x : Pair) → Passed all (GivesBeside f c named) x → BesidePair f c name named x
  beside x h =
      let d : DeclNo = h.0 in
      let k : GivesBeside f c named d x = h.2 in
      let g : (e : Entry) × Sees f.present made.space name f.entries (number d) e = (means f.present made.space name f.entries (number d)).0 h.1 in
      let p : k.0 ≡ itself = one_entry f c k.0 itself k.2 shown.1 in
      let q : k.1 ≡ g.0 = one_entry f d k.1 g.0 k.3 g.1.there in
      let deep : depth g.0 ≡ depth itself = ap depth (sym q) ∙ k.4 ∙ ap depth p in (
        d,
        max k.0.decl.token k.1.decl.token,
        k.5,
        record {
          itself = itself;
          there = shown.1;
          beside = g.0;
          other_there = g.1.there;
          named = g.1.named;
          one_scope = sym (same_prefix g.0.path itself.path f.present g.1.visible shown.2 deep);
          one_space = ap (λ (z : Decl). z.space) its_decl ∙ sym g.1.in_space;
          at = ap (λ (z : Entry). max z.decl.token k.1.decl.token) p ∙ ap (λ (z : Entry). max itself.decl.token z.decl.token) q;
        },
      )

  pub passed : (x : Pair) → BesidePair f c name named x → Passed all (GivesBeside f c named) x
  passed x h =
      let d : DeclNo = h.0 in
      let k : IsBeside f c name d h.1 = h.3 in
      let p : k.itself ≡ itself = one_entry f c k.itself itself k.there shown.1 in
      let path : k.beside.path ≡ itself.path = sym k.one_scope ∙ ap (λ (z : Entry). z.path) p in (
        d,
        (means f.present made.space name f.entries (number d)).1 (
          k.beside,
          record {
            there = k.other_there;
            visible = ap (λ z. is_prefix z f.present) path ∙ shown.2;
            in_space = sym k.one_space ∙ ap (λ (z : Entry). z.decl.space) p ∙ ap (λ (z : Decl). z.space) its_decl;
            named = k.named;
          },
        ),
        (k.itself, k.beside, k.there, k.other_there, ap length (sym k.one_scope), h.2 ∙ ap (λ z. (Some (unwrap_or named d), z)) k.at),
      )

  pub all_beside : (count : ℕ) (start found : List Pair) (whole rest : List ℕ) → whole ≡ all → rest ≡ [] → IsBetween count start found whole rest (GivesBeside f c named) → Adds start found (BesidePair f c name named)
  all_beside count start found whole rest e none between =
      adds_same start found (Passed all (GivesBeside f c named)) (BesidePair f c name named) beside passed
      (all_found count start found all rest (GivesBeside f c named) none
      (subst (λ z. IsBetween count start found z rest (GivesBeside f c named)) e between))

-- One more step: a declaration as deep as c is taken, another is left.
module _ (count : ℕ) (start found after : List Pair) (whole ns rest : List ℕ) (f : Flat) (c : DeclNo) (named : Option DeclNo) (d : DeclNo) (m n : ℕ) (next : ns ≡ number d ∷ rest) (between : IsBetween count start found whole ns (GivesBeside f c named)) (deep_d : depth_at f d ≡ Some m) (deep_c : depth_at f c ≡ Some n) where
  pub takes_beside : (token : ℕ) (taken : DeclNo) → IsLater f c d token → m ≡ n → taken ≡ unwrap_or named d → after ≡ found ++ (Some taken, token) ∷ [] → IsBetween count start after whole rest (GivesBeside f c named)
  takes_beside token taken later same is more =
      let e : Entry = later.0 in
      let g : Entry = later.1 in
      takes count start found after whole ns rest (GivesBeside f c named) d next between (Some (unwrap_or named d), token)
      (e, g, later.2, later.3, depth_of f d m g deep_d later.3 ∙ same ∙ sym (depth_of f c n e deep_c later.2), ap (λ z. (Some (unwrap_or named d), z)) later.4)
      (λ x h.
      let p : h.0 ≡ e = one_entry f c h.0 e h.2 later.2 in
      let q : h.1 ≡ g = one_entry f d h.1 g h.3 later.3 in
      h.5 ∙ ap (λ z. (Some (unwrap_or named d), z)) (ap (λ (z : Entry). max z.decl.token h.1.decl.token) p ∙ ap (λ (z : Entry). max e.decl.token z.decl.token) q ∙ sym later.4))
      (more ∙ ap (λ z. found ++ (Some z, token) ∷ []) is)

  pub leaves_other : (m ≡ n → ⊥) → after ≡ found → IsBetween count start after whole rest (GivesBeside f c named)
  leaves_other other same =
      leaves count start found after whole ns rest (GivesBeside f c named) d next between
      (λ x h. other (sym (depth_of f d m h.1 deep_d h.3) ∙ h.4 ∙ depth_of f c n h.0 deep_c h.2))
      same
