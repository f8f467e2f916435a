-- What is sought among visible declarations is found.
use Rattle.std.proofs.Common.{◌≡◌, ℕ, Bool, true, false, ◌&&◌, Option, Some, None, List, [], ◌∷◌, ◌++◌, refl, sym, ◌∙◌, ap}
use Rattle.std.specs.Prelude.{slice_get, option_map}
use Rattle.cr_base.specs.declared.Name.{Name}
use Rattle.cr_scope.specs.declared.Space.{Space}
use Rattle.cr_scope.specs.declared.DeclNo.{DeclNo}
use Rattle.cr_scope.specs.Declarations.{Entry, Flat, depth, visible, number, decl_at, depth_at}
use Rattle.cr_scope.specs.declared.Decl.{Decl}
use Rattle.cr_scope.specs.Meaning.{Sees, VisibleMeans}
use Rattle.cr_capture.specs.declared.finding.Sort.{Sort}
use Rattle.cr_capture.specs.Conflicts.{Pair, IsEntry}
use Rattle.cr_capture.specs.Finding.{Adds, is_of, is_over, IsFit, SoughtPair}
use Rattle.cr_capture.proofs.Found.{Passed, IsBetween, takes, leaves, all_found, adds_same}

-- a declaration has one entry
pub one_entry : (f : Flat) (d : DeclNo) (e g : Entry) → IsEntry f d e → IsEntry f d g → e ≡ g
one_entry f d e g h k = cc

-- what is read of a declaration is in its entry
pub entry_of : (f : Flat) (d : DeclNo) (x : Decl) → decl_at f d ≡ Some x → (e : Entry) × IsEntry f d e × (e.decl ≡ x)
entry_of f d x h = by (slice_get f.entries (number d)) refl h
  where
    by : (o : Option Entry) → slice_get f.entries (number d) ≡ o → option_map (λ (e : Entry). e.decl) o ≡ Some x → (e : Entry) × IsEntry f d e × (e.decl ≡ x)
    by None q k = cc
    by (Some e) q k = (e, q, cc)

pub depth_of : (f : Flat) (d : DeclNo) (n : ℕ) (e : Entry) → depth_at f d ≡ Some n → IsEntry f d e → depth e ≡ n
depth_of f d n e h k = let q : Some (depth e) ≡ Some n = sym (ap (option_map depth) k) ∙ h in cc

-- a declaration that passes
abbrev pub Fits : Flat → Sort → Option ℕ → DeclNo → Type 0
Fits f sort than d = (e : Entry) × IsEntry f d e × ((is_of e.decl.kind sort && is_over (depth e) than) ≡ true)

pub fits : (f : Flat) (sort : Sort) (than : Option ℕ) (d : DeclNo) (b : Bool) → IsFit f sort than d b → b ≡ true → Fits f sort than d
fits f sort than d b h t = (h.0, h.1, sym h.2 ∙ t)

pub no_fit : (f : Flat) (sort : Sort) (than : Option ℕ) (d : DeclNo) (b : Bool) → IsFit f sort than d b → b ≡ false → Fits f sort than d → ⊥
no_fit f sort than d b h t k =
    let e : h.0 ≡ k.0 = one_entry f d h.0 k.0 h.1 k.1 in
    let g : b ≡ true = h.2 ∙ ap (λ (z : Entry). is_of z.decl.kind sort && is_over (depth z) than) e ∙ k.2 in
    cc

-- a declaration that passes, with the token
abbrev pub GivesFit : Flat → Sort → Option ℕ → ℕ → DeclNo → Pair → Type 0
GivesFit f sort than token d x = (x ≡ (Some d, token)) × Fits f sort than d

module _ (f : Flat) (s : Space) (name : Name) (sort : Sort) (than : Option ℕ) (token : ℕ) (means : VisibleMeans) where
  abbrev pub all : List ℕ
  all = visible f.present s name f.entries

  pub sought : (x : Pair) → Passed all (GivesFit f sort than token) x → SoughtPair f s name sort than token x
  sought x h =
      let g : (e : Entry) × Sees f.present s name f.entries (number h.0) e = (means f.present s name f.entries (number h.0)).0 h.1 in
      let k : Fits f sort than h.0 = h.2.1 in
      let e : k.0 ≡ g.0 = one_entry f h.0 k.0 g.0 k.1 g.1.there in
      (h.0, h.2.0, (g.0, g.1, ap (λ (z : Entry). is_of z.decl.kind sort && is_over (depth z) than) (sym e) ∙ k.2))

  pub passed : (x : Pair) → SoughtPair f s name sort than token x → Passed all (GivesFit f sort than token) x
  passed x h =
      (h.0, (means f.present s name f.entries (number h.0)).1 (h.2.0, h.2.1), (h.1, (h.2.0, h.2.1.there, h.2.2)))

  pub all_sought : (count : ℕ) (start found : List Pair) (rest : List ℕ) → rest ≡ [] → IsBetween count start found all rest (GivesFit f sort than token) → Adds start found (SoughtPair f s name sort than token)
  all_sought count start found rest none between =
      adds_same start found (Passed all (GivesFit f sort than token)) (SoughtPair f s name sort than token) sought passed
      (all_found count start found all rest (GivesFit f sort than token) none between)

-- One more step: a declaration that fits is taken, another is left.
module _ (count : ℕ) (start found after : List Pair) (whole ns rest : List ℕ) (f : Flat) (sort : Sort) (than : Option ℕ) (token : ℕ) (d : DeclNo) (b : Bool) (next : ns ≡ number d ∷ rest) (between : IsBetween count start found whole ns (GivesFit f sort than token)) (is : IsFit f sort than d b) where
  pub takes_fit : b ≡ true → after ≡ found ++ (Some d, token) ∷ [] → IsBetween count start after whole rest (GivesFit f sort than token)
  takes_fit t more =
      takes count start found after whole ns rest (GivesFit f sort than token) d next between (Some d, token) (refl, fits f sort than d b is t) (λ x h. h.0) more

  pub leaves_unfit : b ≡ false → after ≡ found → IsBetween count start after whole rest (GivesFit f sort than token)
  leaves_unfit t same =
      leaves count start found after whole ns rest (GivesFit f sort than token) d next between (λ x h. no_fit f sort than d b is t h.1) same
