-- The conflicts of an identifier that was asked.
use Rattle.std.proofs.Common.{◌≡◌, ℕ, ◌<◌, ◌≤◌, ◌⊎◌, inl, inr, Bool, true, false, not, ◌&&◌, ltb, Option, Some, None, List, refl, sym, ◌∙◌, ap, subst, arith}
use Rattle.std.specs.Prelude.{◌↔◌, MatchOption}
use Rattle.std.proofs.lemmas.Bool.{ltb-true, lt-ltb}
use Rattle.cr_base.specs.declared.Name.{Name}
use Rattle.cr_base.specs.declared.Kind.{Kind}
use Rattle.cr_base.specs.declared.Kind.TheVariants as kind
use Rattle.cr_scope.specs.declared.Space.TheVariants as space
use Rattle.cr_scope.specs.declared.Decl.{Decl}
use Rattle.cr_scope.specs.declared.DeclNo.{DeclNo}
use Rattle.cr_scope.specs.Declarations.{Entry, Flat, depth, number, decl_at}
use Rattle.cr_scope.specs.Meaning.{IsLookup}
use Rattle.cr_capture.specs.declared.finding.Sort.TheVariants as sort
use Rattle.cr_capture.specs.declared.Mention.TheVariants as mention
use Rattle.cr_capture.specs.Conflicts.{Pair, IsEntry, IsTypedef, IsTypedefOver, IsOverTypedef, IsTypeName, UncoversTypedef, TakesTypeName, IsConflict}
use Rattle.cr_capture.specs.Finding.{Adds, is_typedef, SoughtPair, IsSought, IsOutermost, IsInnermost, IsUnseen, IsReadAnew, TypedefPair}
use Rattle.cr_capture.proofs.Found.{one_number, adds_same, adds_both}
use Rattle.cr_capture.proofs.Sought.{one_entry, entry_of}
use Rattle.cr_capture.proofs.Beside.{and_both}

pub kind_typedef : (k : Kind) → is_typedef k ≡ true → k ≡ kind.Typedef
kind_typedef kind.Typedef h = refl
kind_typedef _ h = cc

pub not_typedef : (k : Kind) → not (is_typedef k) ≡ true → k ≡ kind.Typedef → ⊥
not_typedef k h e = let q : not (is_typedef k) ≡ false = ap (λ z. not (is_typedef z)) e in absurd cc

pub other_kind : (k : Kind) → (k ≡ kind.Typedef → ⊥) → not (is_typedef k) ≡ true
other_kind kind.Typedef h = absurd (h refl)
other_kind _ h = refl

-- two last declarations in the deepest scope are one
pub one_lookup : (f : Flat) (name : Name) (c d : DeclNo) (g e : Entry) → IsLookup f.present space.Ordinary name f.entries (number c) g → IsLookup f.present space.Ordinary name f.entries (number d) e → c ≡ d
one_lookup f name c d g e h k =
    one_number c d
    (elim (h.best (number d) e k.seen) [
      | inl x ↦
          elim (k.best (number c) g h.seen) [
            | inl y ↦ absurd (omega arith)
            | inr y ↦ (let q : depth g ≡ depth e = y.0 in absurd (omega arith))
          ]
      | inr x ↦
          elim (k.best (number c) g h.seen) [
            | inl y ↦ (let q : depth e ≡ depth g = x.0 in absurd (omega arith))
            | inr y ↦ omega (arith, x.1, y.1)
          ]
    ])

module _ (f : Flat) (name : Name) where
  pub type_name : (d : DeclNo) (x : Decl) (b : Bool) (e : Entry) → IsLookup f.present space.Ordinary name f.entries (number d) e → decl_at f d ≡ Some x → b ≡ is_typedef x.kind → (b ≡ true) ↔ IsTypeName f name
  type_name d x b e is read tested =
      let g : (e : Entry) × IsEntry f d e × (e.decl ≡ x) = entry_of f d x read in
      let q : g.0 ≡ e = one_entry f d g.0 e g.1 is.seen.there in
      let k : is_typedef e.decl.kind ≡ b =
      ap (λ (z : Entry). is_typedef z.decl.kind) (sym q) ∙ ap (λ (z : Decl). is_typedef z.kind) g.2 ∙ sym tested in (
        (λ t. (d, e, is, kind_typedef e.decl.kind (k ∙ t))),
        (λ h.
            let c : h.0 ≡ d = one_lookup f name h.0 d h.1 e h.2 is in
            let r : h.1 ≡ e = one_entry f d h.1 e (subst (λ z. IsEntry f z h.1) c h.2.seen.there) is.seen.there in
            sym k ∙ ap is_typedef (subst IsTypedef r h.3)),
      )

-- a test of a kind and a depth
pub fits_both : (k : Bool) (n than : ℕ) → (k && ltb than n) ≡ true → (k ≡ true) × (than < n)
fits_both k n than h =
    let b : (k ≡ true) × (ltb than n ≡ true) = and_both k (ltb than n) h in
    (b.0, ltb-true than n b.1)

pub both_fit : (k : Bool) (n than : ℕ) → k ≡ true → than < n → (k && ltb than n) ≡ true
both_fit k n than h lt = ap (λ z. z && ltb than n) h ∙ lt-ltb than n lt

pub and_true : (b : Bool) → (b && true) ≡ b
and_true true = refl
and_true false = refl

module _ (f : Flat) (old new : Name) (token : ℕ) where
  -- a typedef deeper than the innermost declaration of new is deeper than all
  pub over_all : (than : Option ℕ) (d : DeclNo) → MatchOption than (IsUnseen f new) (IsInnermost f new) → IsSought f space.Ordinary old sort.Typedef than d → IsTypedefOver f old new d
  over_all None d h k =
      record {
        itself = k.0;
        seen = k.1;
        sort = kind_typedef k.0.decl.kind (sym (and_true (is_typedef k.0.decl.kind)) ∙ k.2);
        deeper = λ c e m. absurd (h c e m);
      }
  over_all (Some n) d h k =
      let b : (is_typedef k.0.decl.kind ≡ true) × (n < depth k.0) = fits_both (is_typedef k.0.decl.kind) (depth k.0) n k.2 in
      record {
        itself = k.0;
        seen = k.1;
        sort = kind_typedef k.0.decl.kind b.0;
        deeper = λ c e m. (let le : depth e ≤ n = h.greatest c e m in let lt : n < depth k.0 = b.1 in omega arith);
      }

  pub all_over : (than : Option ℕ) (d : DeclNo) → MatchOption than (IsUnseen f new) (IsInnermost f new) → IsTypedefOver f old new d → IsSought f space.Ordinary old sort.Typedef than d
  all_over None d h k =
      (k.itself, k.seen, and_true (is_typedef k.itself.decl.kind) ∙ ap is_typedef k.sort)
  all_over (Some n) d h k =
      let lt : depth h.inner < depth k.itself = k.deeper h.itself h.inner h.seen in
      let q : depth h.inner ≡ n = h.at in
      (k.itself, k.seen, both_fit (is_typedef k.itself.decl.kind) (depth k.itself) n (ap is_typedef k.sort) (omega arith))

  pub typedefs : (name : Name) (parameter : Bool) (than : Option ℕ) (before after : List Pair) → IsReadAnew old new name parameter → MatchOption than (IsUnseen f new) (IsInnermost f new) → Adds before after (SoughtPair f space.Ordinary old sort.Typedef than token) → Adds before after (TypedefPair f old new name token parameter)
  typedefs name parameter than before after anew h g =
      adds_same before after (SoughtPair f space.Ordinary old sort.Typedef than token) (TypedefPair f old new name token parameter)
      (λ x k.
      elim anew [
        | inl m ↦ inl (m, k.0, k.1, over_all than k.0 h k.2)
        | inr m ↦ inr (m.0, m.1, k.0, k.1, over_all than k.0 h k.2)
      ])
      (λ x k.
      elim k [
        | inl m ↦ (m.1, m.2, all_over than m.1 h m.3)
        | inr m ↦ (m.2, m.3, all_over than m.2 h m.4)
      ])
      g

  pub uncovering : (name : Name) (than : ℕ) (before after : List Pair) → name ≡ old → IsOutermost f old than → Adds before after (SoughtPair f space.Ordinary old sort.Other (Some than) token) → Adds before after (UncoversTypedef f old name token)
  uncovering name than before after e h g =
      adds_same before after (SoughtPair f space.Ordinary old sort.Other (Some than) token) (UncoversTypedef f old name token)
      (λ x k.
      let b : (not (is_typedef k.2.0.decl.kind) ≡ true) × (than < depth k.2.0) = fits_both (not (is_typedef k.2.0.decl.kind)) (depth k.2.0) than k.2.2 in
      let lt : than < depth k.2.0 = b.1 in
      let q : depth h.outer ≡ than = h.at in (
        e,
        k.0,
        k.1,
        record {
          itself = k.2.0;
          seen = k.2.1;
          sort = not_typedef k.2.0.decl.kind b.0;
          other = h.itself;
          outer = h.outer;
          other_seen = h.seen;
          other_sort = kind_typedef h.outer.decl.kind h.sort;
          deeper = omega arith;
        },
      ))
      (λ x k.
      let is : IsOverTypedef f old k.1 = k.3 in
      let le : than ≤ depth is.outer = h.least is.other is.outer is.other_seen (ap is_typedef is.other_sort) in
      let lt : depth is.outer < depth is.itself = is.deeper in
      (k.1, k.2, (is.itself, is.seen, both_fit (not (is_typedef is.itself.decl.kind)) (depth is.itself) than (other_kind is.itself.decl.kind is.sort) (omega arith))))
      g

  pub asked : (name : Name) (parameter : Bool) (a b c d : List Pair) → Adds a b (TypedefPair f old new name token parameter) → Adds b c (UncoversTypedef f old name token) → Adds c d (TakesTypeName f old new name token parameter) → Adds a d (λ x. IsConflict f old new x (mention.Asked name token parameter))
  asked name parameter a b c d h g k =
      let T : Pair → Type 0 = TypedefPair f old new name token parameter in
      let U : Pair → Type 0 = UncoversTypedef f old name token in
      let K : Pair → Type 0 = TakesTypeName f old new name token parameter in
      adds_same a d (λ x. T x ⊎ (U x ⊎ K x)) (λ x. IsConflict f old new x (mention.Asked name token parameter))
      (λ x m. m)
      (λ x m. m)
      (adds_both a b d T (λ x. U x ⊎ K x) h (adds_both b c d U K g k))
