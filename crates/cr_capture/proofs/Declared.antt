-- The conflicts of a declaration.
use Rattle.std.proofs.Common.{◌≡◌, ℕ, ◌⊎◌, inl, inr, Some, None, List, refl, sym, ◌∙◌, ap, subst, arith}
use Rattle.std.specs.Prelude.{max}
use Rattle.cr_base.specs.declared.Name.{Name}
use Rattle.cr_scope.specs.declared.Decl.{Decl}
use Rattle.cr_scope.specs.declared.DeclNo.{DeclNo}
use Rattle.cr_scope.specs.Declarations.{Entry, Flat, decl_at}
use Rattle.cr_capture.specs.declared.Mention.TheVariants as mention
use Rattle.cr_capture.specs.Conflicts.{Pair, IsEntry, Collides, AreBothLinked, IsConflict}
use Rattle.cr_capture.specs.Finding.{Adds, IsBeside, BesidePair, OwnCollision, OtherCollision, LinkedCollision, IsLinkedAs, IsLinked, LinkedPair}
use Rattle.cr_capture.proofs.Found.{adds_same, adds_both}
use Rattle.cr_capture.proofs.Sought.{one_entry, entry_of}

module _ (f : Flat) (old new : Name) (c : DeclNo) (made : Decl) (read : decl_at f c ≡ Some made) where
  pub its_name : (e : Entry) → IsEntry f c e → e.decl.name ≡ made.name
  its_name e h =
      let g : (e : Entry) × IsEntry f c e × (e.decl ≡ made) = entry_of f c made read in
      ap (λ (z : Entry). z.decl.name) (one_entry f c e g.0 h g.1) ∙ ap (λ (z : Decl). z.name) g.2

  pub own : (before after : List Pair) → made.name ≡ old → Adds before after (BesidePair f c new (Some c)) → Adds before after (OwnCollision f old new c)
  own before after n g =
      adds_same before after (BesidePair f c new (Some c)) (OwnCollision f old new c)
      (λ x k.
      let b : IsBeside f c new k.0 k.1 = k.3 in (
        c,
        k.1,
        k.2,
        record {
          itself = b.itself;
          there = b.there;
          named = its_name b.itself b.there ∙ n;
          other = k.0;
          beside = b.beside;
          other_there = b.other_there;
          other_named = b.named;
          one_scope = b.one_scope;
          one_space = b.one_space;
          made = inl refl;
          at = b.at;
        },
        refl,
      ))
      (λ x k.
      let b : Collides f old new c k.0 k.1 = k.3 in
      let e : c ≡ k.0 = k.4 in (
        b.other,
        k.1,
        k.2 ∙ ap (λ z. (Some z, k.1)) (sym e),
        record {
          itself = b.itself;
          there = subst (λ z. IsEntry f z b.itself) (sym e) b.there;
          beside = b.beside;
          other_there = b.other_there;
          named = b.other_named;
          one_scope = b.one_scope;
          one_space = b.one_space;
          at = b.at;
        },
      ))
      g

  pub others : (before after : List Pair) → made.name ≡ new → Adds before after (BesidePair f c old None) → Adds before after (OtherCollision f old new c)
  others before after n g =
      adds_same before after (BesidePair f c old None) (OtherCollision f old new c)
      (λ x k.
      let b : IsBeside f c old k.0 k.1 = k.3 in (
        k.0,
        k.1,
        k.2,
        record {
          itself = b.beside;
          there = b.other_there;
          named = b.named;
          other = c;
          beside = b.itself;
          other_there = b.there;
          other_named = its_name b.itself b.there ∙ n;
          one_scope = sym b.one_scope;
          one_space = sym b.one_space;
          made = inr refl;
          at = b.at ∙ max_swap b.itself.decl.token b.beside.decl.token;
        },
        refl,
      ))
      (λ x k.
      let b : Collides f old new c k.0 k.1 = k.3 in
      let e : c ≡ b.other = k.4 in (
        k.0,
        k.1,
        k.2,
        record {
          itself = b.beside;
          there = subst (λ z. IsEntry f z b.beside) (sym e) b.other_there;
          beside = b.itself;
          other_there = b.there;
          named = b.named;
          one_scope = sym b.one_scope;
          one_space = sym b.one_space;
          at = b.at ∙ max_swap b.itself.decl.token b.beside.decl.token;
        },
      ))
      g
    where
      max_swap : (m n : ℕ) → max m n ≡ max n m
      max_swap m n = omega arith

module _ (f : Flat) (old new : Name) (c : DeclNo) where
  pub both_linked : (before after : List Pair) → IsLinkedAs f old new c → Adds before after (LinkedPair f old new) → Adds before after (LinkedCollision f old new c)
  both_linked before after is g =
      adds_same before after (LinkedPair f old new) (LinkedCollision f old new c)
      (λ x k.
      let b : IsLinked f old new k.0 k.1 = k.3 in (
        k.0,
        k.1,
        k.2,
        record {
          itself = is.0;
          there = is.1;
          has = is.2;
          named = is.3;
          first_old = b.first_old;
          of_old = b.of_old;
          old_there = b.old_there;
          other = b.other;
          first_new = b.first_new;
          of_new = b.of_new;
          new_there = b.new_there;
          at = b.at;
        },
      ))
      (λ x k.
      let b : AreBothLinked f old new c k.0 k.1 = k.3 in (
        k.0,
        k.1,
        k.2,
        record {
          first_old = b.first_old;
          of_old = b.of_old;
          old_there = b.old_there;
          other = b.other;
          first_new = b.first_new;
          of_new = b.of_new;
          new_there = b.new_there;
          at = b.at;
        },
      ))
      g

  pub declared : (a b d e : List Pair) → Adds a b (OwnCollision f old new c) → Adds b d (OtherCollision f old new c) → Adds d e (LinkedCollision f old new c) → Adds a e (λ x. IsConflict f old new x (mention.Declared c))
  declared a b d e h g k =
      let O : Pair → Type 0 = OwnCollision f old new c in
      let P : Pair → Type 0 = OtherCollision f old new c in
      let L : Pair → Type 0 = LinkedCollision f old new c in
      adds_same a e (λ x. O x ⊎ (P x ⊎ L x)) (λ x. IsConflict f old new x (mention.Declared c))
      (λ x m.
      elim m [
        | inl n ↦ (n.0, n.1, n.2, inl n.3)
        | inr n ↦ elim n [ inl q ↦ (q.0, q.1, q.2, inl q.3) | inr q ↦ (q.0, q.1, q.2, inr q.3) ]
      ])
      (λ x m.
      elim m.3 [
        | inl n ↦
            elim n.made [
              | inl q ↦ inl (m.0, m.1, m.2, n, q)
              | inr q ↦ inr (inl (m.0, m.1, m.2, n, q))
            ]
        | inr n ↦ inr (inr (m.0, m.1, m.2, n))
      ])
      (adds_both a b e O (λ x. P x ⊎ L x) h (adds_both b d e P L g k))
