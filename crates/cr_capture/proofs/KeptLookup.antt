-- What a mention denotes is kept.
use Rattle.std.proofs.Common.{◌≡◌, ℕ, ◌<◌, ◌≤◌, ◌⊎◌, inl, inr, Bool, true, false, cond, Some, List, refl, sym, ◌∙◌, ap, subst, arith}
use Rattle.std.specs.Prelude.{slice_get}
use Rattle.std.proofs.lemmas.Bool.{cases_lt}
use Rattle.cr_base.specs.declared.Name.{Name}
use Rattle.cr_scope.specs.declared.Space.{Space}
use Rattle.cr_scope.specs.declared.Space.TheVariants as space
use Rattle.cr_scope.specs.declared.DeclNo.{DeclNo}
use Rattle.cr_scope.specs.Declarations.{Entry, Flat, depth, is_prefix, number}
use Rattle.cr_scope.specs.Meaning.{Sees, IsLookup, LookupMeans}
use Rattle.cr_capture.specs.declared.Mention.TheVariants as mention
use Rattle.cr_capture.specs.Conflicts.{IsTypedef}
use Rattle.cr_capture.specs.Renaming.{Class, renamed, all_renamed, name_after, IsRenaming, IsFree, AreFree, KeepsLookup, KeepsAnswer}
use Rattle.cr_capture.proofs.Beside.{same_prefix}
use Rattle.cr_capture.proofs.Renamed.{numbered, renamed_at, from_renamed, no_collision, lookup_one, one_number_of}

pub not_hidden : {m n j i : ℕ} → (n ≤ m → ⊥) → (m < n) ⊎ ((m ≡ n) × (j ≤ i))
not_hidden {m} {n} h = elim (cases_lt m n) [ inl k ↦ inl k | inr k ↦ absurd (h k) ]

pub not_deeper : {m n j i : ℕ} → (n < m → ⊥) → (m ≡ n → ⊥) → (m < n) ⊎ ((m ≡ n) × (j ≤ i))
not_deeper {m} {n} h g =
    elim (cases_lt m n) [
      | inl k ↦ inl k
      | inr k ↦
          elim (cases_lt n m) [
            | inl k' ↦ absurd (h k')
            | inr k' ↦ (let q : m ≡ n = omega arith in absurd (g q))
          ]
    ]

module _ (class : Class) (old new : Name) (f : Flat) (s : Space) (name : Name) (token : ℕ) (d : DeclNo) (e : Entry) (of : IsRenaming class old new f.entries) (before : AreFree class f old new) (free : IsFree class f old new (mention.Named s name token (Some d))) (is : IsLookup f.present s name f.entries (number d) e) where
  abbrev pub IsBest : ℕ → Entry → Type 0
  IsBest j g = (depth g < depth e) ⊎ ((depth g ≡ depth e) × (j ≤ number d))

  abbrev pub at : (j : ℕ) (g : Entry) → slice_get f.entries j ≡ Some g → is_prefix g.path f.present ≡ true → g.decl.space ≡ s → (n : Name) → g.decl.name ≡ n → Sees f.present s n f.entries j g
  at j g there vis sp n named = record { there = there; visible = vis; in_space = sp; named = named }

  pub best_after : (v : Bool) → class e ≡ v → (j : ℕ) (g : Entry) (w : Bool) → class g ≡ w → slice_get f.entries j ≡ Some g → is_prefix g.path f.present ≡ true → g.decl.space ≡ s → cond w new g.decl.name ≡ cond v new name → IsBest j g
  best_after true ce j g true cg there vis sp n =
      is.best j g (at j g there vis sp name (of.named j g there cg ∙ sym (of.named (number d) e is.seen.there ce) ∙ is.seen.named))
  best_after true ce j g false cg there vis sp n =
      not_hidden
      (λ h.
      free d token e (
        d,
        refl,
        inr (record {
          mentions = sym is.seen.named ∙ of.named (number d) e is.seen.there ce;
          meant = refl;
          itself = e;
          there = is.seen.there;
          other = numbered j;
          over = g;
          seen = at j g there vis sp new n;
          inside = h;
        }),
      )
      is.seen.there
      ce)
  best_after false ce j g true cg there vis sp n =
      not_deeper
      (λ h.
      free (numbered j) token g (
        numbered j,
        refl,
        inl (record {
          mentions = sym n;
          itself = g;
          seen = at j g there vis sp old (of.named j g there cg);
          deeper = (e, is.seen.there, h);
        }),
      )
      there
      cg)
      (λ h.
      no_collision class old new f before (numbered j) d g e there cg (of.named j g there cg) is.seen.there (is.seen.named ∙ sym n)
      (same_prefix g.path e.path f.present vis is.seen.visible h)
      (sp ∙ sym is.seen.in_space))
  best_after false ce j g false cg there vis sp n = is.best j g (at j g there vis sp name n)

  pub named_after : (v : Bool) → class e ≡ v → cond v new e.decl.name ≡ cond v new name
  named_after true h = refl
  named_after false h = is.seen.named

  pub kept : IsLookup f.present s (name_after class new e name) (all_renamed class new f).entries (number d) (renamed class new e)
  kept =
      record {
        seen = record {
          there = renamed_at class new f.entries (number d) e is.seen.there;
          visible = is.seen.visible;
          in_space = is.seen.in_space;
          named = named_after (class e) refl;
        };
        best = λ j g sees.
            let k : (c : Entry) × (slice_get f.entries j ≡ Some c) × (g ≡ renamed class new c) = from_renamed class new f.entries j g sees.there in
            subst (IsBest j) (sym k.2)
            (best_after (class e) refl j k.0 (class k.0) refl k.1
            (ap (λ (z : Entry). is_prefix z.path f.present) (sym k.2) ∙ sees.visible)
            (ap (λ (z : Entry). z.decl.space) (sym k.2) ∙ sees.in_space)
            (ap (λ (z : Entry). z.decl.name) (sym k.2) ∙ sees.named));
      }

pub keeps_lookup : LookupMeans → KeepsLookup
keeps_lookup means class old new f s name token d e of before free is =
    lookup_one f.present s (name_after class new e name) (all_renamed class new f).entries means (number d) (renamed class new e)
    (kept class old new f s name token d e of before free is)
    ∙ sym (lookup_one f.present s name f.entries means (number d) e is)

-- what stands at one number is one declaration
pub one_there : (es : List Entry) (i j : ℕ) (e g : Entry) → i ≡ j → slice_get es i ≡ Some e → slice_get es j ≡ Some g → e ≡ g
one_there es i j e g q h k = let z : Some e ≡ Some g = sym h ∙ ap (slice_get es) q ∙ k in cc

pub keeps_answer : LookupMeans → KeepsAnswer
keeps_answer means class old new f name token d e of before free is =
    let name_then : Name = name_after class new e name in
    let es_then : List Entry = (all_renamed class new f).entries in
    let then : IsLookup f.present space.Ordinary name_then es_then (number d) (renamed class new e) = kept class old new f space.Ordinary name token d e of before free is in (
      λ h.
          (let q : number h.0 ≡ number d = one_number_of f.present space.Ordinary name_then es_then means (number h.0) (number d) h.1 (renamed class new e) h.2 then in
          let k : h.1 ≡ renamed class new e = one_there es_then (number h.0) (number d) h.1 (renamed class new e) q h.2.seen.there then.seen.there in
          (d, e, is, subst IsTypedef k h.3)),
      λ h.
          (let q : number h.0 ≡ number d = one_number_of f.present space.Ordinary name f.entries means (number h.0) (number d) h.1 e h.2 is in
          let k : h.1 ≡ e = one_there f.entries (number h.0) (number d) h.1 e q h.2.seen.there is.seen.there in
          (d, renamed class new e, then, subst IsTypedef k h.3)),
    )
