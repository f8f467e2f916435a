-- The conflicts of an identifier that is looked up.
use Rattle.std.proofs.Common.{◌≡◌, ℕ, ◌<◌, ◌⊎◌, inl, inr, true, Option, Some, None, List, [], ◌∷◌, ◌++◌, sym, ◌∙◌, ap, subst}
use Rattle.std.specs.Prelude.{MatchOption}
use Rattle.std.proofs.lemmas.Bool.{ltb-true, lt-ltb}
use Rattle.cr_base.specs.declared.Name.{Name}
use Rattle.cr_scope.specs.declared.Space.{Space}
use Rattle.cr_scope.specs.declared.DeclNo.{DeclNo}
use Rattle.cr_scope.specs.Declarations.{Entry, Flat, depth, number, lookup}
use Rattle.cr_scope.specs.Meaning.{IsLookup, SeesNone, LookupMeans}
use Rattle.cr_capture.specs.declared.finding.Sort.TheVariants as sort
use Rattle.cr_capture.specs.declared.Mention.TheVariants as mention
use Rattle.cr_capture.specs.Conflicts.{Pair, IsEntry, IsDeeperThan, IsMeant, IsHidden, IsConflict, IsDenoted}
use Rattle.cr_capture.specs.Finding.{Adds, is_over, SoughtPair, IsDepthOf, IsVisibleFrom, CapturedPair, HiddenPair}
use Rattle.cr_capture.proofs.Found.{one_number, adds_same, adds_one, adds_both}
use Rattle.cr_capture.proofs.Sought.{one_entry}

-- what a look-up gives has an entry
pub looked_at : (f : Flat) (s : Space) (name : Name) (n : ℕ) → LookupMeans → lookup f.present s name f.entries ≡ Some n → (e : Entry) × IsLookup f.present s name f.entries n e
looked_at f s name n means h =
    subst (λ o. MatchOption o (SeesNone f.present s name f.entries) (λ i. (e : Entry) × IsLookup f.present s name f.entries i e)) h (means f.present s name f.entries)

module _ (f : Flat) (old new : Name) (s : Space) (name : Name) (token : ℕ) where
  pub deeper_than : (denoted : Option DeclNo) (than : Option ℕ) (e : Entry) → IsDepthOf f denoted than → is_over (depth e) than ≡ true → IsDeeperThan f e denoted
  deeper_than None than e h k = tt
  deeper_than (Some c) than e h k =
      (h.0, h.1, ltb-true (depth h.0) (depth e) (ap (is_over (depth e)) (sym h.2) ∙ k))

  pub than_deeper : (denoted : Option DeclNo) (than : Option ℕ) (e : Entry) → IsDepthOf f denoted than → IsDeeperThan f e denoted → is_over (depth e) than ≡ true
  than_deeper None than e h k = ap (is_over (depth e)) h
  than_deeper (Some c) than e h k =
      let q : h.0 ≡ k.0 = one_entry f c h.0 k.0 h.1 k.1 in
      ap (is_over (depth e)) h.2 ∙ lt-ltb (depth h.0) (depth e) (subst (λ (z : Entry). depth z < depth e) (sym q) k.2)

  pub captured : (denoted : Option DeclNo) (than : Option ℕ) (before after : List Pair) → name ≡ new → IsDepthOf f denoted than → Adds before after (SoughtPair f s old sort.Any than token) → Adds before after (CapturedPair f old new s name token denoted)
  captured denoted than before after e h g =
      adds_same before after (SoughtPair f s old sort.Any than token) (CapturedPair f old new s name token denoted)
      (λ x k. (
        k.0,
        k.1,
        record {
          mentions = e;
          itself = k.2.0;
          seen = k.2.1;
          deeper = deeper_than denoted than k.2.0 h k.2.2;
        },
      ))
      (λ x k. (k.0, k.1, (k.2.itself, k.2.seen, than_deeper denoted than k.2.itself h k.2.deeper)))
      g

  -- what a mention means is one declaration
  pub one_meant : (denoted : Option DeclNo) (c d : DeclNo) → IsMeant f s name c denoted → IsMeant f s name d denoted → c ≡ d
  one_meant None c d h k = one_number c d (let q : Some (number c) ≡ Some (number d) = sym h ∙ k in cc)
  one_meant (Some b) c d h k = h ∙ sym k

  pub hidden : (denoted : Option DeclNo) (d : DeclNo) → LookupMeans → IsDenoted f s name token denoted → name ≡ old → IsMeant f s name d denoted → IsVisibleFrom f s new denoted → IsHidden f old new s name denoted d
  hidden None d means is e m v =
      let g : (e : Entry) × IsLookup f.present s name f.entries (number d) e = looked_at f s name (number d) means m in
      record { mentions = e; meant = m; itself = g.0; there = g.1.seen.there; other = v.0; over = v.1; seen = v.2; inside = tt }
  hidden (Some c) d means is e m v =
      record {
        mentions = e;
        meant = m;
        itself = v.2;
        there = subst (λ z. IsEntry f z v.2) (sym m) v.4;
        other = v.0;
        over = v.1;
        seen = v.3;
        inside = v.5;
      }

  pub hidden_pair : (denoted : Option DeclNo) (d : DeclNo) (before after : List Pair) → LookupMeans → IsDenoted f s name token denoted → name ≡ old → IsMeant f s name d denoted → IsVisibleFrom f s new denoted → after ≡ before ++ (Some d, token) ∷ [] → Adds before after (HiddenPair f old new s name token denoted)
  hidden_pair denoted d before after means is e m v more =
      adds_same before after (λ x. x ≡ (Some d, token)) (HiddenPair f old new s name token denoted)
      (λ x k. (d, k, hidden denoted d means is e m v))
      (λ x k. k.1 ∙ ap (λ z. (Some z, token)) (one_meant denoted k.0 d k.2.meant m))
      (adds_one before after (Some d, token) more)

  pub named : (denoted : Option DeclNo) (before between after : List Pair) → Adds before between (CapturedPair f old new s name token denoted) → Adds between after (HiddenPair f old new s name token denoted) → Adds before after (λ x. IsConflict f old new x (mention.Named s name token denoted))
  named denoted before between after h g =
      adds_same before after (λ x. CapturedPair f old new s name token denoted x ⊎ HiddenPair f old new s name token denoted x) (λ x. IsConflict f old new x (mention.Named s name token denoted))
      (λ x k. elim k [ inl m ↦ (m.0, m.1, inl m.2) | inr m ↦ (m.0, m.1, inr m.2) ])
      (λ x k. elim k.2 [ inl m ↦ inl (k.0, k.1, m) | inr m ↦ inr (k.0, k.1, m) ])
      (adds_both before between after (CapturedPair f old new s name token denoted) (HiddenPair f old new s name token denoted) h g)
