-- What is said of an entity, in its parts.
use Rattle.std.proofs.Common.{◌≡◌, ◌⊎◌, inl, inr, Bool, true, sym, subst}
use Rattle.cr_base.specs.declared.token.Place.{Place}
use Rattle.cr_base.specs.declared.token.Origin.{Origin}
use Rattle.cr_base.specs.declared.token.Origin.TheVariants.{At, Made}
use Rattle.cr_base.specs.declared.key.Key.{Key}
use Rattle.cr_facts.specs.FactOrder.{Facts}
use Rattle.cr_facts.specs.declared.fact.Fact.{Fact}
use Rattle.cr_facts.specs.declared.fact.Fact.TheVariants as fact
use Rattle.cr_groups.specs.Adding.{Adds}
use Rattle.cr_groups.proofs.Added.{adds_same, adds_both}
use Rattle.cr_unit_facts.specs.declared.nature.Nature.{Nature}
use Rattle.cr_unit_facts.specs.Occurring.{IsOfNature, SaysAt, SaysBy, KindSays, NatureSays}

module _ (k : Key) (n : Nature) where
  pub nature_said : (a b c d : Facts) → Adds a b (KindSays k n.kind) → Adds b c (KindSays k n.other) → Adds c d (λ f. (n.file_scope ≡ true) × (f ≡ fact.FileScope k)) → Adds a d (NatureSays k n)
  nature_said a b c d g h i =
      adds_same a d (λ f. (KindSays k n.kind f ⊎ KindSays k n.other f) ⊎ ((n.file_scope ≡ true) × (f ≡ fact.FileScope k))) (NatureSays k n) to from
      (adds_both a c d (λ f. KindSays k n.kind f ⊎ KindSays k n.other f) (λ f. (n.file_scope ≡ true) × (f ≡ fact.FileScope k)) (adds_both a b c (KindSays k n.kind) (KindSays k n.other) g h) i)
    where
      to : (f : Fact) → ((KindSays k n.kind f ⊎ KindSays k n.other f) ⊎ ((n.file_scope ≡ true) × (f ≡ fact.FileScope k))) → NatureSays k n f
      to f (inl (inl (c, is, same))) = inl (c, inl is, same)
      to f (inl (inr (c, is, same))) = inl (c, inr is, same)
      to f (inr m) = inr m

      from : (f : Fact) → NatureSays k n f → (KindSays k n.kind f ⊎ KindSays k n.other f) ⊎ ((n.file_scope ≡ true) × (f ≡ fact.FileScope k))
      from f (inl (c, inl is, same)) = inl (inl (c, is, same))
      from f (inl (c, inr is, same)) = inl (inr (c, is, same))
      from f (inr m) = inr m

  pub said_at : (a b : Facts) (declares : Bool) (site p : Place) (o : Origin) → o ≡ At p → Adds a b (SaysAt (declares ≡ true) (IsOfNature n) (n.file_scope ≡ true) k p)
      → Adds a b (λ f. SaysBy (declares ≡ true) (IsOfNature n) (n.file_scope ≡ true) k site f o)
  said_at a b declares site p o e h = subst (λ z. Adds a b (λ f. SaysBy (declares ≡ true) (IsOfNature n) (n.file_scope ≡ true) k site f z)) (sym e) h

  pub said_made : (a b : Facts) (declares : Bool) (site : Place) (o : Origin) → o ≡ Made → Adds a b (λ f. f ≡ fact.MadeDenotes k site)
      → Adds a b (λ f. SaysBy (declares ≡ true) (IsOfNature n) (n.file_scope ≡ true) k site f o)
  said_made a b declares site o e h = subst (λ z. Adds a b (λ f. SaysBy (declares ≡ true) (IsOfNature n) (n.file_scope ≡ true) k site f z)) (sym e) h
