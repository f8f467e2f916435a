-- What a declaration that has one of the other name beside it adds.
use Rattle.std.proofs.Common.{◌≡◌, ℕ, ◌<◌, ◌≤◌, Option, Some, None, List, sym, subst, ◌∙◌, arith}
use Rattle.cr_base.specs.declared.token.Name.{Name}
use Rattle.cr_base.specs.declared.token.Tok.{Tok}
use Rattle.cr_base.specs.declared.token.Place.{Place}
use Rattle.cr_facts.specs.FactOrder.{Facts}
use Rattle.cr_declared.specs.declared.rows.Row.{Row}
use Rattle.cr_declared.specs.declared.rows.Slot.{Slot}
use Rattle.cr_groups.specs.declared.groups.Group.{Group}
use Rattle.cr_groups.specs.Adding.{Adds}
use Rattle.cr_groups.specs.Rows.{place_in}
use Rattle.cr_conflicts.specs.Pairs.{named, IsAt, IsBeside, PairAdds}
use Rattle.cr_groups.proofs.Added.{adds_same, adds_none}

module _ (old new : Name) (tokens : List Tok) (es : List (Slot × Group)) (least : Slot → Option ℕ) (x : Row) (r : Option ℕ) (beside : IsBeside old new least x r) where
  pub no_pair : (before : Facts) → r ≡ None → Adds before before (PairAdds old new tokens es least x)
  no_pair before e = adds_none before (PairAdds old new tokens es least x) (λ f h.
      let k : r ≡ Some h.1 = (beside h.1).1 h.3 in
      let no : None ≡ Some h.1 = sym e ∙ k in
      cc)

  pub low_pair : (before : Facts) (m : ℕ) → r ≡ Some m → x.decl.token < m → Adds before before (PairAdds old new tokens es least x)
  low_pair before m e lt = adds_none before (PairAdds old new tokens es least x) (λ f h.
      let k : Some h.1 ≡ Some m = sym ((beside h.1).1 h.3) ∙ e in
      let n : h.1 ≡ m = cc in
      let le : h.1 ≤ x.decl.token = h.4 in
      omega (arith, n, le, lt))

  pub one_pair : (before after : Facts) (m : ℕ) (a : Slot) (site : Place) → r ≡ Some m → m ≤ x.decl.token → a ≡ named old x → site ≡ place_in tokens x.decl.token → Adds before after (IsAt es a site) → Adds before after (PairAdds old new tokens es least x)
  one_pair before after m a site e le slot placed h =
      adds_same before after (IsAt es (named old x) (place_in tokens x.decl.token)) (PairAdds old new tokens es least x)
      (λ f k. (k.0, m, k.1, (beside m).0 e, le, k.2))
      (λ f k. (k.0, k.2, k.5))
      (subst (λ z. Adds before after (IsAt es z (place_in tokens x.decl.token))) slot (subst (λ z. Adds before after (IsAt es a z)) placed h))
