use Rattle.std.proofs.Common.{◌≡◌, ◌<◌, List, length, sym, ap, ◌∙◌, subst, arith}
use Rattle.std.specs.Prelude.{◌↔◌}
use Rattle.std.specs.List.{Contains, list_any}
use Rattle.std.specs.Ordering.{eq_by_cmp}
use Rattle.std.specs.BTreeSet as tree
use Rattle.cr_base.specs.declared.token.Place.{Place}
use Rattle.cr_facts.specs.declared.fact.Fact.TheVariants.{Denotes}
use Rattle.cr_class.specs.RenameClass.{key_cmp, IsRenamedPlace}
use Rattle.cr_class.proofs.Candidates.{key_total}
use Rattle.cr_class.proofs.Sharings.{key_ties, item_at}
use Rattle.cr_class.proofs.Classes.{any_item, item_any, class_from, class_to, first_contains}
use Rattle.cr_class.proofs.class.class_of.Goals as goal

pub returns-clause-keys : goal.returns-clause-keys
returns-clause-keys c k =
    let law = c.facts_are_ordered.ensures in
    let keys = c.of.result in
    let items = c.of.ensures ∙ c.in_ok-keys-2.ensures.items in
    let same : list_any (eq_by_cmp key_cmp k) keys ≡ tree.contains key_cmp c.in_ok-keys.keys k = ap (list_any (eq_by_cmp key_cmp k)) items in
    let share = c.in_ok-keys.ensures k in (
      λ has. class_from c.args.snapshot.now c.args.facts.now c.args.old.now c.args.target.now c.in_ok-targets.targets.items c.in_ok-targets.ensures k
          (share.0 (sym same ∙ item_any key_cmp (key_total law) (key_ties law) k keys has)),
      λ h. any_item key_cmp (key_total law) (key_ties law) k keys
          (same ∙ share.1 (class_to c.args.snapshot.now c.args.facts.now c.args.old.now c.args.target.now c.in_ok-targets.targets.items c.in_ok-targets.ensures k h)),
    )

pub returns-clause-places : goal.returns-clause-places
returns-clause-places c p =
    let places = c.in_ok-places.ensures.places p in
    let P : List Place → Type 0 = λ l. Contains l p ↔ IsRenamedPlace c.args.snapshot.now c.args.facts.now c.args.old.now c.args.target.now p in
    subst P (sym c.of-2.ensures) (
      λ has. (let h = places.0 has in
          (h.0, class_from c.args.snapshot.now c.args.facts.now c.args.old.now c.args.target.now c.in_ok-targets.targets.items c.in_ok-targets.ensures h.0 ((c.in_ok-keys.ensures h.0).0 h.1), h.2)),
      λ h. places.1 (h.0, (c.in_ok-keys.ensures h.0).1 (class_to c.args.snapshot.now c.args.facts.now c.args.old.now c.args.target.now c.in_ok-targets.targets.items c.in_ok-targets.ensures h.0 h.1), h.2),
    )

pub returns-clause-symbol : goal.returns-clause-symbol
returns-clause-symbol c =
    let some : 0 < length c.in_ok-targets.targets.items = grind (arith, c.is_empty.ensures, c.if-is_empty.false, c.in_ok-targets.targets.ok.0) in
    let k = item_at c.in_ok-targets.targets.items 0 some in
    (k.0, (c.in_ok-targets.ensures k.0).0 (first_contains c.in_ok-targets.targets.items k.0 k.1))

pub returns-clause-known : goal.returns-clause-known
returns-clause-known c known p has =
    let h = (c.in_ok-places.ensures.places p).0 (subst (λ l. Contains l p) c.of-2.ensures has) in
    known (Denotes p h.0) h.2
