use Rattle.std.proofs.Common.{◌∷◌, [], sym, ap, ◌∙◌, subst}
use Rattle.std.specs.Prelude.{◌↔◌}
use Rattle.std.specs.Option.{option_copied}
use Rattle.std.specs.List.{Contains}
use Rattle.cr_class.specs.RenameClass.{MeansInternal}
use Rattle.cr_class.proofs.Candidates.{means_at, means_key}
use Rattle.cr_class.proofs.target.internal_keys.Goals as goal

pub returns-in-Some : goal.returns-in-Some
returns-in-Some c k =
    let means = means_at c.facts_are_ordered.ensures c.args.snapshot.now c.args.facts.now c.in-Some.place (c.in_ok-place.ensures.first c.in-Some.place c.in-Some.is) k in
    (λ has. means.0 ((c.in_ok-keys.ensures k).0 has), λ m. (c.in_ok-keys.ensures k).1 (means.1 m))

pub returns-in_ok-keys-in-Some-2 : goal.returns-in_ok-keys-in-Some-2
returns-in_ok-keys-in-Some-2 c k =
    let one = c.in_ok-keys-in-Some-2.ensures ∙ ap (λ l. l ∷ []) c.in_ok-copy-in-Some-2.ensures in
    subst (λ keys. Contains keys k ↔ MeansInternal c.args.snapshot.now c.args.facts.now k) (sym one)
    (means_key c.facts_are_ordered.ensures c.args.snapshot.now c.args.facts.now (c.in_ok-place.ensures.none c.in_default.is) c.in-Some-2.key.now
    (c.in_ok-least_key.ensures.least c.in-Some-2.key.now (ap option_copied c.in-Some-2.is)) k)
