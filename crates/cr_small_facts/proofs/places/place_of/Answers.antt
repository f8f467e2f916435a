use Rattle.std.proofs.Common.{sym, ap, ◌∙◌, Some, None}
use Rattle.std.specs.Prelude.{if◌then◌else◌}
use Rattle.cr_small_facts.specs.Filing as spec
use Rattle.cr_small_facts.proofs.places.place_of.Goals as goal

pub returns-in-Denotes : goal.returns-in-Denotes
returns-in-Denotes c =
    sym (ap (spec.place_of c.args.key.now) c.in-Denotes.is ∙ ap (λ b. if b then Some c.in-Denotes.place else None) (sym c.eq.ensures ∙ c.if-eq.true))

pub returns-in_default : goal.returns-in_default
returns-in_default c =
    sym (ap (spec.place_of c.args.key.now) c.in-Denotes.is ∙ ap (λ b. if b then Some c.in-Denotes.place else None) (sym c.eq.ensures ∙ c.if-eq.false))
