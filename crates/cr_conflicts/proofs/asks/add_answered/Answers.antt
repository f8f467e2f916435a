use Rattle.std.proofs.Common.{◌≡◌, inl, inr, true, sym, subst, ◌∙◌}
use Rattle.cr_groups.specs.Adding.{Adds}
use Rattle.cr_conflicts.specs.Asks.{DeniedAdds}
use Rattle.cr_conflicts.proofs.Denied.{denied}
use Rattle.cr_conflicts.proofs.asks.add_answered.Goals as goal
use Rattle.cr_conflicts.proofs.asks.add_answered.Goals.{else-not-parameter-via-then-not-parameter+else-not-built_in, else-not-parameter-via-else-not-parameter}

pub returns : goal.returns
returns c =
    denied c.args.tokens.now c.args.names.old c.args.names.new c.args.paths.now c.args.rows.now c.args.groups.now.entries c.args.uses.now c.args.found.now c.args.asked.token c.args.asked.path c.args.asked.before c.requires.found _ _ c.args.answer c.if-answer.false
    (elim c.else-not-parameter.branch [
      | else-not-parameter-via-then-not-parameter+else-not-built_in w ↦ inr (sym c.is_noted-built_in.ensures ∙ w.if-not-built_in.false)
      | else-not-parameter-via-else-not-parameter w ↦ inl (sym c.is_noted-parameter.ensures ∙ w.if-not-parameter.false)
    ])
    (subst (λ z. Adds c.args.facts.now c.add_denied.new.facts (DeniedAdds c.args.tokens.now c.args.paths.now c.args.rows.now c.args.groups.now.entries c.args.names.old c.args.names.new c.args.asked.token c.args.asked.path c.args.asked.before (z ≡ true)))
    c.is_noted-parameter.ensures c.in_ok-add_denied.ensures)
