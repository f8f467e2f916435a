use Rattle.std.proofs.Common.{arith, subst}
use Rattle.std.proofs.lemmas.Option.{slice_get-get_or}
use Rattle.cr_groups.specs.Firsts.{Notes}
use Rattle.cr_groups.proofs.Noted.{one_noted}
use Rattle.cr_unit_facts.specs.Telling.{itself}
use Rattle.cr_unit_facts.proofs.tokens.hidden_of.Goals as goal

pub each-preserved : goal.each-preserved
each-preserved c = (
  omega (arith, c.each-test.true),
  one_noted (itself) c.args.hidden.now c.each.firsts.entries c.note_first.new.firsts.entries c.each.i _ (slice_get-get_or c.args.hidden.now c.each.i _ c.each-test.true) c.each.invariant.1
      (subst (λ z. Notes z c.each.i c.each.firsts.entries c.note_first.new.firsts.entries) c.number_of.ensures c.in_ok-note_first.ensures),
)
