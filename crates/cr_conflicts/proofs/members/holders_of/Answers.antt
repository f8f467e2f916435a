use Rattle.std.proofs.Common.{arith, subst}
use Rattle.std.proofs.lemmas.Option.{slice_get-get_or}
use Rattle.cr_groups.specs.Firsts.{Notes}
use Rattle.cr_groups.proofs.Noted.{one_noted}
use Rattle.cr_conflicts.specs.Members.{holder_of}
use Rattle.cr_conflicts.proofs.members.holders_of.Goals as goal

pub each-preserved : goal.each-preserved
each-preserved c = (
  omega (arith, c.each-test.true),
  one_noted (holder_of c.args.tokens.now c.args.name) c.args.members.now c.each.firsts.entries c.note_first.new.firsts.entries c.each.i _ (slice_get-get_or c.args.members.now c.each.i _ c.each-test.true) c.each.invariant.1
      (subst (λ z. Notes z c.each.i c.each.firsts.entries c.note_first.new.firsts.entries) c.holder_in.ensures c.in_ok-note_first.ensures),
)
