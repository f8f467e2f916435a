use Rattle.std.proofs.Common.{arith}
use Rattle.std.proofs.lemmas.Option.{slice_get-get_or}
use Rattle.cr_conflicts.specs.Pairs.{find_least, PairAdds}
use Rattle.cr_groups.proofs.Counted.{one_more}
use Rattle.cr_conflicts.proofs.pairs.add_pairs.Goals as goal

pub each-preserved : goal.each-preserved
each-preserved c = (
  omega (arith, c.each-test.true),
  one_more (λ x f. PairAdds c.args.names.old c.args.names.new c.args.tokens.now c.args.groups.now.entries (find_least c.args.leasts.now.entries) x f) c.args.rows.now _ _ _ c.each.i _ (slice_get-get_or c.args.rows.now c.each.i _ c.each-test.true) c.each.invariant.1 c.in_ok-add_pair.ensures,
)
