use Rattle.std.proofs.Common.{arith}
use Rattle.std.proofs.lemmas.Option.{slice_get-get_or}
use Rattle.cr_unit_facts.specs.Telling.{is_noted}
use Rattle.cr_unit_facts.proofs.Spelled.{one_more_token}
use Rattle.cr_unit_facts.proofs.tokens.add_all_tokens.Goals as goal

pub each-preserved : goal.each-preserved
each-preserved c = (
  omega (arith, c.each-test.true),
  one_more_token c.args.tokens.now c.args.names.old c.args.names.new (is_noted c.args.hidden.now.entries) _ _ _ c.each.i _ (slice_get-get_or c.args.tokens.now c.each.i _ c.each-test.true) c.each.invariant.1 c.in_ok-add_token.ensures,
)
