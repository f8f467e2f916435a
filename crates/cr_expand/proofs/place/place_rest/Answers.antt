use Rattle.std.proofs.Common.{length}
use Rattle.cr_expand.proofs.Places.{placing_goes_on}
use Rattle.cr_expand.proofs.place.place_rest.Goals as goal

pub loop-i-preserved : goal.loop-i-preserved
loop-i-preserved c =
    placing_goes_on c.args.names.now c.args.sets.now c.loop-i.sets c.place_one.new.sets c.args.name c.args.hide.0 c.args.rest.now c.loop-i.out.items c.push.new.self.items _ c.loop-i.i _ c.in_ok-placed.placed
    c.requires.hide c.requires.rest c.loop-i-test.true c.loop-i.invariant c.in_ok-placed.ensures.placed
    (c.in_ok-placed.ensures.below (length c.args.names.now) (record { at = c.loop-i.invariant.tables.named })) c.in_ok-push.ensures.items
