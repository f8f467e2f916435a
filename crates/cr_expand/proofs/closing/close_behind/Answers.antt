use Rattle.std.proofs.Common.{◌<◌, length, arith}
use Rattle.cr_expand.proofs.Closes.{end_close, end_missing, end_not_yet, here}
use Rattle.cr_expand.proofs.closing.close_behind.Goals as goal

pub returns-in_default-clause-ends : goal.returns-in_default-clause-ends
returns-in_default-clause-ends c = λ start k.
    let lt : c.loop-here.here.at < length c.args.slots.now.items = omega (arith, c.args.slots.now.ok) in
    end_missing c.args.names.now c.args.slots.now.items start c.loop-here.here.at c.loop-here.here.depth (c.loop-here.invariant.found start k) lt (here c.args.slots.now.items c.loop-here.here.at c.index.result.now _ lt c.index.ensures c.in_default.is)

pub returns-in_default-past-clause-ends : goal.returns-in_default-past-clause-ends
returns-in_default-past-clause-ends c = λ start k.
    let lt : c.loop-here.here.at < length c.args.slots.now.items = omega (arith, c.args.slots.now.ok) in
    let f = c.loop-here.invariant.found start k in
    end_close c.args.names.now c.args.slots.now.items start c.loop-here.here.at c.loop-here.here.depth c.in-Token.h f lt (here c.args.slots.now.items c.loop-here.here.at c.index.result.now _ lt c.index.ensures c.in-Token.is) (c.in_default-past.ensures.found start f)

pub returns-clause-ends : goal.returns-clause-ends
returns-clause-ends c = λ start k. end_not_yet c.args.names.now c.args.slots.now.items start c.loop-here.here.at c.loop-here.here.depth (c.loop-here.invariant.found start k) (omega (arith, c.args.slots.now.ok))
