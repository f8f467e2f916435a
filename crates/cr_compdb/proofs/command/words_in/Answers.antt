use Rattle.std.proofs.Common.{rules, tests}
use Rattle.std.proofs.lemmas.Iterator.Splits.{YieldsList-from_slice_split}
use Rattle.std.proofs.lemmas.Iterator.Consumers.{YieldsList-end}
use Rattle.cr_compdb.specs.Command.{is_gap}
use Rattle.cr_compdb.proofs.command.words_in.Goals as goal

pub returns : goal.returns
returns c =
    let y = rw c.into_iter-run-iterator.ensures.into_iter_gives at c.loop-run.yielded_by in
    let e = YieldsList-end (YieldsList-from_slice_split _ is_gap _ c.split-run-items.ensures.rest c.split-run-items.ensures.done c.split-run-items.ensures.closure (λ x b q k. search (rules, tests))) c.loop-run.yielded _ y _ _ c.in-None.is c.next.ensures.steps in
    rw (← e.0) c.loop-run.invariant
