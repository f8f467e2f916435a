use Rattle.cr_acting.proofs.Ending.{ended, kept_first, kept_second}
use Rattle.cr_acting.proofs.binding.Binding.end.Goals as goal

pub put_back-requires-clause-whole : goal.put_back-requires-clause-whole
put_back-requires-clause-whole c =
    c.in_ok-end_alone.ensures.whole

pub put_back-requires-clause-typed : goal.put_back-requires-clause-typed
put_back-requires-clause-typed c =
    (kept_first c.kept_stays.ensures c.growths_follow.ensures c.args.node c.args.childless c.args.self.now _ c.args.kept c.requires.kept c.in_ok-end_alone.ensures).kept.0

pub leave_operands-requires-clause-whole : goal.leave_operands-requires-clause-whole
leave_operands-requires-clause-whole c =
    c.put_back.ensures.whole

pub leave_operands-requires-clause-mark : goal.leave_operands-requires-clause-mark
leave_operands-requires-clause-mark c =
    (kept_second c.kept_stays.ensures c.growths_follow.ensures c.args.node c.args.childless c.args.self.now _ c.args.kept c.requires.kept c.in_ok-end_alone.ensures _ c.put_back.ensures).kept.1

pub returns : goal.returns
returns c =
    ended c.kept_stays.ensures c.growths_follow.ensures c.args.node c.args.childless c.args.self.now _ c.args.kept c.requires.kept c.in_ok-end_alone.ensures _ c.put_back.ensures _ c.args.above _ c.leaves_values.ensures c.leave_operands.ensures
