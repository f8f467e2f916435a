use Rattle.cr_unit_end.proofs.Ending.{unit_ends}
use Rattle.cr_unit_end.proofs.unit.end_of_unit.Goals as goal

pub returns-in_ok-end-in-Whole : goal.returns-in_ok-end-in-Whole
returns-in_ok-end-in-Whole c =
    unit_ends c.args.snapshot.now c.args.unit.now c.args.old.now c.args.new.now c.in-Whole.whole _ c.in-Whole.is c.in_ok-whole.ensures
    c.in_ok-end-in-Whole.end (c.in_ok-end-in-Whole.ensures c.args.snapshot.now c.place_behind-end.ensures)
