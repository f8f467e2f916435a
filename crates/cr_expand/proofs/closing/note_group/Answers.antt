use Rattle.std.proofs.Common.{◌+◌, arith}
use Rattle.cr_expand.proofs.Closes.{found_first}
use Rattle.cr_expand.proofs.Spans.{end_place, group_noted}
use Rattle.cr_expand.proofs.closing.note_group.Goals as goal

pub overflow_sub-close : goal.overflow_sub-close
overflow_sub-close c = let p = end_place c.args.names.now c.args.slots.now.items (c.args.i + 1) c.in-At.close (c.in-At.ensures.ends (c.args.i + 1) (found_first c.args.names.now c.args.slots.now.items (c.args.i + 1))) in omega (arith, p.0)

pub overflow_sub-close-in-At : goal.overflow_sub-close-in-At
overflow_sub-close-in-At c = let p = end_place c.args.names.now c.args.slots.now.items (c.args.i + 1) c.in-At.close (c.in-At.ensures.ends (c.args.i + 1) (found_first c.args.names.now c.args.slots.now.items (c.args.i + 1))) in omega (arith, p.0)

pub index_mut-requires-in-At : goal.index_mut-requires-in-At
index_mut-requires-in-At c = let p = end_place c.args.names.now c.args.slots.now.items (c.args.i + 1) c.in-At.close (c.in-At.ensures.ends (c.args.i + 1) (found_first c.args.names.now c.args.slots.now.items (c.args.i + 1))) in omega (arith, p.1, c.requires.noted.0, c.args.groups.now.ok)

pub returns-in-At : goal.returns-in-At
returns-in-At c = group_noted c.args.names.now c.args.slots.now.items c.args.groups.now.items c.args.i c.in-At.close c.requires.noted (c.in-At.ensures.ends (c.args.i + 1) (found_first c.args.names.now c.args.slots.now.items (c.args.i + 1)))
