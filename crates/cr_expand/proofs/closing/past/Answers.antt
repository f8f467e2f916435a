use Rattle.std.proofs.Common.{arith, refl, sym, ◌∙◌}
use Rattle.cr_expand.proofs.Spans.{groups_drop}
use Rattle.cr_expand.proofs.Closes.{found_known, known_within, found_more}
use Rattle.cr_expand.proofs.closing.past.Goals as goal

pub known_span-span-requires-clause-groups : goal.known_span-span-requires-clause-groups
known_span-span-requires-clause-groups c = groups_drop c.args.names.now c.args.here.at c.args.slots.now.items c.args.groups.now.items c.requires.noted.1

pub overflow_add-at : goal.overflow_add-at
overflow_add-at c = omega (arith, known_within c.args.names.now c.args.slots.now.items c.args.here.at c.known_span-span.result c.known_span-span.ensures.span c.if-span-gt0.true, c.args.slots.now.ok)

pub overflow_add-at-then-span-gt0 : goal.overflow_add-at-then-span-gt0
overflow_add-at-then-span-gt0 c = omega (arith, known_within c.args.names.now c.args.slots.now.items c.args.here.at c.known_span-span.result c.known_span-span.ensures.span c.if-span-gt0.true, c.args.slots.now.ok)

pub returns-then-span-gt0-clause-found : goal.returns-then-span-gt0-clause-found
returns-then-span-gt0-clause-found c = λ start k. found_known c.args.names.now c.args.slots.now.items start c.args.here.at _ c.args.here.depth c.known_span-span.result k c.known_span-span.ensures.span c.if-span-gt0.true refl

pub returns-in-Some-clause-found : goal.returns-in-Some-clause-found
returns-in-Some-clause-found c = λ start k. found_more c.args.names.now c.args.slots.now.items start c.args.here.at c.args.here.depth c.in-Some.depth c.args.h k c.requires.place c.requires.token (sym c.depth_behind.ensures.depth ∙ c.in-Some.is)
