use Rattle.std.proofs.Common.{arith, refl, inr}
use Rattle.cr_expand.specs.declared.closing.Close.TheVariants as close
use Rattle.cr_expand.proofs.Closes.{searched_found, closed_call, known_call, span_known}
use Rattle.cr_expand.proofs.Spans.{end_place}
use Rattle.cr_expand.proofs.closing.close_of.Goals as goal

pub returns-then-span-gt0-clause-closed : goal.returns-then-span-gt0-clause-closed
returns-then-span-gt0-clause-closed c = λ sets.
    let g = span_known c.args.names.now c.args.slots.now.items 1 c.known_span-span.result c.known_span-span.ensures.span c.if-span-gt0.true in
    closed_call c.args.names.now sets c.args.slots.now.items (close.At _) c.requires.slots (known_call c.args.names.now c.args.slots.now.items g.1 c.known_span-span.result _ g.0 g.2 g.4 refl)

pub note_groups-requires-clause-place : goal.note_groups-requires-clause-place
note_groups-requires-clause-place c =
    let p = end_place c.args.names.now c.args.slots.now.items 2 c.in-At.end (c.in-At.ensures.ends 2 (searched_found c.args.names.now c.args.slots.now.items c.args.ahead.now.search c.requires.search)) in omega (arith, p.1)

pub returns-in-At-clause-closed : goal.returns-in-At-clause-closed
returns-in-At-clause-closed c = λ sets.
    closed_call c.args.names.now sets c.args.slots.now.items (close.At c.in-At.end) c.requires.slots (c.in-At.ensures.ends 2 (searched_found c.args.names.now c.args.slots.now.items c.args.ahead.now.search c.requires.search))

pub returns-in-At-clause-search : goal.returns-in-At-clause-search
returns-in-At-clause-search c = (c.close_behind-close.ensures.small, inr (c.close_behind-close.ensures.found 2 (searched_found c.args.names.now c.args.slots.now.items c.args.ahead.now.search c.requires.search)))

pub returns-in_default : goal.returns-in_default
returns-in_default c =
    let f = searched_found c.args.names.now c.args.slots.now.items c.args.ahead.now.search c.requires.search in
    record {
      closed = λ sets. closed_call c.args.names.now sets c.args.slots.now.items c.close_behind-close.result c.requires.slots (c.close_behind-close.ensures.ends 2 f);
      search = (c.close_behind-close.ensures.small, inr (c.close_behind-close.ensures.found 2 f));
      noted = c.requires.noted;
    }
