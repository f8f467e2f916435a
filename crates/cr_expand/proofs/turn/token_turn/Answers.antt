use Rattle.std.proofs.Common.{◌∙◌, ap, length, map}
use Rattle.cr_macros.specs.Definition.{text_of}
use Rattle.cr_macros.specs.Expansion.{call_of}
use Rattle.cr_macros.specs.MacroTables.{macro_text}
use Rattle.cr_expand.specs.Held.{held}
use Rattle.cr_expand.specs.Heading.{called_by}
use Rattle.cr_expand.specs.Turns.{list_of}
use Rattle.cr_expand.proofs.Turning.{turn_by, wanting_by}
use Rattle.cr_expand.proofs.turn.token_turn.Goals as goal

pub returns-in-Stays-clause-means : goal.returns-in-Stays-clause-means
returns-in-Stays-clause-means c = λ file rest more e n. (rest, e, c.in-Stays.ensures.means file (list_of c.args.names.now c.args.sets.now rest more))

pub returns-in-Predefined-clause-means : goal.returns-in-Predefined-clause-means
returns-in-Predefined-clause-means c = λ file rest more e n. (rest, e, c.in-Predefined.ensures.means file (list_of c.args.names.now c.args.sets.now rest more))

pub returns-in-None-clause-means : goal.returns-in-None-clause-means
returns-in-None-clause-means c = λ file rest more e n.
    (rest, e, c.in-Named.ensures.means file (list_of c.args.names.now c.args.sets.now rest more) ∙ ap (called_by (held c.args.names.now c.args.sets.now c.args.h) c.args.names.now c.in-Named.m.now (list_of c.args.names.now c.args.sets.now rest more)) c.in-None.is)

pub returns-in-Some-clause-means : goal.returns-in-Some-clause-means
returns-in-Some-clause-means c = λ file rest more e n.
    turn_by c.args.names.now c.args.sets.now file c.args.slots.now.items more
    (call_of (held c.args.names.now c.args.sets.now c.args.h) (macro_text c.args.names.now c.in-Named.m.now) (map (text_of c.args.names.now) c.in-Some.params)) _ c.call_turn.result
    (λ l. c.in-Named.ensures.means file l ∙ ap (called_by (held c.args.names.now c.args.sets.now c.args.h) c.args.names.now c.in-Named.m.now l) c.in-Some.is)
    (c.call_turn.ensures.means c.args.sets.now file rest c.in-Some.params more e c.in-Some.is (ap length c.items.ensures) n)

pub returns-in-Some-clause-wanting : goal.returns-in-Some-clause-wanting
returns-in-Some-clause-wanting c = λ file rest e.
    wanting_by c.args.names.now c.args.sets.now c.args.finished c.args.slots.now.items rest c.args.h
    (λ x. call_of (held c.args.names.now c.args.sets.now x) (macro_text c.args.names.now c.in-Named.m.now) (map (text_of c.args.names.now) c.in-Some.params)) _ c.call_turn.result e
    (λ l. c.in-Named.ensures.means file l ∙ ap (called_by (held c.args.names.now c.args.sets.now c.args.h) c.args.names.now c.in-Named.m.now l) c.in-Some.is)
    (c.call_turn.ensures.wanting c.args.sets.now rest c.in-Some.params e)
