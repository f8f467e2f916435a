use Rattle.std.proofs.Common.{◌<◌, ◌∷◌, arith, length, refl, sym, ◌∙◌, ap}
use Rattle.cr_expand.specs.declared.slot.Slot.TheVariants as slot
use Rattle.cr_expand.proofs.Turning.{second}
use Rattle.cr_expand.proofs.turn.call_turn.Goals as goal

pub returns-then-is_mark-clause-means : goal.returns-then-is_mark-clause-means
returns-then-is_mark-clause-means c = λ sets file rest params more e p q n.
    let lt : 1 < length c.args.slots.now.items = omega (arith, c.in-Some-Token.ensures.variant.0 refl, c.args.slots.now.ok) in
    let s = second c.args.names.now sets c.args.h c.args.m.now params c.args.slots.now.items rest c.in-Some-Token.field-0.now c.in-Some-Token.next e lt c.in-Some-Token.ensures.lookup c.in-Some-Token.field-0-is in
    c.group_turn.ensures.means sets file c.in-Some-Token.next s.0 params more (e ∙ ap (λ r. slot.Token c.args.h ∷ r) s.1) (sym c.is_mark.ensures ∙ c.if-is_mark.true) p q n

pub returns-then-is_mark-clause-wanting : goal.returns-then-is_mark-clause-wanting
returns-then-is_mark-clause-wanting c = λ sets rest params e.
    let lt : 1 < length c.args.slots.now.items = omega (arith, c.in-Some-Token.ensures.variant.0 refl, c.args.slots.now.ok) in
    let s = second c.args.names.now sets c.args.h c.args.m.now params c.args.slots.now.items rest c.in-Some-Token.field-0.now c.in-Some-Token.next e lt c.in-Some-Token.ensures.lookup c.in-Some-Token.field-0-is in
    c.group_turn.ensures.wanting sets c.in-Some-Token.next s.0 params (e ∙ ap (λ r. slot.Token c.args.h ∷ r) s.1) (sym c.is_mark.ensures ∙ c.if-is_mark.true)
