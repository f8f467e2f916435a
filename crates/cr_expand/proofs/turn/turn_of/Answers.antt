use Rattle.std.proofs.Common.{◌<◌, arith, length, refl}
use Rattle.cr_expand.proofs.Turning.{first_is, next_token}
use Rattle.cr_expand.proofs.turn.turn_of.Goals as goal

pub returns-in-Some-Token : goal.returns-in-Some-Token
returns-in-Some-Token c = record {
  search = c.token_turn.ensures.search;
  noted = c.token_turn.ensures.noted;
  wanting = λ file.
      let lt : 0 < length c.args.slots.now.items = omega (arith, c.in-Some-Token.ensures.variant.0 refl, c.args.slots.now.ok) in
      let s = first_is c.args.slots.now.items c.in-Some-Token.field-0.now _ lt c.in-Some-Token.ensures.lookup c.in-Some-Token.field-0-is in
      c.token_turn.ensures.wanting file s.0 s.1;
  means = λ file more n.
      let lt : 0 < length c.args.slots.now.items = omega (arith, c.in-Some-Token.ensures.variant.0 refl, c.args.slots.now.ok) in
      let s = first_is c.args.slots.now.items c.in-Some-Token.field-0.now _ lt c.in-Some-Token.ensures.lookup c.in-Some-Token.field-0-is in
      next_token c.args.names.now c.args.sets.now c.args.macros.now file c.args.slots.now.items c.in-Some-Token.h s.0 more c.token_turn.result s.1 (c.token_turn.ensures.means file s.0 more s.1 n) c.token_turn.ensures.head;
}
