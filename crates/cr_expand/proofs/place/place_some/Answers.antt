use Rattle.std.proofs.Common.{◌∷◌, length, rules, refl}
use Rattle.std.proofs.lemmas.List.Elements.{All-cons}
use Rattle.cr_expand.specs.Held.{IsKnown}
use Rattle.cr_expand.proofs.Sets.{grows_same}
use Rattle.cr_expand.proofs.Kept.{tables_later, all_known_later}
use Rattle.cr_expand.proofs.Places.{all_placed}
use Rattle.cr_expand.proofs.place.place_some.Goals as goal

pub place_rest-requires-clause-tables : goal.place_rest-requires-clause-tables
place_rest-requires-clause-tables c =
    tables_later c.args.names.now c.args.names.now c.args.sets.now c.place_one.new.sets c.requires.tables (grows_same c.args.names.now) c.in_ok-placed.ensures.placed.0.0 c.requires.tables.distinct
    (c.in_ok-placed.ensures.below (length c.args.names.now) (record { at = c.requires.tables.named })).at

pub place_rest-requires-clause-rest : goal.place_rest-requires-clause-rest
place_rest-requires-clause-rest c = all_known_later c.args.names.now c.args.names.now c.args.sets.now c.place_one.new.sets c.args.rest.now (grows_same c.args.names.now) c.in_ok-placed.ensures.placed.0.0 c.requires.rest

pub returns : goal.returns
returns c =
    all_placed c.args.names.now c.args.sets.now c.place_one.new.sets c.place_rest.new.sets c.args.name c.args.hide.0 c.args.first c.in_ok-placed.placed c.args.rest.now (c.args.first ∷ c.args.rest.now) c.push.new.self.items c.place_rest.new.out.items
    c.requires.tables c.requires.hide (All-cons (IsKnown c.args.names.now c.args.sets.now) c.args.first c.args.rest.now c.requires.first c.requires.rest) refl c.in_ok-placed.ensures.placed
    (c.in_ok-placed.ensures.below (length c.args.names.now) (record { at = c.requires.tables.named })) (search rules) c.in_ok-place_rest.ensures.placing
