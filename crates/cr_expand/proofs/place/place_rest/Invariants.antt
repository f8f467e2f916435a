use Rattle.std.proofs.Common.{◌++◌, [], drop, map}
use Rattle.cr_macros.specs.Tokens.{token_of}
use Rattle.cr_expand.specs.Held.{all_held, hidden}
use Rattle.cr_expand.specs.Placing.{IsPlacing, placed_one}
use Rattle.cr_expand.proofs.place.place_rest.Given as goal

abbrev pub invariant-loop-i : goal.invariant-loop-i
invariant-loop-i l =
    IsPlacing l.names l.fn.sets l.sets (token_of l.names [] l.name) (hidden l.names l.fn.sets l.hide.0) [] (drop l.i l.rest)
    (all_held l.names l.fn.sets l.fn.out.items ++ map (placed_one (token_of l.names [] l.name) (hidden l.names l.fn.sets l.hide.0)) (all_held l.names l.fn.sets l.rest)) l.out.items
