use Rattle.std.proofs.Common.{◌≡◌, ◌++◌, map}
use Rattle.std.specs.List.{filter_map}
use Rattle.cr_class.specs.Declarations.{declared_key, declared_place}
use Rattle.cr_class.proofs.declarations.all_declarations.Given as goal

abbrev pub invariant-loop-fact : goal.invariant-loop-fact
invariant-loop-fact l =
    (map (λ k. k.now) l.keys.items ++ filter_map declared_key l.fact-iterator ≡ filter_map declared_key l.initial.fact-iterator)
    × (l.places.items ++ filter_map declared_place l.fact-iterator ≡ filter_map declared_place l.initial.fact-iterator)
