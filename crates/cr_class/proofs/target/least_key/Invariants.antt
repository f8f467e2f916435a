use Rattle.std.proofs.Common.{◌≡◌, None}
use Rattle.std.specs.List.{filter_map}
use Rattle.std.specs.Option.{option_map}
use Rattle.cr_class.specs.RenameClass.{key_cmp}
use Rattle.cr_class.specs.Declarations.{least, file_scope_key}
use Rattle.cr_class.proofs.target.least_key.Given as goal

abbrev pub invariant-loop-fact : goal.invariant-loop-fact
invariant-loop-fact l =
    least key_cmp (option_map (λ k. k.now) l.best) (filter_map (file_scope_key l.facts) l.fact-iterator) ≡ least key_cmp None (filter_map (file_scope_key l.facts) l.initial.fact-iterator)
