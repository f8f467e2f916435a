use Rattle.std.proofs.Common.{◌≡◌, [], Some, None, false, map}
use Rattle.std.specs.Prelude.{fold, if◌then◌else◌}
use Rattle.cr_macros.specs.Definition.{after_piece}
use Rattle.cr_macros.proofs.definition.params.Given as goal

abbrev pub invariant-loop-piece : goal.invariant-loop-piece
invariant-loop-piece l =
    (if l.good then Some (l.list.names.keys, l.list.variadic) else None)
    ≡ fold (λ params piece. after_piece l.names piece params) (Some ([], false)) (map (λ p. p.now) l.yielded)
