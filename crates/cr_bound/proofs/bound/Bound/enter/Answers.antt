use Rattle.std.proofs.Common.{Some, ap, ◌∙◌}
use Rattle.std.specs.Prelude.{unwrap_or}
use Rattle.cr_bound.proofs.Lenses.{moves_typed}
use Rattle.cr_bound.proofs.Scopes.{suffix_entered, block_entered, suffix_typed}
use Rattle.cr_bound.proofs.bound.Bound.enter.Goals as goal

pub returns-then-is_suffix-clause-ok : goal.returns-then-is_suffix-clause-ok
returns-then-is_suffix-clause-ok c =
    suffix_entered _ _ c.in_ok-enter.ensures.ok _ _ _ c.is_suffix.ensures c.if-is_suffix.true
    (ap Some (c.unwrap_or.ensures ∙ ap (unwrap_or c.args.self.now.pending.parameters) c.scopes-scope.ensures))

pub returns-then-is_suffix-clause-typed : goal.returns-then-is_suffix-clause-typed
returns-then-is_suffix-clause-typed c = suffix_typed _ _ c.in_ok-enter.ensures.ok _

pub returns-else-is_suffix-clause-ok : goal.returns-else-is_suffix-clause-ok
returns-else-is_suffix-clause-ok c = block_entered _ _ c.in_ok-enter.ensures.ok _ _ c.is_suffix.ensures c.if-is_suffix.false

pub returns-else-is_suffix-clause-typed : goal.returns-else-is_suffix-clause-typed
returns-else-is_suffix-clause-typed c = moves_typed _ _ _ c.in_ok-enter.ensures.ok
