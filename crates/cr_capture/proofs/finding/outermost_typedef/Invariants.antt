use Rattle.std.proofs.Common.{length}
use Rattle.cr_scope.specs.declared.Space.TheVariants as space
use Rattle.cr_scope.specs.Declarations.{visible}
use Rattle.cr_capture.proofs.Outermost.{IsLeast}
use Rattle.cr_capture.proofs.finding.outermost_typedef.Given as goal

abbrev pub invariant-loop-d : goal.invariant-loop-d
invariant-loop-d l =
    IsLeast (length l.scopes.entries) l.scopes (visible l.scopes.present space.Ordinary l.fn.name l.scopes.entries) l.d-iterator l.outermost
