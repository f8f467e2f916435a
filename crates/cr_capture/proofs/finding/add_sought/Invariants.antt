use Rattle.std.proofs.Common.{length}
use Rattle.cr_scope.specs.Declarations.{visible}
use Rattle.cr_capture.proofs.Found.{IsBetween}
use Rattle.cr_capture.proofs.Sought.{GivesFit}
use Rattle.cr_capture.proofs.finding.add_sought.Given as goal

abbrev pub invariant-loop-d : goal.invariant-loop-d
invariant-loop-d l =
    IsBetween (length l.scopes.entries) l.fn.found.items l.found.items (visible l.scopes.present l.fn.space l.fn.name l.scopes.entries) l.d-iterator (GivesFit l.scopes l.sort l.than l.token)
