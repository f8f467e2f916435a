use Rattle.std.proofs.Common.{length}
use Rattle.cr_capture.proofs.Found.{IsBetween}
use Rattle.cr_capture.proofs.Beside.{GivesBeside}
use Rattle.cr_capture.proofs.finding.add_beside.Given as goal

abbrev pub invariant-loop-d : goal.invariant-loop-d
invariant-loop-d l =
    IsBetween (length l.scopes.entries) l.fn.found.items l.found.items l.initial.d-iterator l.d-iterator (GivesBeside l.scopes l.c l.named)
