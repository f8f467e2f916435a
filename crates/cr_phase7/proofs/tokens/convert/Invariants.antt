use Rattle.std.proofs.Common.{◌≡◌, drop, false}
use Rattle.cr_phase7.specs.Tokens.{converted}
use Rattle.cr_phase7.proofs.Pass.{prefixed}
use Rattle.cr_phase7.proofs.tokens.convert.Given as goal

abbrev pub invariant-loop-i : goal.invariant-loop-i
invariant-loop-i l = converted l.names false l.from ≡ prefixed l.tokens.items (converted l.names l.was (drop l.i l.from))
