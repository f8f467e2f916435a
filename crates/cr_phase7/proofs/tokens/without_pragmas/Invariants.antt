use Rattle.std.proofs.Common.{◌≡◌, ◌++◌, drop}
use Rattle.cr_phase7.specs.Tokens.{kept, bad_pragma}
use Rattle.cr_phase7.proofs.tokens.without_pragmas.Given as goal

abbrev pub invariant-loop-i : goal.invariant-loop-i
invariant-loop-i l =
    (l.tokens.items ++ kept l.names l.skip (drop l.i l.from) ≡ kept l.names 0 l.from)
    × (bad_pragma l.names l.skip (drop l.i l.from) ≡ bad_pragma l.names 0 l.from)
