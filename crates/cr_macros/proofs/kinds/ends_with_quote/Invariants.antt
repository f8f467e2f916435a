use Rattle.std.proofs.Common.{◌≡◌, drop, false}
use Rattle.cr_macros.specs.OneToken.{ends_with_quote}
use Rattle.cr_macros.proofs.kinds.ends_with_quote.Given as goal

abbrev pub invariant-loop-i : goal.invariant-loop-i
invariant-loop-i l = ends_with_quote l.quote l.escaped (drop l.i l.text) ≡ ends_with_quote l.quote false l.text
