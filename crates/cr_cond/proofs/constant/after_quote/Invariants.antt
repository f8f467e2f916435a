use Rattle.std.proofs.Common.{◌≡◌, drop}
use Rattle.cr_cond.specs.Constants as spec
use Rattle.cr_cond.proofs.constant.after_quote.Given as goal

abbrev pub invariant-loop-i : goal.invariant-loop-i
invariant-loop-i l = spec.after_quote (drop l.i l.text) ≡ spec.after_quote l.text
