use Rattle.std.proofs.Common.{◌≡◌, ◌<◌, ◌^◌, drop}
use Rattle.cr_cond.specs.Constants as spec
use Rattle.cr_cond.proofs.constant.number.Given as goal

abbrev pub invariant-loop-i : goal.invariant-loop-i
invariant-loop-i l = (spec.number l.base l.n (drop l.i l.text) ≡ spec.number l.base 0 l.text) × (l.n < 2 ^ 64)
