use Rattle.std.proofs.Common.{◌≡◌, ℕ, ◌<◌, drop, length}
use Rattle.cr_expand.specs.HideSets.{set_at, in_both, Grows, AreBelow}
use Rattle.cr_expand.proofs.hide_sets.HideSets.both.Given as goal

abbrev pub invariant-loop-i : goal.invariant-loop-i
invariant-loop-i l = record {
  below : (bound : ℕ) → AreBelow bound l.initial.self → AreBelow bound l.self;
  set : Grows l.initial.self l.self × (l.common.0 < length l.self) × (set_at l.self l.common.0 ≡ in_both (drop l.i (set_at l.initial.self l.fn.set.0)) (set_at l.initial.self l.fn.other.0));
}
