use Rattle.std.proofs.Common.{◌≡◌, ℕ, ◌<◌, drop, length}
use Rattle.cr_expand.specs.HideSets.{set_at, with_numbers, Grows, AreBelow}
use Rattle.cr_expand.proofs.hide_sets.HideSets.with_all.Given as goal

abbrev pub invariant-loop-i : goal.invariant-loop-i
invariant-loop-i l = record {
  below : (bound : ℕ) → AreBelow bound l.initial.self → AreBelow bound l.self;
  set : Grows l.initial.self l.self × (l.all.0 < length l.self) × (set_at l.self l.all.0 ≡ with_numbers (set_at l.initial.self l.fn.set.0) (drop l.i (set_at l.initial.self l.fn.more.0)));
}
