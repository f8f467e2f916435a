use Rattle.std.proofs.Common.{◌≡◌, ℕ, false, vec_len}
use Rattle.std.specs.Prelude.{slice_index_or}
use Rattle.cr_expand.proofs.subst.unmarked.Given as goal

abbrev pub invariant-loop-i : goal.invariant-loop-i
invariant-loop-i l = (vec_len l.used ≡ l._i) × ((n : ℕ) → slice_index_or l.used.items n false ≡ false)
