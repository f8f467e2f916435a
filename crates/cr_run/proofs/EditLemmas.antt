-- Offsets that rise.
use Rattle.std.proofs.Common.{ℕ, ◌+◌, ◌<◌, ◌≤◌, List, [], ◌∷◌, length, get_or, drop, subst, arith}
use Rattle.std.proofs.lemmas.List.{drop_more}
use Rattle.cr_base.specs.Substitution.{Rise}

pub rise_at : (offsets : List ℕ) (i from len end : ℕ) → i < length offsets → Rise from (drop i offsets) len end → (from ≤ get_or offsets i 0) × Rise (get_or offsets i 0 + len) (drop (i + 1) offsets) len end
rise_at offsets i from len end lt h = subst (λ xs. Rise from xs len end) (drop_more offsets i 0 lt) h

pub rise_end : (offsets : List ℕ) (from len end : ℕ) → Rise from offsets len end → from ≤ end
rise_end [] from len end h = h
rise_end (o ∷ os) from len end h = let r = rise_end os (o + len) len end h.1 in omega (arith, h.0)
