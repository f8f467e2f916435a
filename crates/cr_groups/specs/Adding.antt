-- What a set of facts has more than another.
use Rattle.std.specs.Prelude.{◌≡◌, ◌⊎◌, ◌↔◌, ℕ, ◌<◌, true, Some, List, slice_get}
use Rattle.std.specs.FinSet.{contains}
use Rattle.cr_facts.specs.FactOrder.{Facts}
use Rattle.cr_facts.specs.declared.fact.Fact.{Fact}

abbrev pub Adds : Facts → Facts → (Fact → Type 0) → Type 0
Adds before after P = (f : Fact) → (contains after f ≡ true) ↔ ((contains before f ≡ true) ⊎ P f)

-- what the first n of a list add
abbrev pub OfFirst : {A : Type 0} → (A → Fact → Type 0) → List A → ℕ → Fact → Type 0
OfFirst {A} P xs n f = (j : ℕ) × (x : A) × (j < n) × (slice_get xs j ≡ Some x) × P x f
