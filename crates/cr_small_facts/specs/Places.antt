-- Where facts say that the entity of a key is denoted.
use Rattle.std.specs.Prelude.{ℕ, ◌+◌, ◌≤◌, ◌≡◌, List, [], ◌∷◌, ◌==◌}
use Rattle.std.specs.List.{list_any}
use Rattle.std.specs.FinSet.{contains}
use Rattle.cr_base.specs.declared.key.Key.{Key}
use Rattle.cr_facts.specs.FactOrder.{Facts}
use Rattle.cr_facts.specs.declared.fact.Fact.TheVariants as fact
use Rattle.cr_small_facts.specs.TextFacts.{place}

-- the offsets rise from here on
abbrev pub Rising : ℕ → List ℕ → Type 0
Rising from [] = Unit {0}
Rising from (offset ∷ offsets) = (from ≤ offset) × Rising (offset + 1) offsets

-- The offsets are those in the file of a number at which the entity of a key is denoted, and they rise.
pub record ArePlaces (facts : Facts) (file : ℕ) (key : Key) (offsets : List ℕ) : Type 0 where
  pub rise : Rising 0 offsets
  pub each : (offset : ℕ) → contains facts (fact.Denotes (place file offset) key) ≡ list_any (λ o. offset == o) offsets
