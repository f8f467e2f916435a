-- Keys that share declaring places, and the links between declarations. No contract of a public call cites it.
use Rattle.std.specs.Prelude.{ℕ, ◌≡◌, ◌⊎◌, List, Some, slice_get}
use Rattle.std.specs.List.{Contains}
use Rattle.cr_base.specs.declared.token.Place.{Place}
use Rattle.cr_base.specs.declared.key.Key.{Key}
use Rattle.cr_facts.specs.FactOrder.{Facts}
use Rattle.cr_facts.specs.declared.fact.Fact.TheVariants.{Declares}
use Rattle.cr_class.specs.RenameClass.{Has}
use Rattle.cr_class.specs.Graph.{linked_with, IsGraph}

-- the least set that has some keys and each key that shares a declaring place with one in the set
pub data Shares (facts : Facts) (targets : List Key) : Key → Type 0 where
  given : {k : Key} → Contains targets k → Shares facts targets k
  shared : {k l : Key} (p : Place) → Shares facts targets k → Has facts (Declares k p) → Has facts (Declares l p) → Shares facts targets l

-- Declarations, with their keys and places beside one another, are linked only where they have one key or one place. Two
-- that have one key are linked over a third, and so are two that have one place.
pub record LinksEqual (keys : List Key) (places : List Place) (links : List (List ℕ)) : Type 0 where
  pub graph : IsGraph links
  pub only :
      (a b : ℕ) (k l : Key) (p q : Place)
      → slice_get keys a ≡ Some k
      → slice_get keys b ≡ Some l
      → slice_get places a ≡ Some p
      → slice_get places b ≡ Some q
      → Contains (linked_with links a) b
      → (k ≡ l) ⊎ (p ≡ q)
  pub same_key : (a b : ℕ) (k : Key) → slice_get keys a ≡ Some k → slice_get keys b ≡ Some k → (m : ℕ) × Contains (linked_with links a) m × Contains (linked_with links m) b
  pub same_place : (a b : ℕ) (p : Place) → slice_get places a ≡ Some p → slice_get places b ≡ Some p → (m : ℕ) × Contains (linked_with links a) m × Contains (linked_with links m) b
