-- Graphs as the lists of the nodes that each node is linked with. No contract of a public call cites it.
use Rattle.std.specs.Prelude.{Option, Some, None, if◌then◌else◌, ℕ, ◌<◌, ◌≡◌, ◌⊎◌, List, [], ◌∷◌, ◌++◌, length, get_or, slice_set}
use Rattle.std.specs.List.{Contains}
use Rattle.std.specs.declared.cmp.Ordering.{Ordering}
use Rattle.std.specs.Ordering.{is_eq}

-- the nodes that a node is linked with
abbrev pub linked_with : List (List ℕ) → ℕ → List ℕ
linked_with links n = get_or links n []

-- what is reached from the nodes of a list along links
pub data Reaches (links : List (List ℕ)) (start : List ℕ) : ℕ → Type 0 where
  begins : {n : ℕ} → Contains start n → Reaches links start n
  goes : {n m : ℕ} → Reaches links start n → Contains (linked_with links n) m → Reaches links start m

-- the numbers are of nodes
abbrev pub AreBelow : ℕ → List ℕ → Type 0
AreBelow count ns = (n : ℕ) → Contains ns n → n < count

-- each link leads to a node
abbrev pub IsGraph : List (List ℕ) → Type 0
IsGraph links = (n : ℕ) → AreBelow (length links) (linked_with links n)

-- one of two nodes is the leader of the other, as the leaders of the first nodes tell
abbrev pub Leads : ℕ → List ℕ → ℕ → ℕ → Type 0
Leads count leaders a b = ((a < count) × (get_or leaders a 0 ≡ b)) ⊎ ((b < count) × (get_or leaders b 0 ≡ a))

-- The links are those of before, and of the first nodes with their leaders, both ways.
pub record AreLinked (before now : List (List ℕ)) (count : ℕ) (leaders : List ℕ) : Type 0 where
  pub only : (a b : ℕ) → Contains (linked_with now a) b → Contains (linked_with before a) b ⊎ Leads count leaders a b
  pub old : (a b : ℕ) → Contains (linked_with before a) b → Contains (linked_with now a) b
  pub new : (a b : ℕ) → Leads count leaders a b → Contains (linked_with now a) b

-- the links with one more, from a node to another
abbrev pub with_link : ℕ → ℕ → List (List ℕ) → List (List ℕ)
with_link a b links = slice_set links a (linked_with links a ++ b ∷ [])

-- The number of an item among those that are numbered: that of an equal one, or the next, under which it is found afterwards.
abbrev pub IsFirst : {T : Type 0} → (T → T → Ordering) → (before now : T → Option ℕ) → T → (next number : ℕ) → Type 0
IsFirst {T} R before now item next number =
    ((before item ≡ Some number) × ((q : T) → now q ≡ before q))
    ⊎ ((before item ≡ None) × (number ≡ next) × ((q : T) → now q ≡ (if is_eq (R item q) then Some next else before q)))
