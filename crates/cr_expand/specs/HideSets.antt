-- Hide sets by number: each set but the first, which is empty, is an earlier one with one more name.
use Rattle.std.specs.Prelude.{◌≡◌, ℕ, suc, ◌<◌, false, if◌then◌else◌, List, [], ◌∷◌, ◌++◌, length, fold, slice_index_or}
use Rattle.std.specs.List.{All}
use Rattle.cr_base.specs.declared.token.Name.{Name}
use Rattle.cr_macros.specs.Definition.{has_name}
use Rattle.cr_expand.specs.declared.hide_sets.Node.{Node}

abbrev pub Sets : Type 0
Sets = List (List Name)

-- the set with this number
abbrev pub set_at : Sets → ℕ → List Name
set_at sets n = slice_index_or sets n []

-- with one more set, which has one more name than an earlier one
abbrev pub grown : Sets → Node → Sets
grown sets node = sets ++ (node.name ∷ set_at sets node.parent.0) ∷ []

-- the sets that the nodes make, one after another
abbrev pub sets_of : List Node → Sets
sets_of nodes = fold grown ([] ∷ []) nodes

-- Each node is made from an earlier set, where there are n sets before.
abbrev pub AreEarlierFrom : ℕ → List Node → Type 0
AreEarlierFrom n [] = Unit {0}
AreEarlierFrom n (x ∷ xs) = (x.parent.0 < n) × AreEarlierFrom (suc n) xs

abbrev pub AreEarlier : List Node → Type 0
AreEarlier nodes = AreEarlierFrom 1 nodes

-- a set with one more name, where it hasn't that name
abbrev pub with_number : Name → List Name → List Name
with_number name set = if has_name set name then set else name ∷ set

-- a set with all names of another
abbrev pub with_numbers : List Name → List Name → List Name
with_numbers set [] = set
with_numbers set (b ∷ bs) = with_number b (with_numbers set bs)

-- the names that are in both
abbrev pub in_both : List Name → List Name → List Name
in_both [] bs = []
in_both (a ∷ as1) bs = if has_name bs a then with_number a (in_both as1 bs) else in_both as1 bs

-- The sets are kept, with more behind them.
abbrev pub Grows : {A : Type 0} → List A → List A → Type 0
Grows {A} old new = (more : List A) × (new ≡ old ++ more)

-- This set stands at this number, and the sets before it are kept.
abbrev pub Puts : Sets → List Name → Sets → ℕ → Type 0
Puts old set new n = Grows old new × (n < length new) × (set_at new n ≡ set)

-- All names of the sets are below a bound.
pub record AreBelow (bound : ℕ) (sets : Sets) : Type 0 where
  pub at : All (All (λ n. n.0 < bound)) sets

-- No name is in the list twice.
abbrev pub AreOnce : List Name → Type 0
AreOnce [] = Unit {0}
AreOnce (n ∷ ns) = (has_name ns n ≡ false) × AreOnce ns

-- Each node is made from an earlier set, and no set has a name twice.
pub record AreNodes (nodes : List Node) : Type 0 where
  pub earlier : AreEarlier nodes
  pub once : All AreOnce (sets_of nodes)
