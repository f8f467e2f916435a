-- The grammar of conditional expressions, as a relation (C11 6.5.3.3 to 6.5.15, without assignment, comma and cast).
use Rattle.std.specs.Prelude.{◌≡◌, ℕ, suc, List, [], ◌∷◌, ◌++◌, Option, Some, None}
use Rattle.cr_cond.specs.declared.symbol.Value.{Value}
use Rattle.cr_cond.specs.declared.symbol.Sign.{Sign}
use Rattle.cr_cond.specs.declared.symbol.Op.{Op}
use Rattle.cr_cond.specs.declared.symbol.Symbol.{Symbol}
use Rattle.cr_cond.specs.declared.symbol.Symbol.TheVariants.{Operand, Prefix, Infix, Question, Colon, Open, Close}
use Rattle.cr_cond.specs.Symbols.{looseness}
use Rattle.cr_cond.specs.Reading.{Tree, Leaf, Signed, Binary, Choice, read}

-- These symbols are the tree, and outside brackets they bind at most so loosely: 0 for signs and operands, 1 to 10 for the operators, 11 for `?:`.
pub data Spells : ℕ → Tree → List Symbol → Type 0 where
  leaf : (v : Option Value) → Spells 0 (Leaf v) (Operand v ∷ [])
  sign : (s : Sign) (t : Tree) (xs : List Symbol) → Spells 0 t xs → Spells 0 (Signed s t) (Prefix s ∷ xs)
  brackets : (t : Tree) (xs : List Symbol) → Spells 11 t xs → Spells 0 t (Open ∷ xs ++ Close ∷ [])
  binary : (n : ℕ) (op : Op) (a b : Tree) (xs ys : List Symbol) → looseness op ≡ suc n → Spells (suc n) a xs → Spells n b ys → Spells (suc n) (Binary op a b) (xs ++ Infix op ∷ ys)
  chosen : (c a b : Tree) (xs ys zs : List Symbol) → Spells 10 c xs → Spells 11 a ys → Spells 11 b zs → Spells 11 (Choice c a b) (xs ++ Question ∷ (ys ++ Colon ∷ zs))
  looser : (n : ℕ) (t : Tree) (xs : List Symbol) → Spells n t xs → Spells (suc n) t xs

abbrev pub SpellsAny : ℕ → Option Tree → List Symbol → Type 0
SpellsAny n None xs = Unit {0}
SpellsAny n (Some t) xs = Spells n t xs

-- what is read is a tree that the symbols spell
abbrev pub IsSound : Type 0
IsSound = (xs : List Symbol) → SpellsAny 11 (read xs) xs

-- a tree that they spell is read
abbrev pub IsComplete : Type 0
IsComplete = (xs : List Symbol) (t : Tree) → Spells 11 t xs → read xs ≡ Some t

-- the tree that is read is the one tree that the grammar has, and none is read where it has none
abbrev pub ReadsTheGrammar : Type 0
ReadsTheGrammar = IsSound × IsComplete
