-- The tree of a conditional expression.
use Rattle.std.specs.Prelude.{ℕ, zero, suc, ◌-◌, Bool, true, false, ◌&&◌, ◌==◌, if◌then◌else◌, List, [], ◌∷◌, length, Option, Some, None}
use Rattle.cr_cond.specs.declared.symbol.Value.{Value}
use Rattle.cr_cond.specs.declared.symbol.Sign.{Sign}
use Rattle.cr_cond.specs.declared.symbol.Op.{Op}
use Rattle.cr_cond.specs.declared.symbol.Symbol.{Symbol}
use Rattle.cr_cond.specs.declared.symbol.Symbol.TheVariants.{Operand, Prefix, Infix, Question, Colon, Open, Close, Odd}
use Rattle.cr_cond.specs.Symbols.{looseness}

pub data Tree : Type 0 where
  Leaf : Option Value → Tree
  Signed : Sign → Tree → Tree
  Binary : Op → Tree → Tree → Tree
  Choice : Tree → Tree → Tree → Tree

-- how many brackets are open behind a symbol; a `?` opens one and a `:` closes it
abbrev pub depth_behind : ℕ → Symbol → ℕ
depth_behind depth Open = suc depth
depth_behind depth Question = suc depth
depth_behind depth Close = depth - 1
depth_behind depth Colon = depth - 1
depth_behind depth (Operand v) = depth
depth_behind depth (Prefix s) = depth
depth_behind depth (Infix op) = depth
depth_behind depth Odd = depth

abbrev pub into : Symbol → Option (List Symbol × List Symbol) → Option (List Symbol × List Symbol)
into x None = None
into x (Some p) = Some (x ∷ p.0, p.1)

-- what is before and behind the first symbol outside brackets that passes
abbrev pub parted_at : (Symbol → Bool) → ℕ → List Symbol → Option (List Symbol × List Symbol)
parted_at test depth [] = None
parted_at test depth (x ∷ xs) = if depth == 0 && test x then Some ([], xs) else into x (parted_at test (depth_behind depth x) xs)

abbrev pub is_question : Symbol → Bool
is_question Question = true
is_question _ = false

abbrev pub is_colon : Symbol → Bool
is_colon Colon = true
is_colon _ = false

-- a list parted by operators: the first part, and each operator with the part behind it
pub record Parts : Type 0 where
  pub head : List Symbol
  pub more : List (Op × List Symbol)

abbrev pub into_head : Symbol → Parts → Parts
into_head x ps = record ps { head = x ∷ ps.head }

abbrev pub part_at : Bool → Symbol → Parts → Parts
part_at true (Infix op) ps = record { head = []; more = (op, ps.head) ∷ ps.more }
part_at _ x ps = into_head x ps

abbrev pub is_as_loose : ℕ → Symbol → Bool
is_as_loose n (Infix op) = looseness op == n
is_as_loose n _ = false

-- parted at each operator of one looseness outside brackets
abbrev pub parts : ℕ → ℕ → List Symbol → Parts
parts n depth [] = record { head = []; more = [] }
parts n depth (x ∷ xs) = part_at (depth == 0 && is_as_loose n x) x (parts n (depth_behind depth x) xs)

abbrev pub both_trees : (Tree → Tree → Tree) → Option Tree → Option Tree → Option Tree
both_trees f None b = None
both_trees f (Some a) None = None
both_trees f (Some a) (Some b) = Some (f a b)

-- operators of one looseness bind to the left
abbrev pub joined : (List Symbol → Option Tree) → Option Tree → List (Op × List Symbol) → Option Tree
joined read left [] = left
joined read left (p ∷ ps) = joined read (both_trees (Binary p.0) left (read p.1)) ps

-- a list with nothing but a last `)` behind it
abbrev pub up_to_close : List Symbol → Option (List Symbol)
up_to_close [] = None
up_to_close (Close ∷ []) = Some []
up_to_close (x ∷ xs) = elim (up_to_close xs) [ None ↦ None | Some ys ↦ Some (x ∷ ys) ]

abbrev pub signed : Sign → Option Tree → Option Tree
signed s None = None
signed s (Some t) = Some (Signed s t)

-- signs and an operand, or signs and an expression in parentheses
abbrev pub unary : (List Symbol → Option Tree) → List Symbol → Option Tree
unary whole [] = None
unary whole (Operand v ∷ []) = Some (Leaf v)
unary whole (Prefix s ∷ xs) = signed s (unary whole xs)
unary whole (Open ∷ xs) = elim (up_to_close xs) [ None ↦ None | Some ys ↦ whole ys ]
unary whole _ = None

-- an expression whose operators outside brackets are at most so loose
abbrev pub bound : (List Symbol → Option Tree) → ℕ → List Symbol → Option Tree
bound whole zero xs = unary whole xs
bound whole (suc n) xs = let ps = parts (suc n) 0 xs in joined (bound whole n) (bound whole n ps.head) ps.more

abbrev pub choice : Option Tree → Option Tree → Option Tree → Option Tree
choice None a b = None
choice (Some c) a b = both_trees (Choice c) a b

-- `whole` reads a shorter list
abbrev pub conditional : (List Symbol → Option Tree) → List Symbol → Option Tree
conditional whole xs = elim (parted_at is_question 0 xs) [
  | None ↦ bound whole 10 xs
  | Some (test, rest) ↦ elim (parted_at is_colon 0 rest) [ None ↦ None | Some (yes1, no1) ↦ choice (bound whole 10 test) (whole yes1) (whole no1) ]
]

abbrev pub read_within : ℕ → List Symbol → Option Tree
read_within zero xs = None
read_within (suc n) xs = conditional (read_within n) xs

-- the tree of these symbols, if they are an expression
abbrev pub read : List Symbol → Option Tree
read xs = read_within (length xs) xs
