-- How the operands are kept.
use Rattle.std.specs.Prelude.{◌≡◌, ℕ, ◌+◌, ◌≤◌, ◌==◌, if◌then◌else◌, Bool, true, false, Option, Some, None, List, [], ◌∷◌, length}
use Rattle.cr_grammar.specs.declared.symbols.NonTerm.{NonTerm}
use Rattle.cr_grammar.specs.declared.symbols.NonTerm.TheVariants as n
use Rattle.cr_types.specs.declared.TypeNo.{TypeNo}
use Rattle.cr_typing.specs.declared.expressions.Op.{Op}
use Rattle.cr_typing.specs.declared.expressions.Op.TheVariants as op
use Rattle.cr_typing.specs.ExpressionTypes.{is_unary}
use Rattle.cr_operands.specs.declared.operators.Form.{Form}
use Rattle.cr_operands.specs.declared.operators.Form.TheVariants as forms
use Rattle.cr_operands.specs.declared.values.Row.{Row}

-- the rows, of which the last one comes first, and the mark of the operands that wait
pub record Marked : Type 0 where
  pub rows : List Row
  pub top : ℕ

abbrev pub no_values : Marked
no_values = record { rows = []; top = 0 }

-- The operands of a mark, the last one first. A mark is the number of a row, counted from one, and 0
-- is that of none.
abbrev pub chain : ℕ → List Row → List TypeNo
chain n [] = []
chain n (r ∷ rs) = if n == length rs + 1 then r.ty ∷ chain r.rest rs else chain n rs

-- each row stands above earlier ones
abbrev pub AreBelow : List Row → Type 0
AreBelow [] = Unit {0}
AreBelow (r ∷ rs) = (r.rest ≤ length rs) × AreBelow rs

abbrev pub IsMarkOf : Marked → ℕ → Type 0
IsMarkOf v n = n ≤ length v.rows

-- the last operand of a mark and the mark of those below it, if there is one
abbrev pub IsBelow : Marked → ℕ → Option Row → Type 0
IsBelow v n None = chain n v.rows ≡ []
IsBelow v n (Some r) = (chain n v.rows ≡ r.ty ∷ chain r.rest v.rows) × IsMarkOf v r.rest

abbrev pub with_row : Row → Marked → Marked
with_row r v = record { rows = r ∷ v.rows; top = length v.rows + 1 }

-- ---- the last operands

-- the last one, with the mark of those below it
abbrev pub IsLast : Marked → Option Row → Type 0
IsLast v r = IsBelow v v.top r

-- at most one
abbrev pub AreFew : List TypeNo → Type 0
AreFew [] = Unit {0}
AreFew (n ∷ []) = Unit {0}
AreFew (n ∷ m ∷ ns) = ⊥

-- the last two in order, if there are two
abbrev pub AreLast : Marked → Option (Row × Row) → Type 0
AreLast v None = AreFew (chain v.top v.rows)
AreLast v (Some x) = IsLast v (Some x.1) × IsBelow v x.1.rest (Some x.0)

abbrev pub is_index : Op → Bool
is_index op.Index = true
is_index _ = false

-- the operators that stand behind an operand
abbrev pub is_postfix : Op → Bool
is_postfix op.Index = true
is_postfix o = is_unary o

-- how the operator of a node stands to its operands
abbrev pub form_of : NonTerm → Form
form_of n.ExprMore = forms.Comma
form_of n.AssTail = forms.Assignment
form_of n.CondTail = forms.Conditional
form_of n.CastTail = forms.Cast
form_of n.Unary = forms.Prefix
form_of n.PostTail = forms.Postfix
form_of n.Primary = forms.Primary
form_of _ = forms.Infix
