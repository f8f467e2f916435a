-- What binding sees of the operands and of the object of an initialiser.
use Rattle.std.specs.Prelude.{◌≡◌, ℕ, Bool, if◌then◌else◌, Option, Some, None, List, [], ◌∷◌, map, drop}
use Rattle.cr_base.specs.declared.token.Name.{Name}
use Rattle.cr_types.specs.declared.TypeNo.{TypeNo}
use Rattle.cr_types.specs.Types.{CType, Arith, Mixed, Arr, Table, IsTypeNo, Keeps, type_at}
use Rattle.cr_typing.specs.declared.initialisers.ItemKind.{ItemKind}
use Rattle.cr_typing.specs.declared.initialisers.ItemKind.TheVariants as kind
use Rattle.cr_typing.specs.declared.expressions.Op.TheVariants as op
use Rattle.cr_typing.specs.ExpressionTypes.{binary_type, unary_type}
use Rattle.cr_typing.specs.Initialisers.{AreHeld, braces_of}
use Rattle.cr_binding.specs.Source.{Source, name_at}
use Rattle.cr_binding.specs.State.{Target, Whole, Within, Selects, State}
use Rattle.cr_binding.specs.Declaring.{failed, used}
use Rattle.cr_binding.specs.Expressions.{operand, on_two, on_one, first_type, second_type, postfix, operator_among, binary_operators, unary_operators, postfix_operators, is_offset}
use Rattle.cr_binding.specs.Initialising.{Item, InBraces, Value, StringValue, item_within, designator}
use Rattle.cr_records.specs.Kept.{RecordTable, IsOf}
use Rattle.cr_records.specs.Records.{with_records, AreSpelled}
use Rattle.cr_operands.specs.declared.fault.OperandFault.{OperandFault}
use Rattle.cr_operands.specs.declared.fault.OperandFault.TheVariants as fault
use Rattle.cr_operands.specs.declared.operands.Operands.{Operands}
use Rattle.cr_operands.specs.declared.operators.Form.{Form}
use Rattle.cr_operands.specs.declared.operators.Form.TheVariants as forms
use Rattle.cr_operands.specs.declared.target.Target.{Target as Aim}
use Rattle.cr_operands.specs.declared.target.Target.TheVariants as aim
use Rattle.cr_operands.specs.declared.values.Row.{Row}
use Rattle.cr_operands.specs.Kept.{chain, IsMarkOf, with_row}

-- a mark that was given
abbrev pub IsMark : Operands → ℕ → Type 0
IsMark o n = IsMarkOf o.values n

-- the types of its operands, the last one first
abbrev pub values_at : Table → Operands → ℕ → List CType
values_at t o n = map (type_at t) (chain n o.values.rows)

abbrev pub values_of : Table → Operands → List CType
values_of t o = values_at t o o.values.top

-- what an initialiser is for
abbrev pub target_of : Table → Aim → Target
target_of t (aim.Whole n) = Whole (type_at t n)
target_of t (aim.Within list) = Within (braces_of t list)

-- a state with these operands and this target
abbrev pub with_operands : Table → Operands → State → State
with_operands t o s = record s { values = values_of t o; target = target_of t o.target }

-- the same with these records
abbrev pub seen : Table → RecordTable → Operands → State → State
seen t x o s = with_operands t o (with_records t x s)

-- ---- what is true of all operands

abbrev pub AreGiven : Table → List Row → Type 0
AreGiven t [] = Unit {0}
AreGiven t (r ∷ rs) = IsTypeNo t r.ty × AreGiven t rs

abbrev pub IsTarget : Table → Aim → Type 0
IsTarget t (aim.Whole n) = IsTypeNo t n
IsTarget t (aim.Within list) = AreHeld t list

-- the number of this type
abbrev pub Numbers : Table → TypeNo → CType → Type 0
Numbers t n c = IsTypeNo t n × (type_at t n ≡ c)

-- all types are the table's
pub record IsHeld (t : Table) (o : Operands) : Type 0 where
  pub values : AreGiven t o.values.rows
  pub target : IsTarget t o.target
  pub arith : Numbers t o.arith Arith
  pub text : Numbers t o.text (Arr Arith)
  pub mixed : Numbers t o.mixed Mixed

-- ---- what calls do

-- types and operands may have grown: each mark that was given keeps its operands
pub record Grows (t : Table) (o : Operands) (u : Table) (p : Operands) : Type 0 where
  pub types : Keeps t u
  pub held : IsHeld u p
  pub marks : (n : ℕ) → IsMark o n → IsMark p n × (values_at u p n ≡ values_at t o n)

-- the same records are seen
pub record StaysOver (t : Table) (x : RecordTable) (u : Table) : Type 0 where
  pub records : u.records ≡ t.records
  pub of : IsOf u x
  pub same : (s : State) → with_records u x s ≡ with_records t x s

-- what is done to a state
abbrev pub Change : Type 0
Change = State → State

abbrev pub Does : Table → Operands → Change → Table → Operands → Type 0
Does t o f u p = (s : State) → with_operands u p s ≡ f (with_operands t o s)

abbrev pub Same : Table → Operands → Table → Operands → Type 0
Same t o u p = Does t o (λ s. s) u p

-- the same over records
abbrev pub DoesOver : Table → RecordTable → Operands → Change → Operands → Type 0
DoesOver t x o f p = (s : State) → seen t x p s ≡ f (seen t x o s)

-- operands, of which the last has changed: with a row, or as those of a mark alone
abbrev pub with_put : Row → Operands → Operands
with_put r o = record o { values = with_row r o.values }

abbrev pub with_cut : ℕ → Operands → Operands
with_cut n o = record o { values = record { rows = o.values.rows; top = n } }

-- a state with other operands
abbrev pub with_values : List CType → State → State
with_values cs s = record s { values = cs }

-- operands are changed
abbrev pub changing : (List CType → List CType) → State → State
changing f s = record s { values = f s.values }

-- a state with another target
abbrev pub with_target : Target → State → State
with_target c s = record s { target = c }

-- an initialiser is for an object of this type
abbrev pub aimed_at : CType → State → State
aimed_at c s = record s { target = Whole c }

-- an item that is an expression, which may be one string literal, ends
abbrev pub last_item : (is_string : Bool) → State → Item
last_item is_string s = if is_string then StringValue else Value (operand s)

abbrev pub item_ended : (is_string : Bool) → State → State
item_ended is_string s =
    record s { target = item_within s (last_item is_string s) s.target; values = drop 1 s.values }

-- what an item is
abbrev pub item_of : Table → ItemKind → Item
item_of t kind.Braces = InBraces
item_of t (kind.Value n) = Value (type_at t n)
item_of t kind.StringValue = StringValue

-- the same of a target alone
abbrev pub seen_target : Table → RecordTable → Aim → State → State
seen_target t x a s = record (with_records t x s) { target = target_of t a }

-- of `?:`, whose condition gives way to the results (6.5.15p5)
abbrev pub conditional_values : List CType → List CType
conditional_values cs = on_two second_type (on_two (binary_type op.Choice) cs)

-- what the operators of a form do to the types of operands
abbrev pub operated_as : Form → List ℕ → List CType → List CType
operated_as forms.Comma text cs = on_two (binary_type op.Comma) cs
operated_as forms.Assignment text cs = on_two (binary_type op.Assign) cs
operated_as forms.Conditional text cs = conditional_values cs
operated_as forms.Cast text cs = on_two first_type cs
operated_as forms.Prefix text cs = on_one (unary_type (operator_among unary_operators text)) cs
operated_as forms.Postfix text cs = postfix (operator_among postfix_operators text) cs
operated_as forms.Primary text cs =
    if is_offset text then on_one (unary_type op.Other) cs else on_two second_type cs
operated_as forms.Infix text cs = on_two (binary_type (operator_among binary_operators text)) cs

-- ---- a name at a token

-- what is done with the name at a token
abbrev pub Naming : Type 0
Naming = Source → ℕ → Change

-- What f does with the name at token i is g in the state afterwards, where tokens and members are
-- spelled so.
abbrev pub Finds : RecordTable → Name → Naming → (ℕ → Change) → (before after : Change) → Type 0
Finds x name f g before after =
    (source : Source) (i : ℕ) (s : State) → name_at source i ≡ name → AreSpelled source x
    → f source i (before s) ≡ g i (after s)

-- a fault is that of f at the token
abbrev pub Refuses : RecordTable → Name → Naming → (before : Change) → OperandFault → Type 0
Refuses x name f before fault.OutOfMemory = Unit {0}
Refuses x name f before (fault.Ill c) =
    (source : Source) (i : ℕ) (s : State) → name_at source i ≡ name → AreSpelled source x
    → f source i (before s) ≡ failed c i (before s)

-- token i selects the member that is declared at token k
abbrev pub selects : ℕ → ℕ → Change
selects k i s = used (Selects i k) s

-- the same, if it selects one
abbrev pub may_select : Option ℕ → ℕ → Change
may_select None i s = s
may_select (Some k) i s = selects k i s

-- `.name` at token i designates
abbrev pub designates : Naming
designates t i s = designator s.target t i s
