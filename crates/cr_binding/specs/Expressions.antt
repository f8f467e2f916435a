-- The types of expressions (C11 6.5), operator by operator, and what identifiers in them mean.
use Rattle.std.specs.Prelude.{ℕ, Bool, true, false, ◌&&◌, ◌||◌, if◌then◌else◌, Option, Some, None, unwrap_or, Result, Ok, Err, List, [], ◌∷◌, drop, codes, bytes_eq}
use Rattle.std.specs.Map.{lookup}
use Rattle.cr_base.specs.declared.Kind.{Kind}
use Rattle.cr_base.specs.declared.Kind.TheVariants as kind
use Rattle.cr_base.specs.declared.cause.IllCause.{IllCause}
use Rattle.cr_base.specs.declared.cause.IllCause.TheVariants as cause
use Rattle.cr_grammar.specs.declared.symbols.NonTerm.{NonTerm}
use Rattle.cr_grammar.specs.declared.symbols.NonTerm.TheVariants as n
use Rattle.cr_scope.specs.declared.Space.TheVariants as space
use Rattle.cr_types.specs.Types.{CType, Arith, Mixed, Arr, Fun}
use Rattle.cr_typing.specs.declared.expressions.Op.{Op}
use Rattle.cr_typing.specs.declared.expressions.Op.TheVariants as op
use Rattle.cr_typing.specs.ExpressionTypes.{binary_type, unary_type}
use Rattle.cr_binding.specs.Source.{Source, name_at, text_at, is_string_literal, is_built_in}
use Rattle.cr_binding.specs.State.{Declaration, Member, Selects, IsBuiltIn, State}
use Rattle.cr_binding.specs.Declaring.{failed, used, meaning_here, declaration_at, looked_up}
use Rattle.cr_binding.specs.RecordMembers.{select}

-- ---- operands and operators

abbrev pub push : CType → State → State
push c s = record s { values = c ∷ s.values }

-- the type of the last operand
abbrev pub type_or_mixed : List CType → CType
type_or_mixed [] = Mixed
type_or_mixed (c ∷ cs) = c

abbrev pub operand : State → CType
operand s = type_or_mixed s.values

-- an operator of two operands takes the last two
abbrev pub on_two : (CType → CType → CType) → List CType → List CType
on_two f (d ∷ c ∷ cs) = f c d ∷ cs
on_two f cs = cs

abbrev pub on_one : (CType → CType) → List CType → List CType
on_one f (c ∷ cs) = f c ∷ cs
on_one f [] = []

-- which operator a token is, of those whose results aren't all arithmetic
abbrev pub binary_operators : List (List ℕ × Op)
binary_operators = (codes "+", op.Plus) ∷ (codes "-", op.Minus) ∷ []

abbrev pub unary_operators : List (List ℕ × Op)
unary_operators = (codes "&", op.Address) ∷ (codes "*", op.Deref) ∷ (codes "++", op.Step) ∷ (codes "--", op.Step) ∷ []

abbrev pub postfix_operators : List (List ℕ × Op)
postfix_operators =
    (codes "[", op.Index) ∷ (codes "<:", op.Index) ∷ (codes "(", op.Call) ∷ (codes "++", op.Step) ∷ (codes "--", op.Step) ∷ []

abbrev pub operator_among : List (List ℕ × Op) → List ℕ → Op
operator_among table text = unwrap_or (lookup (bytes_eq text) table) op.Other

abbrev pub postfix : Op → List CType → List CType
postfix op.Index = on_two (binary_type op.Index)
postfix o = on_one (unary_type o)

abbrev pub first_type : CType → CType → CType
first_type c d = c

abbrev pub second_type : CType → CType → CType
second_type c d = d

-- Of the primary expressions that end with an action an offset is arithmetic. A generic selection has the type of its
-- results, which stands behind that of its first operand (6.5.1.1), and `__builtin_va_arg` that of its type name.
abbrev pub is_offset : List ℕ → Bool
is_offset text = bytes_eq text (codes "__builtin_offsetof")

-- What the operator of a node does to the types of operands; its first token has this text. A cast has the type of its
-- type name (6.5.4p5), and the condition of `?:` gives way to the results (6.5.15p5).
abbrev pub operated : NonTerm → List ℕ → List CType → List CType
operated n.ExprMore text cs = on_two (binary_type op.Comma) cs
operated n.AssTail text cs = on_two (binary_type op.Assign) cs
operated n.CondTail text cs = on_two second_type (on_two (binary_type op.Choice) cs)
operated n.CastTail text cs = on_two first_type cs
operated n.Unary text cs = on_one (unary_type (operator_among unary_operators text)) cs
operated n.PostTail text cs = postfix (operator_among postfix_operators text) cs
operated n.Primary text cs = if is_offset text then on_one (unary_type op.Other) cs else on_two second_type cs
operated _ text cs = on_two (binary_type (operator_among binary_operators text)) cs

-- a constant is arithmetic, a string literal an array of that (6.4.4, 6.4.5p6)
abbrev pub value_type : Source → ℕ → CType
value_type t i = if is_string_literal t i then Arr Arith else Arith

-- ---- identifiers

-- what an expression can name (6.5.1p2)
abbrev pub is_value : Kind → Bool
is_value kind.Object = true
is_value kind.Function = true
is_value kind.Enumerator = true
is_value _ = false

-- what the compiler supplies is a function of arithmetic type: our own rule
abbrev pub built_in : ℕ → State → State
built_in i s = push (Fun Arith) (used (IsBuiltIn i) s)

-- `__func__` in a function's body (6.4.2.2), and `__FUNCTION__`, which compilers take for it
abbrev pub is_function_name : List ℕ → Bool
is_function_name text = bytes_eq text (codes "__func__") || bytes_eq text (codes "__FUNCTION__")

-- an identifier denotes a declaration; one that isn't declared may be called where the compiler supplies it
abbrev pub denoting : (called : Bool) → Option ℕ → Option Declaration → Source → ℕ → State → State
denoting called k None t i s = if called && is_built_in (text_at t i) then built_in i s else failed cause.Unresolved i s
denoting called k (Some d) t i s =
    if is_value d.kind then push d.type (looked_up space.Ordinary i k s) else failed cause.Unresolved i s

-- an identifier, which is called or isn't (6.5.1p2, 6.5.2.2)
abbrev pub identifier : (called : Bool) → Source → ℕ → State → State
identifier called t i s =
    let k = meaning_here t space.Ordinary i s in
    if s.in_body && is_function_name (text_at t i) then built_in i s else denoting called k (declaration_at s k) t i s

-- ---- members

-- the member that is selected takes the place of the operand (6.5.2.3p3, p4)
abbrev pub selecting : Result Member IllCause → ℕ → State → State
selecting (Err c) i s = failed c i s
selecting (Ok m) i s = record (used (Selects i m.token) s) { values = m.type ∷ drop 1 s.values }

-- `.name`, or `->name`
abbrev pub selection : (arrow : Bool) → Source → ℕ → State → State
selection arrow t i s = selecting (select t s arrow (name_at t i) (operand s)) i s

abbrev pub is_arrow : List ℕ → Bool
is_arrow text = bytes_eq text (codes "->")
