-- The binding of a translation unit: a walk over its tree, which meets tokens and actions from left to right.
use Rattle.std.specs.Prelude.{ℕ, Bool, true, false, if◌then◌else◌, Option, Some, None, unwrap_or, List, [], ◌∷◌, length}
use Rattle.cr_base.specs.declared.cause.IllCause.TheVariants as cause
use Rattle.cr_grammar.specs.declared.symbols.NonTerm.{NonTerm}
use Rattle.cr_grammar.specs.declared.symbols.NonTerm.TheVariants as n
use Rattle.cr_ll.specs.Derivation.{Item, Asked, Trees, none, token, action, node}
use Rattle.cr_typing.specs.declared.expressions.Op.TheVariants as op
use Rattle.cr_typing.specs.ExpressionTypes.{binary_type}
use Rattle.cr_binding.specs.Source.{Source}
use Rattle.cr_binding.specs.State.{WasAsked, State, start}
use Rattle.cr_binding.specs.Declaring.{failed, used}
use Rattle.cr_binding.specs.Specifying.{words_ended}
use Rattle.cr_binding.specs.Expressions.{on_two}
use Rattle.cr_binding.specs.Initialising.{InBraces, item_within}
use Rattle.cr_binding.specs.Scoping.{unless_failed}
use Rattle.cr_binding.specs.Actions.{passed, acted}

-- ---- what the end of a node leaves to what follows it

-- Nodes of expressions leave their operands to the node above, but for the type names of associations (6.5.1.1). All others,
-- as the arguments of a call, take theirs with them.
abbrev pub leaves_values : (above node : NonTerm) → Bool
leaves_values n.Assoc n.TypeName = false
leaves_values above n.TypeName = true
leaves_values above n.Expr = true
leaves_values above n.ExprMore = true
leaves_values above n.Assign = true
leaves_values above n.AssTail = true
leaves_values above n.Cond = true
leaves_values above n.CondTail = true
leaves_values above n.Bin1 = true
leaves_values above n.Bin2 = true
leaves_values above n.Bin3 = true
leaves_values above n.Bin4 = true
leaves_values above n.Bin5 = true
leaves_values above n.Bin6 = true
leaves_values above n.Bin7 = true
leaves_values above n.Bin8 = true
leaves_values above n.Bin9 = true
leaves_values above n.Bin10 = true
leaves_values above n.Tail1 = true
leaves_values above n.Tail2 = true
leaves_values above n.Tail3 = true
leaves_values above n.Tail4 = true
leaves_values above n.Tail5 = true
leaves_values above n.Tail6 = true
leaves_values above n.Tail7 = true
leaves_values above n.Tail8 = true
leaves_values above n.Tail9 = true
leaves_values above n.Tail10 = true
leaves_values above n.Cast = true
leaves_values above n.CastTail = true
leaves_values above n.Unary = true
leaves_values above n.SizeTail = true
leaves_values above n.SizeLit = true
leaves_values above n.PostTail = true
leaves_values above n.Primary = true
leaves_values above n.Assoc = true
leaves_values above n.AssMore = true
leaves_values above n.OffTail = true
leaves_values above _ = false

-- nodes with declarations of their own, behind which an outer declaration goes on
abbrev pub has_own_pending : NonTerm → Bool
has_own_pending n.Members = true
has_own_pending n.Param = true
has_own_pending n.TypeName = true
has_own_pending _ = false

abbrev pub is_empty : Trees → Bool
is_empty none = true
is_empty _ = false

-- Behind the members of a record an outer record goes on, behind an initialiser or a list in braces an outer one. Two
-- results of a generic selection are put together where a further one ends; specifiers end where no further word is.
abbrev pub ended_as : NonTerm → Trees → (before : State) → State → State
ended_as n.RecTail children before s = record s { filled = before.filled }
ended_as n.EnumTail children before s = record s { filled = before.filled }
ended_as n.Braces children before s = record s { target = item_within before InBraces before.target }
ended_as n.InitOpt children before s = record s { target = before.target }
ended_as n.CastTail children before s = record s { target = before.target }
ended_as n.SizeLit children before s = record s { target = before.target }
ended_as n.AssMore children before s = if is_empty children then s else record s { values = on_two (binary_type op.Generic) s.values }
ended_as n.SpecsB children before s = if is_empty children then words_ended s else s
ended_as _ children before s = s

-- a node below another ends, which began in the state before
abbrev pub ended : (above : NonTerm) → NonTerm → Trees → (before : State) → State → State
ended above m children before s =
    let s' = ended_as m children before s in
    record s' {
      closed = children;
      pending = if has_own_pending m then before.pending else s'.pending;
      values = if leaves_values above m then s'.values else before.values;
    }

-- ---- the walk

-- nothing is done behind a fault; a list of words that was refused is one at the next token or action (6.7.2p2)
abbrev pub unless_refused : Option ℕ → State → State → State
unless_refused None s s' = s'
unless_refused (Some i) s s' = failed cause.BadSpecifiers i s

abbrev pub goes_on : State → State → State
goes_on s s' = unless_failed s (unless_refused s.refused s s')

abbrev pub asked : List Item → State → State
asked [] s = s
asked (Asked i answer ∷ asks) s = asked asks (used (WasAsked i s.present (length s.declarations) answer) s)
asked (_ ∷ asks) s = asked asks s

-- The trees of a row below the node m; first: the first token of the row, where it was met already.
abbrev pub walk : Source → NonTerm → Option ℕ → Trees → State → State
walk t m first none s = s
walk t m first (token i next) s = walk t m (Some (unwrap_or first i)) next (goes_on s (passed t m i s))
walk t m first (action x next) s = walk t m first next (goes_on s (acted t m (unwrap_or first s.last) x s))
walk t m first (node k asks children next) s =
    walk t m first next (unless_failed s (ended m k children s (walk t k None children (asked asks s))))

-- the binding of a unit with this tree
abbrev pub bound : Source → Trees → State
bound t tree = walk t n.Unit None tree start
