-- The binding of a unit as it is kept: without trees, and of each open node only what its end puts back.
use Rattle.std.specs.Prelude.{ℕ, Bool, true, false, if◌then◌else◌, Option, Some, None, unwrap_or, List, [], ◌∷◌, ◌++◌, drop}
use Rattle.cr_grammar.specs.declared.symbols.NonTerm.{NonTerm}
use Rattle.cr_grammar.specs.declared.symbols.NonTerm.TheVariants as n
use Rattle.cr_grammar.specs.declared.symbols.Action.{Action}
use Rattle.cr_grammar.specs.declared.symbols.Action.TheVariants as a
use Rattle.cr_ll.specs.Derivation.{Item, Asked, none}
use Rattle.cr_types.specs.Types.{CType, derived_by}
use Rattle.cr_types.specs.declared.Part.TheVariants as part
use Rattle.cr_typing.specs.declared.expressions.Op.TheVariants as op
use Rattle.cr_typing.specs.ExpressionTypes.{binary_type}
use Rattle.cr_binding.specs.Source.{Source}
use Rattle.cr_binding.specs.State.{Pending, Target, State, start}
use Rattle.cr_binding.specs.Declaring.{declare_named, declare_parameter}
use Rattle.cr_binding.specs.Specifying.{is_declarator, specified_type, words_ended}
use Rattle.cr_binding.specs.RecordMembers.{add_member}
use Rattle.cr_binding.specs.Expressions.{push, operand, on_two}
use Rattle.cr_binding.specs.Initialising.{Item as Initialised, InBraces, Value, StringValue, item_within}
use Rattle.cr_binding.specs.Actions.{passed, acted}
use Rattle.cr_binding.specs.Binding.{leaves_values, asked, goes_on}
use Rattle.cr_binding.specs.Steps.{Step, Opens, Passes, Acts, Closes}
use Rattle.cr_known.specs.Shapes.{Shape, OneToken, behind, is_one_string, no_shape}

-- ---- what an action does, by the shape of the node that ended last

-- a state without the trees of that node
abbrev pub unclosed : State → State
unclosed s = record s { closed = none }

abbrev pub declared_by : Shape → State → CType
declared_by sh s = derived_by sh.parts (specified_type s.pending)

abbrev pub item_by : Source → Shape → State → Initialised
item_by t sh s = if is_one_string t sh.leaves then StringValue else Value (operand s)

abbrev pub acted_by : Source → NonTerm → ℕ → Action → Shape → State → State
acted_by t m first a.Declare sh s = declare_named t s.pending.name (declared_by sh s) s
acted_by t m first a.Param sh s = declare_parameter t s.pending.name (declared_by sh s) s
acted_by t m first a.TypeName sh s = push (declared_by sh s) s
acted_by t m first a.Member sh s = add_member t s.filled s.pending.name (declared_by sh s) s
acted_by t m first a.Item sh s = record s { target = item_within s (item_by t sh s) s.target; values = drop 1 s.values }
acted_by t m first x sh s = acted t m first x s

-- ---- what the end of a node puts back

pub data Saved : Type 0 where
  Nothing : Saved
  Gathering : Pending → Saved
  Filling : Option ℕ → Saved
  Aiming : Target → Saved

-- of the state in which a node begins
abbrev pub saved_for : NonTerm → State → Saved
saved_for n.Members s = Gathering s.pending
saved_for n.Param s = Gathering s.pending
saved_for n.TypeName s = Gathering s.pending
saved_for n.RecTail s = Filling s.filled
saved_for n.EnumTail s = Filling s.filled
saved_for n.Braces s = Aiming (item_within s InBraces s.target)
saved_for n.InitOpt s = Aiming s.target
saved_for n.CastTail s = Aiming s.target
saved_for n.SizeLit s = Aiming s.target
saved_for _ s = Nothing

abbrev pub put_back : Saved → State → State
put_back Nothing s = s
put_back (Gathering p) s = record s { pending = p }
put_back (Filling r) s = record s { filled = r }
put_back (Aiming x) s = record s { target = x }

-- what ends with a node that isn't put back
abbrev pub ended_alone : NonTerm → (childless : Bool) → State → State
ended_alone n.AssMore childless s = if childless then s else record s { values = on_two (binary_type op.Generic) s.values }
ended_alone n.SpecsB childless s = if childless then words_ended s else s
ended_alone _ childless s = s

abbrev pub ended_by : (above : NonTerm) → NonTerm → (childless : Bool) → Saved → List CType → State → State
ended_by above m childless x values s =
    let s' = put_back x (ended_alone m childless s) in
    record s' { values = if leaves_values above m then s'.values else values }

-- ---- the open nodes

-- A node above another: its first token where it was met, what stands in it so far, and what the end of the node below
-- puts back.
pub record Frame : Type 0 where
  pub node : NonTerm
  pub first : Option ℕ
  pub shape : Shape
  pub saved : Saved
  pub values : List CType

-- The innermost open node, those above it, the shape of the node that ended last, and what is bound.
pub record Known : Type 0 where
  pub node : NonTerm
  pub first : Option ℕ
  pub shape : Shape
  pub childless : Bool
  pub above : List Frame
  pub closed : Shape
  pub state : State

abbrev pub known_first : Known
known_first =
    record { node = n.Unit; first = None; shape = no_shape; childless = true; above = []; closed = no_shape; state = start }

-- a token, an action, or the end of a node behind what stands in a node
abbrev pub with_token : ℕ → Shape → Shape
with_token i sh = record { parts = sh.parts; leaves = behind sh.leaves (OneToken i) }

abbrev pub with_action : Action → Shape → Shape
with_action a.Pointer sh = record { parts = sh.parts ++ part.Pointer ∷ []; leaves = sh.leaves }
with_action a.Array sh = record { parts = sh.parts ++ part.Array ∷ []; leaves = sh.leaves }
with_action a.Leave sh = record { parts = sh.parts ++ part.Function ∷ []; leaves = sh.leaves }
with_action _ sh = sh

abbrev pub with_node : NonTerm → Shape → Shape → Shape
with_node m below sh = record { parts = sh.parts ++ (if is_declarator m then below.parts else []); leaves = behind sh.leaves below.leaves }

-- what each call does
abbrev pub known_open : NonTerm → Known → Known
known_open m k =
    record {
      node = m;
      first = None;
      shape = no_shape;
      childless = true;
      above = (record { node = k.node; first = k.first; shape = k.shape; saved = saved_for m k.state; values = k.state.values }) ∷ k.above;
      closed = k.closed;
      state = k.state;
    }

abbrev pub known_pass : Source → ℕ → Known → Known
known_pass t i k =
    record k {
      first = Some (unwrap_or k.first i);
      shape = with_token i k.shape;
      childless = false;
      state = goes_on k.state (passed t k.node i k.state);
    }

abbrev pub known_act : Source → Action → Known → Known
known_act t x k =
    record k {
      shape = with_action x k.shape;
      childless = false;
      state = goes_on k.state (acted_by t k.node (unwrap_or k.first k.state.last) x k.closed k.state);
    }

abbrev pub known_close_on : Known → List Frame → Known
known_close_on k [] = k
known_close_on k (f ∷ fs) =
    record {
      node = f.node;
      first = f.first;
      shape = with_node k.node k.shape f.shape;
      childless = false;
      above = fs;
      closed = k.shape;
      state = ended_by f.node k.node k.childless f.saved f.values k.state;
    }

abbrev pub known_close : Known → Known
known_close k = known_close_on k k.above

abbrev pub known_ask : ℕ → Bool → Known → Known
known_ask i answer k = record k { state = asked (Asked i answer ∷ []) k.state }

-- ---- all steps

abbrev pub known_asks : List Item → Known → Known
known_asks asks k = record k { state = asked asks k.state }

abbrev pub known_step : Source → Step → Known → Known
known_step t (Opens m asks) k = known_open m (known_asks asks k)
known_step t (Passes i) k = known_pass t i k
known_step t (Acts x) k = known_act t x k
known_step t (Closes children) k = known_close k

abbrev pub all_known : Source → List Step → Known → Known
all_known t [] k = k
all_known t (x ∷ xs) k = all_known t xs (known_step t x k)
