-- Of what is kept of the open nodes of a unit what speaks of nodes and shapes.
use Rattle.std.specs.Prelude.{◌≡◌, ℕ, Bool, true, false, Option, Some, None, unwrap_or, List, [], ◌∷◌, map}
use Rattle.cr_grammar.specs.declared.symbols.NonTerm.{NonTerm}
use Rattle.cr_grammar.specs.declared.symbols.NonTerm.TheVariants as n
use Rattle.cr_grammar.specs.declared.symbols.Action.{Action}
use Rattle.cr_grammar.specs.declared.symbols.Action.TheVariants as a
use Rattle.cr_types.specs.declared.Part.{Part}
use Rattle.cr_types.specs.declared.Part.TheVariants as part
use Rattle.cr_binding.specs.Source.{Source}
use Rattle.cr_known.specs.Shapes.{Shape, no_shape}
use Rattle.cr_known.specs.Known.{Known, Frame, with_token, with_action, with_node, known_open, known_pass, known_act, known_close}

-- a node above another: its first token where it was met, and the shape of what stands in it so far
pub record Framed : Type 0 where
  pub node : NonTerm
  pub first : Option ℕ
  pub shape : Shape

-- the innermost open node, those above it, and the shape of the node that closed last
pub record Nested : Type 0 where
  pub node : NonTerm
  pub first : Option ℕ
  pub shape : Shape
  pub childless : Bool
  pub above : List Framed
  pub closed : Shape

abbrev pub nest_first : Nested
nest_first = record { node = n.Unit; first = None; shape = no_shape; childless = true; above = []; closed = no_shape }

-- a node is opened below
abbrev pub nest_opened : NonTerm → Nested → Nested
nest_opened m k =
    record {
      node = m;
      first = None;
      shape = no_shape;
      childless = true;
      above = (record { node = k.node; first = k.first; shape = k.shape }) ∷ k.above;
      closed = k.closed;
    }

-- a token
abbrev pub nest_passed : ℕ → Nested → Nested
nest_passed i k = record k { first = Some (unwrap_or k.first i); shape = with_token i k.shape; childless = false }

-- an action
abbrev pub nest_acted : Action → Nested → Nested
nest_acted x k = record k { shape = with_action x k.shape; childless = false }

-- the innermost node is closed, unless it is outermost
abbrev pub nest_closed_on : Nested → List Framed → Nested
nest_closed_on k [] = k
nest_closed_on k (f ∷ fs) =
    record { node = f.node; first = f.first; shape = with_node k.node k.shape f.shape; childless = false; above = fs; closed = k.shape }

abbrev pub nest_closed : Nested → Nested
nest_closed k = nest_closed_on k k.above

-- what an action derives
abbrev pub part_by : Action → Option Part
part_by a.Pointer = Some part.Pointer
part_by a.Array = Some part.Array
part_by a.Leave = Some part.Function
part_by _ = None

-- ---- the same of what is known

abbrev pub framed_of : Frame → Framed
framed_of f = record { node = f.node; first = f.first; shape = f.shape }

abbrev pub nested_of : Known → Nested
nested_of k =
    record { node = k.node; first = k.first; shape = k.shape; childless = k.childless; above = map framed_of k.above; closed = k.closed }

-- Each call does to nodes and shapes what it does to all that is known.
pub record NestsGoAlong : Type 0 where
  pub opens : (m : NonTerm) (k : Known) → nested_of (known_open m k) ≡ nest_opened m (nested_of k)
  pub passes : (t : Source) (i : ℕ) (k : Known) → nested_of (known_pass t i k) ≡ nest_passed i (nested_of k)
  pub acts : (t : Source) (x : Action) (k : Known) → nested_of (known_act t x k) ≡ nest_acted x (nested_of k)
  pub closes : (k : Known) → nested_of (known_close k) ≡ nest_closed (nested_of k)
