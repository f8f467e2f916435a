-- What actions do, in words of their own.
use Rattle.std.specs.Prelude.{◌≡◌, ℕ, ◌+◌, Bool, if◌then◌else◌, Option, unwrap_or, List, [], ◌∷◌, drop}
use Rattle.cr_grammar.specs.declared.symbols.NonTerm.{NonTerm}
use Rattle.cr_grammar.specs.declared.symbols.Action.{Action}
use Rattle.cr_decl.specs.declared.SpecWord.{SpecWord}
use Rattle.cr_types.specs.declared.Part.{Part}
use Rattle.cr_typing.specs.declared.expressions.Op.TheVariants as op
use Rattle.cr_binding.specs.Source.{Source, text_at}
use Rattle.cr_binding.specs.State.{State}
use Rattle.cr_binding.specs.Specifying.{based, atomic_type, specified_by, type_specifier}
use Rattle.cr_binding.specs.Tags.{untagged}
use Rattle.cr_binding.specs.Expressions.{push, type_or_mixed, operand, value_type, operated, postfix, selection, is_arrow}
use Rattle.cr_binding.specs.Initialising.{initialiser, designator, last_type}
use Rattle.cr_binding.specs.Actions.{passed}
use Rattle.cr_binding.specs.Binding.{asked, goes_on}
use Rattle.cr_binding.specs.WellFormed.{is_typedef_name}
use Rattle.cr_ll.specs.Derivation.{Asked}
use Rattle.cr_known.specs.declared.nest.Leaves.{Leaves}
use Rattle.cr_known.specs.Shapes.{Shape, is_one_string}
use Rattle.cr_known.specs.Known.{acted_by}
use Rattle.cr_bound.specs.Bound.{type_by}
use Rattle.cr_bound.specs.Declaring.{enumerating}
use Rattle.cr_operands.specs.Operands.{aimed_at, item_ended}
use Rattle.cr_acting.specs.declared.acting.Spot.{Spot}
use Rattle.cr_acting.specs.declared.binding.Binding.{Binding}
use Rattle.cr_acting.specs.Binding.{state_of, Change}

-- ---- calls

-- token number i of a node
abbrev pub passing : NonTerm → ℕ → Change
passing m i t s = goes_on s (passed t m i s)

-- the shape of the node that ended last
abbrev pub closed_by : Spot → Shape
closed_by x = record { parts = x.parts.now; leaves = x.leaves }

-- the first token of the node where the action stands, or the last token where it has none yet
abbrev pub first_by : Option ℕ → State → ℕ
first_by first s = unwrap_or first s.last

-- an action, where no list of words is refused
abbrev pub acting : Action → Spot → Change
acting x spot t s = acted_by t spot.node (first_by spot.first s) x (closed_by spot) s

-- an action
abbrev pub acting_on : Action → Spot → Change
acting_on x spot t s = goes_on s (acting x spot t s)

-- an ask, with its answer
abbrev pub asking : ℕ → Bool → Change
asking i answer t s = asked (Asked i answer ∷ []) s

-- the answer is whether the name is that of a type where it is asked
abbrev pub IsAnswered : Source → Binding → ℕ → Bool → Type 0
IsAnswered t b i answer = answer ≡ is_typedef_name t (state_of b).present i (state_of b).declarations

-- ---- declarations

abbrev pub staying : Change
staying t s = s

-- a type specifier, of which token i is the first
abbrev pub specifying : Option ℕ → Change
specifying first t s = type_specifier t (first_by first s) s

-- the type of the last operand is specified, which goes
abbrev pub specifying_operand : State → State
specifying_operand s = record (based (type_or_mixed s.values) s) { values = drop 1 s.values }

-- the same, if it is so
abbrev pub specifying_if : (atomic : Bool) → State → State
specifying_if atomic s = if atomic then atomic_type s.values s else s

-- what a word specifies besides what it says among the others
abbrev pub specifying_by : Option SpecWord → Change
specifying_by word t s = specified_by word s

abbrev pub enumerating_first : Option ℕ → Change
enumerating_first first t s = enumerating (first_by first s) t s

abbrev pub untagged_next : Change
untagged_next t s = untagged (s.last + 1) s

-- ---- expressions

-- the type that a declarator derives by these parts is an operand
abbrev pub pushing_type : List Part → Change
pushing_type parts t s = push (type_by parts s) s

abbrev pub pushing_value : Change
pushing_value t s = push (value_type t s.last) s

abbrev pub operating : NonTerm → Option ℕ → Change
operating m first t s = record s { values = operated m (text_at t (first_by first s)) s.values }

-- the name of the last token selects a member, by an arrow where the first token of the node is one
abbrev pub selecting_last : Option ℕ → Change
selecting_last first t s = selection (is_arrow (text_at t (first_by first s))) t s.last s

abbrev pub selecting_by : (arrow : Bool) → Change
selecting_by arrow t s = selection arrow t s.last s

abbrev pub offset_index : Change
offset_index t s = record s { values = postfix op.Index s.values }

-- ---- initialisers

abbrev pub initialising : NonTerm → Change
initialising m t s = initialiser m s

-- for the object that was declared last, or for a compound literal of the last operand's type
abbrev pub aiming_at_last : State → State
aiming_at_last s = aimed_at (last_type s.declarations) s

abbrev pub aiming_at_operand : State → State
aiming_at_operand s = aimed_at (operand s) s

abbrev pub aiming : (of_declarator : Bool) → State → State
aiming of_declarator s = if of_declarator then aiming_at_last s else aiming_at_operand s

-- an item that is an expression of these tokens ends
abbrev pub ending_item : Leaves → Change
ending_item x t s = item_ended (is_one_string t x) s

abbrev pub designating_last : Change
designating_last t s = designator s.target t s.last s
