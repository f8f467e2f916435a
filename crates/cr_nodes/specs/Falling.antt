-- How many nodes can be opened and closed before the next event.
use Rattle.std.specs.Prelude.{ℕ, ◌+◌, ◌*◌, ◌<◌, Result, Ok, List, [], ◌∷◌, ◌++◌, length}
use Rattle.cr_grammar.specs.declared.symbols.Symbol.{Symbol}
use Rattle.cr_ll.specs.Weights.{weight}
use Rattle.cr_nodes.specs.declared.nodes.Before.{Before}
use Rattle.cr_nodes.specs.declared.nodes.Before.TheVariants.{Opens, Closes}
use Rattle.cr_nodes.specs.declared.nodes.NodesFault.{NodesFault}
use Rattle.cr_nodes.specs.Moves.{Row, OpenNodes}

-- the symbols that are left, from the innermost node outwards
abbrev pub left_above : List Row → List Symbol
left_above [] = []
left_above (r ∷ above) = r.rest ++ left_above above

abbrev pub left_of : OpenNodes → List Symbol
left_of c = c.inner.rest ++ left_above c.above

-- no more nodes than this are opened and closed before the next event
abbrev pub at_most : OpenNodes → ℕ
at_most c = 2 * weight (left_of c) + length c.above

abbrev pub Falls : OpenNodes → Result Before NodesFault → OpenNodes → Type 0
Falls old (Ok (Opens m)) new = at_most new < at_most old
Falls old (Ok Closes) new = at_most new < at_most old
Falls old _ new = Unit {0}
