-- How the code's values are seen as those of the moves.
use Rattle.std.specs.Prelude.{Option, List, option_map}
use Rattle.std.specs.Borrow.{Bor}
use Rattle.cr_grammar.specs.declared.symbols.Symbol.{Symbol}
use Rattle.cr_nodes.specs.declared.rows.OpenRow.{OpenRow}
use Rattle.cr_nodes.specs.Moves.{Row, row}

abbrev pub seen_body : Option (Bor (List Symbol)) → Option (List Symbol)
seen_body = option_map (λ (b : Bor (List Symbol)). b.now)

abbrev pub seen_row : OpenRow → Row
seen_row r = row r.node r.rest.now
