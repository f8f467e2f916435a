use Rattle.std.proofs.Common.{◌≡◌, drop}
use Rattle.std.specs.List.{list_any}
use Rattle.cr_cond.specs.Symbols.{lexemes}
use Rattle.cr_cond.specs.Value.{is_defined}
use Rattle.cr_cond.proofs.reading.has_defined.Given as goal

abbrev pub invariant-loop-i : goal.invariant-loop-i
invariant-loop-i l = list_any is_defined (lexemes l.names (drop l.i l.tokens)) ≡ list_any is_defined (lexemes l.names l.tokens)
