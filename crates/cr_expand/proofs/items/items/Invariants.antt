use Rattle.std.proofs.Common.{◌≡◌, ◌++◌, drop}
use Rattle.cr_macros.specs.Tokens.{tokens_of}
use Rattle.cr_macros.specs.MacroTables.{macro_text}
use Rattle.cr_macros.specs.Substitution as spec
use Rattle.std.specs.List.{All}
use Rattle.std.proofs.Common.{◌≤◌, length}
use Rattle.cr_expand.specs.Parts.{IsItemNamed}
use Rattle.cr_expand.specs.Items.{item_texts}
use Rattle.cr_expand.proofs.items.items.Given as goal

abbrev pub invariant-loop-i : goal.invariant-loop-i
invariant-loop-i l = record {
  count : length l.items.items ≤ l.i;
  named : All (IsItemNamed l.names) l.items.items;
  items : item_texts l.names l.items.items ++ spec.items (macro_text l.names l.m) l.beside l.skip (tokens_of l.names (drop l.i l.body))
      ≡ spec.body_items (macro_text l.names l.m);
}
