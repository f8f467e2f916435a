use Rattle.std.proofs.Common.{◌∙◌}
use Rattle.cr_preproc.proofs.MacroNames.{found_same}
use Rattle.cr_preproc.proofs.condition.has_macro.Goals as goal

pub returns : goal.returns
returns c = c.is_some.ensures ∙ found_same c.args.names.now c.args.name c.args.macros.now c.lookup.result c.text.ensures.distinct c.requires.named c.requires.macros c.lookup.ensures
