use Rattle.std.proofs.Common.{None}
use Rattle.cr_preproc.proofs.MacroNames.{sets_text, still_named}
use Rattle.cr_preproc.proofs.definitions.undefine.Goals as goal

pub returns-clause-sets : goal.returns-clause-sets
returns-clause-sets c = sets_text c.args.names.now c.args.name None c.args.macros.now c.undefine.new.self c.text.ensures.distinct c.requires.name c.requires.macros c.undefine.ensures

pub returns-clause-named : goal.returns-clause-named
returns-clause-named c = still_named c.args.names.now c.args.name None c.args.macros.now c.undefine.new.self c.requires.name c.requires.macros c.undefine.ensures
