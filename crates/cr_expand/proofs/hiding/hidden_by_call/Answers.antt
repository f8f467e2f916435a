use Rattle.cr_macros.specs.Definition.{text_of}
use Rattle.cr_expand.proofs.HiddenSets.{hidden_then}
use Rattle.cr_expand.proofs.hiding.hidden_by_call.Goals as goal

pub returns : goal.returns
returns c = hidden_then c.args.names.now c.args.sets.now c.met.new.sets c.with_one.new.sets c.in_ok-common.common.0 c.in_ok-hide.hide.0 _ (text_of c.args.names.now c.args.name) c.in_ok-common.ensures c.in_ok-hide.ensures
