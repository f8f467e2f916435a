use Rattle.std.proofs.Common.{length}
use Rattle.cr_expand.proofs.HiddenSets.{one_hidden}
use Rattle.cr_expand.proofs.hiding.with_one.Goals as goal

pub returns : goal.returns
returns c = one_hidden c.args.names.now c.args.sets.now c.with_one_more.new.self c.args.set.0 c.in_ok-more.more.0 c.args.name c.requires.tables c.requires.set c.requires.name c.in_ok-more.ensures.puts
    (c.in_ok-more.ensures.below (length c.args.names.now) c.requires.name (record { at = c.requires.tables.named }))
