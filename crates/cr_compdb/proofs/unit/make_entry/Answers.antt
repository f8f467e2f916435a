use Rattle.std.proofs.Common.{rules}
use Rattle.cr_compdb.specs.Entries.{made_entry}
use Rattle.cr_compdb.proofs.unit.make_entry.Goals as goal

pub returns : goal.returns
unfolding made_entry
returns c = search rules
