use Rattle.std.proofs.Common.{◌∙◌}
use Rattle.indexmap.proofs.CallerLemmas.{insert_entry-new}
use Rattle.cr_typing.proofs.record_members.put_name.Goals as goal

pub returns-clause-entries : goal.returns-clause-entries
returns-clause-entries c = c.in-Ok.ensures.entries ∙ insert_entry-new _ c.args.names.now c.args.name c.args.named c.requires.absent
