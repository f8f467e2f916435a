use Rattle.cr_expand.proofs.Interned.{interned_given}
use Rattle.cr_expand.proofs.predefined.literal.Goals as goal

pub returns-clause-given : goal.returns-clause-given
returns-clause-given c = interned_given c.args.names.now c.intern.new.self c.args.kind c.args.text.now c.in_ok-name.name c.in_ok-name.ensures.interned c.in_ok-name.ensures.distinct
