use Rattle.std.proofs.Common.{arith}
use Rattle.cr_compdb.proofs.Refusals.{too_many, few, gives_same}
use Rattle.cr_compdb.proofs.database.units_in.Goals as goal

pub returns-then-items-gt-MAX_ENTRIES : goal.returns-then-items-gt-MAX_ENTRIES
returns-then-items-gt-MAX_ENTRIES c = too_many c.args.items.now (omega arith)

pub returns : goal.returns
returns c = gives_same _ _ _ _ (few c.args.items.now (omega arith)) c.entries_of.ensures
