use Rattle.std.proofs.Common.{refl}
use Rattle.cr_preproc.proofs.IncludeTurns.{moved_is}
use Rattle.cr_preproc.proofs.listing.at.Goals as goal

pub returns : goal.returns
returns c = moved_is c.args.hash c.args.fault (record { cause = c.args.fault.cause; place = c.args.hash }) refl refl
