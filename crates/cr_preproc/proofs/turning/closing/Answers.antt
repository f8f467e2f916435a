use Rattle.std.proofs.Common.{◌≡◌, Some, None}
use Rattle.cr_preproc.specs.OpenIfs.{first_of}
use Rattle.cr_preproc.proofs.LineTurns.{closes, closes_in}
use Rattle.cr_preproc.proofs.turning.closing.Goals as goal

pub returns-in-None-clause-left : goal.returns-in-None-clause-left
returns-in-None-clause-left c w u r k path run s =
    let none : first_of c.args.file.now.open_ifs ≡ None = cc in closes w u r k path run s c.args.file.now.open_ifs none

pub returns-in-Some-clause-left : goal.returns-in-Some-clause-left
returns-in-Some-clause-left c w u r k path run s =
    let some : first_of c.args.file.now.open_ifs ≡ Some c.in-Some.innermost = cc in closes_in w u r k path run s c.in-Some.innermost c.args.file.now.open_ifs some
