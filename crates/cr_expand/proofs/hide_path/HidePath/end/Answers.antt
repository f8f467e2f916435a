use Rattle.std.proofs.Common.{sym}
use Rattle.cr_expand.proofs.HidePaths.{end_last}
use Rattle.cr_expand.proofs.hide_path.HidePath.end.Goals as goal

pub returns-in-Some : goal.returns-in-Some
returns-in-Some c = sym (end_last 0 c.args.self.now.steps.entries (c.in-Some.field-0-0.now, c.in-Some.made.now) (sym c.in-Some.ensures.entry))
