use Rattle.std.proofs.Common.{◌<◌, length, arith}
use Rattle.cr_ll.proofs.Rows.{within_rows}
use Rattle.cr_ll.proofs.state.after.Goals as goal

pub returns-else-k-alternatives : goal.returns-else-k-alternatives
returns-else-k-alternatives c =
    let h : c.args.k < length c.alternatives.result.now = within_rows _ _ _ c.alternatives.ensures c.requires in absurd (omega arith)
