use Rattle.std.proofs.Common.{arith}
use Rattle.std.specs.Map.{values_of}
use Rattle.std.proofs.lemmas.List.{length-map}
use Rattle.cr_snapshot.proofs.Within.{length-within}
use Rattle.cr_snapshot.proofs.snapshot.Snapshot.know.Goals as goal

pub overflow_cast-result : goal.overflow_cast-result
overflow_cast-result c =
    let long = c.len-n.ensures.len in
    let same = length-map c.self.inside.files.entries (λ e. e.1) in
    let within = length-within (values_of c.self.inside.files.entries) c.self.invariant.1 in
    omega arith
