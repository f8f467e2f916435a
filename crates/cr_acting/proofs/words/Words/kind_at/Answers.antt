use Rattle.cr_acting.specs.Binding.{source_by}
use Rattle.std.proofs.Common.{refl}
use Rattle.cr_acting.proofs.words.Words.kind_at.Goals as goal

pub returns : goal.returns
returns c =
    c.kind_at.ensures (source_by c.args.self) refl
