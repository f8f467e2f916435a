use Rattle.cr_binding.specs.State.{start}
use Rattle.std.proofs.Common.{ap, sym, ◌∙◌}
use Rattle.std.specs.Prelude.{unwrap_or}
use Rattle.cr_acting.proofs.binding.Binding.first.Goals as goal

pub returns : goal.returns
returns c =
    c.unwrap_or.ensures ∙ ap (unwrap_or c.args.first) (sym (c.last.ensures c.args.self.now.types start))
