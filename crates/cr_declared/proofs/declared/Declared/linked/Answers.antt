use Rattle.std.proofs.Common.{◌∙◌, ap}
use Rattle.cr_scope.specs.Linkage.{linked}
use Rattle.cr_declared.specs.Known.{Known}
use Rattle.cr_declared.proofs.declared.Declared.linked.Goals as goal

pub returns : goal.returns
returns c = c.linked_at.ensures ∙ c.self.invariant.found.linked c.args.name ∙ ap (λ (f : Known). linked c.args.name f.entries) c.self.view_is
