use Rattle.std.proofs.Common.{◌∙◌, ap}
use Rattle.std.specs.Prelude.{position}
use Rattle.cr_declared.specs.Known.{Known, is_here}
use Rattle.cr_declared.proofs.Here.{first_is_here}
use Rattle.cr_declared.proofs.declared.Declared.first_here.Goals as goal

pub returns : goal.returns
returns c =
    c.first_of.ensures
    ∙ first_is_here _ _ _ _ _ _ c.self.invariant c.args.space c.args.name c.ends_at.result c.ends_at.ensures
    ∙ ap (λ (f : Known). position (is_here f.present c.args.space c.args.name) f.entries) c.self.view_is
