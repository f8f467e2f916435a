use Rattle.std.proofs.Common.{◌∙◌, ap, sym}
use Rattle.cr_declared.specs.Known.{Known, is_redeclared}
use Rattle.cr_declared.proofs.Entering.{clash_told}
use Rattle.cr_declared.proofs.declared.Declared.is_redeclared.Goals as goal

pub returns : goal.returns
returns c =
    sym (ap (λ (f : Known). is_redeclared f c.args.d.now) (sym c.self.view_is)
    ∙ clash_told c.self.inside.scopes _ _ _ _ _ _ c.self.invariant c.args.d.now _ c.path_for-path.ensures _ c.deref.ensures.value _ c.clashes.ensures)
