use Rattle.std.proofs.Common.{◌∙◌, ap, sym, arith}
use Rattle.cr_declared.specs.Known.{Known, is_redeclared}
use Rattle.cr_declared.proofs.Entering.{kept_more}
use Rattle.cr_declared.proofs.declared.Declared.declare.Goals as goal

pub invariant_of-self-2 : goal.invariant_of-self-2
invariant_of-self-2 c =
    kept_more c.self.inside.scopes _ _ _ _ _ _ c.self.invariant c.args.d _ c.path_for-path.ensures _ _ _ _ _ c.len-n.result c.in_ok-push.ensures.items (omega (arith, c.len-n.ensures, c.self.inside.rows.ok.0))
    (ap (λ (f : Known). is_redeclared f c.args.d) c.self.view_is ∙ sym c.is_redeclared.ensures ∙ c.if-is_redeclared.false)
    c.requires c.make_room.ensures.slots c.make_room.ensures.names c.put_behind.ensures c.note_linked.ensures
