use Rattle.std.proofs.Common.{◌-◌, ◌∙◌, sym, arith}
use Rattle.cr_scope.specs.Declarations.{depth_seen}
use Rattle.cr_scope.proofs.Numbers.{rest_outward}
use Rattle.cr_scope.proofs.Declared.{length-map}
use Rattle.cr_scope.proofs.Scopes.next_visible.Goals as goal

pub loop-n-preserved : goal.loop-n-preserved
loop-n-preserved c =
    let f = c.args.self.now in
    let all = length-map (depth_seen f.present c.args.space c.args.name) f.entries in (
      omega arith,
      c.loop-n.invariant.1
          ∙ rest_outward c.loop-n.depth (c.loop-n.depth - 1) c.loop-n.end _ _ (omega arith) (c.len-end.ensures ∙ sym all) c.in-None.ensures,
    )
