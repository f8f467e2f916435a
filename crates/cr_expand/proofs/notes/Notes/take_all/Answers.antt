use Rattle.std.proofs.Common.{◌∙◌, []}
use Rattle.cr_expand.specs.Held.{watch_of}
use Rattle.cr_expand.proofs.Noted.{noted_step, same_watch}
use Rattle.cr_expand.proofs.notes.Notes.take_all.Goals as goal

pub loop-i-preserved : goal.loop-i-preserved
loop-i-preserved c = (
  λ sets. noted_step (watch_of c.args.names.now c.args.self.now) (watch_of c.args.names.now c.loop-i.self) c.args.names.now sets c.args.role c.args.tokens.now c.loop-i.i _ c.args.self.now.seen.items c.loop-i.self.seen.items c.take.new.self.seen.items
      (same_watch c.args.names.now c.loop-i.self c.args.self.now c.loop-i.invariant.1 c.loop-i.invariant.2)
      (c.loop-i.invariant.0 sets) (c.in_ok-take.ensures.seen []) c.loop-i-test.true,
  c.in_ok-take.ensures.same.0 ∙ c.loop-i.invariant.1,
  c.in_ok-take.ensures.same.1 ∙ c.loop-i.invariant.2,
)
