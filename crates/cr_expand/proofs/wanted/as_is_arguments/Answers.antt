use Rattle.std.proofs.Common.{◌∙◌, arith, drop}
use Rattle.std.proofs.lemmas.List.{drop_all}
use Rattle.cr_expand.specs.Wanted.{is_as_is}
use Rattle.cr_expand.proofs.FullMarks.{marked_more, marked_all}
use Rattle.cr_expand.proofs.wanted.as_is_arguments.Goals as goal

pub loop-i-preserved : goal.loop-i-preserved
loop-i-preserved c = (
  c.mark.ensures.length ∙ c.loop-i.invariant.0,
  λ names n h. marked_more names (is_as_is n) c.args.items.now c.loop-i.i _ _ _ _ _ c.loop-i-test.true (c.as_is_argument_of.ensures names n) (c.mark.ensures.marked n (omega (arith, h, c.loop-i.invariant.0))) (c.loop-i.invariant.1 names n h),
)

pub returns : goal.returns
returns c = λ names. (
  c.loop-i.invariant.0,
  λ n h. marked_all names (is_as_is n) (drop c.loop-i.i c.args.items.now) _ _ (drop_all c.loop-i.i c.args.items.now (omega arith)) (c.loop-i.invariant.1 names n h),
)
