use Rattle.std.proofs.Common.{sym, ◌∙◌, arith}
use Rattle.cr_declared.proofs.Nearest.{at_once, found, outward, nowhere, at_file}
use Rattle.cr_declared.proofs.table.nearest.Goals as goal

pub outward-init : goal.outward-init
outward-init c = at_once _ _ _ _ _ c.requires.distinct c.requires.within

pub returns-in-Some : goal.returns-in-Some
returns-in-Some c = found _ _ _ _ _ c.requires.distinct _ _ c.outward.invariant (sym c.ends_at.ensures ∙ c.in-Some.is)

pub returns-then-at-eq0 : goal.returns-then-at-eq0
returns-then-at-eq0 c =
    nowhere _ _ _ _ _ c.requires.distinct _ c.outward.invariant (sym c.ends_at.ensures ∙ c.in-None.is) (at_file _ _ c.if-at-eq0.true c.requires.file_scope)

pub outward-preserved : goal.outward-preserved
outward-preserved c =
    outward _ _ _ _ _ c.requires.distinct _ _ _ c.outward.invariant (sym c.ends_at.ensures ∙ c.in-None.is) c.outer-at.ensures.within (c.outer-at.ensures.inner (omega (arith, c.if-at-eq0.false))).1
