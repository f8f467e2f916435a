use Rattle.std.proofs.Common.{refl, subst, sym}
use Rattle.cr_declared.specs.Kept.{ArePlaced}
use Rattle.cr_declared.proofs.Looked.{rows_keep}
use Rattle.cr_declared.proofs.Placing.{found_grows, placed_inside}
use Rattle.cr_declared.proofs.declared.Declared.enter_again.Goals as goal

pub invariant_of-self-2 : goal.invariant_of-self-2
invariant_of-self-2 c = record {
  placed = subst (ArePlaced c.inside.new.self c.in_ok-inner.inner) (sym c.outermost_inside-self-inside.ensures)
      (placed_inside _ _ _ c.self.invariant.placed _ _ _ c.in_ok-inner.ensures.keeps c.in_ok-inner.ensures.distinct c.in_ok-inner.ensures.within c.in_ok-inner.ensures.path);
  found = found_grows _ _ _ _ _ c.in_ok-inner.ensures.keeps c.self.invariant.found;
}

pub returns-clause-ok : goal.returns-clause-ok
returns-clause-ok c =
    rw (← c.self.view_is)
    (record {
      scopes = refl;
      present = c.in_ok-inner.ensures.path;
      entries = rows_keep _ _ _ c.in_ok-inner.ensures.keeps c.self.invariant.found.within;
      paths = c.in_ok-inner.ensures.keeps;
    })
