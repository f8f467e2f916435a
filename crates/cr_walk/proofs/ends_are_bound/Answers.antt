use Rattle.cr_walk.proofs.Seeing.{Lower, end_is_bound, trees_are_bound}
use Rattle.cr_walk.proofs.ends_are_bound.Goals as goal

lower : goal.After-lower_laws → Lower
lower c =
    let laws = c.lower_laws.ensures in
    record {
      calls = laws.calls;
      join = laws.join;
      derive = laws.derive;
      begin = laws.begin;
      asks = laws.asks;
      made = laws.made;
      bind = laws.bind;
      faults = laws.faults;
    }

pub returns-clause-end : goal.returns-clause-end
returns-clause-end c = end_is_bound (lower c)

pub returns-clause-trees : goal.returns-clause-trees
returns-clause-trees c = trees_are_bound (lower c)
