use Rattle.cr_walk.proofs.Seeing.{Lower, tokens_are_ill, actions_are_ill}
use Rattle.cr_walk.proofs.faults_are_of_the_unit.Goals as goal

lower : goal.After-lower_laws → Lower
lower c =
    let laws = c.lower_laws.ensures in
    record {
      calls = laws.calls;
      join = laws.join;
      derive = laws.derive;
      begin = laws.begin;
      asks = laws.asks;
      made = laws.made;
      bind = laws.bind;
      faults = laws.faults;
    }

pub returns-clause-tokens : goal.returns-clause-tokens
returns-clause-tokens c = tokens_are_ill (lower c)

pub returns-clause-actions : goal.returns-clause-actions
returns-clause-actions c = actions_are_ill (lower c)
