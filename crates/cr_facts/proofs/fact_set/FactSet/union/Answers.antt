use Rattle.cr_facts.proofs.Members.{all_added, taken_back}
use Rattle.cr_facts.proofs.Ties.{fact_total, fact_same}
use Rattle.cr_facts.proofs.fact_set.FactSet.union.Goals as goal

pub returns-in-Ok-clause-ok : goal.returns-in-Ok-clause-ok
returns-in-Ok-clause-ok c =
    all_added fact_total fact_same c.args.self.now c.args.other.now c.in_ok-missing.missing c.insert_all.new.self c.in_ok-missing.ensures c.in-Ok.ensures.ok

pub returns-clause-err : goal.returns-clause-err
returns-clause-err c =
    taken_back fact_total fact_same c.args.self.now c.args.other.now c.in_ok-missing.missing c.insert_all.new.self c.remove_all.new.self c.in_ok-missing.ensures c.in-Err.ensures.err c.in-Err.ensures.kept c.remove_all.ensures
