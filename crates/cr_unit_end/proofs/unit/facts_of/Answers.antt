use Rattle.cr_unit_end.proofs.Ending.{kept_of}
use Rattle.cr_unit_end.proofs.unit.facts_of.Goals as goal

pub facts_of_bound-requires-clause-kept : goal.facts_of_bound-requires-clause-kept
facts_of_bound-requires-clause-kept c =
    kept_of c.args.tokens.now c.args.sema.now c.bound.result.now c.bound.ensures c.deref.result.now c.deref.ensures.value c.requires.bound
