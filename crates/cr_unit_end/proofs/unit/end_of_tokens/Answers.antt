use Rattle.std.proofs.Common.{subst}
use Rattle.cr_groups.specs.Rows.{source_of}
use Rattle.cr_reading.specs.Reading.{IsBound, IsFirstCause, IsRead}
use Rattle.cr_unit_end.proofs.unit.end_of_tokens.Goals as goal

pub facts_of-requires-clause-bound : goal.facts_of-requires-clause-bound
facts_of-requires-clause-bound c =
    subst (λ ys. IsBound (source_of c.args.tokens.now.names ys) c.in-WellFormed.sema) c.deref.ensures.value
    (subst (IsRead (source_of c.args.tokens.now.names c.deref.result.now)) c.in-WellFormed.is c.in_ok-sema.ensures)

pub returns-in_ok-facts-in-WellFormed : goal.returns-in_ok-facts-in-WellFormed
returns-in_ok-facts-in-WellFormed c =
    let h : IsBound (source_of c.args.tokens.now.names c.args.tokens.now.tokens.items) c.in-WellFormed.sema =
    subst (λ ys. IsBound (source_of c.args.tokens.now.names ys) c.in-WellFormed.sema) c.deref.ensures.value
    (subst (IsRead (source_of c.args.tokens.now.names c.deref.result.now)) c.in-WellFormed.is c.in_ok-sema.ensures)
    in
    (h.1.tree, h.1.well_formed, c.in_ok-facts-in-WellFormed.ensures h.1.tree h.1.well_formed)

pub returns-in-Ill : goal.returns-in-Ill
returns-in-Ill c =
    subst (λ ys. IsFirstCause (source_of c.args.tokens.now.names ys) c.in-Ill.cause c.in-Ill.place) c.deref.ensures.value
    (subst (IsRead (source_of c.args.tokens.now.names c.deref.result.now)) c.in-Ill.is c.in_ok-sema.ensures)
