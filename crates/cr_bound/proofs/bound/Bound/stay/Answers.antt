use Rattle.cr_bound.proofs.Lenses.{grown}
use Rattle.cr_bound.proofs.bound.Bound.stay.Goals as goal

pub returns : goal.returns
returns c t u keeps same h =
    grown t u _ keeps same h (c.names_stay.ensures t u _ keeps h.names) (c.records_stay.ensures t u _ keeps same c.typing.ensures.kept h.records)
