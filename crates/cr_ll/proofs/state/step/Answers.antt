use Rattle.std.proofs.Common.{refl, inl}
use Rattle.cr_ll.specs.Machine.{stop}
use Rattle.cr_ll.proofs.state.step.Goals as goal

pub returns-in-Some-clause-steps : goal.returns-in-Some-clause-steps
returns-in-Some-clause-steps c = (c.in-Some.is, refl, stop, inl (c.in-Some.is, refl))
