use Rattle.cr_sound_law.proofs.Walking.{uses_are_sound}
use Rattle.cr_sound_law.proofs.uses_are_sound.Goals as goal

pub returns : goal.returns
returns c = uses_are_sound c.lookup_means.ensures c.binding_grows.ensures.lists c.binding_grows.ensures.fault
