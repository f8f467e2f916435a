use Rattle.cr_sound_law.proofs.Walking.{members_are_unique}
use Rattle.cr_sound_law.proofs.members_are_unique.Goals as goal

pub returns : goal.returns
returns c = members_are_unique c.lookup_means.ensures c.binding_grows.ensures.lists c.binding_grows.ensures.fault
