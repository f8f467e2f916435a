use Rattle.cr_known.proofs.Walking.{sound_steps_bind}
use Rattle.cr_known.proofs.sound_steps_bind.Goals as goal

pub returns : goal.returns
returns c = sound_steps_bind
