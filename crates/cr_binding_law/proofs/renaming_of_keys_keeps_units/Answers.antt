use Rattle.cr_binding_law.proofs.Units.{renaming_of_keys_keeps_units}
use Rattle.cr_binding_law.proofs.renaming_of_keys_keeps_units.Goals as goal

pub returns : goal.returns
returns c =
    renaming_of_keys_keeps_units c.renaming_keeps_units.ensures c.keys_are_whole_entities.ensures.entities c.keys_are_whole_entities.ensures.free
