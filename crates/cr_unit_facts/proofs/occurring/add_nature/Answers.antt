use Rattle.cr_unit_facts.proofs.Said.{nature_said}
use Rattle.cr_unit_facts.proofs.occurring.add_nature.Goals as goal

pub returns : goal.returns
returns c = nature_said c.args.key.now c.args.nature _ _ _ _ c.in_ok-add_kind.ensures c.in_ok-add_kind-2.ensures c.in_ok-add_file_scope.ensures
