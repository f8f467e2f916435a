use Rattle.cr_acting.specs.Binding.{state_of}
use Rattle.cr_binding.specs.Initialising.{InBraces, item_within}
use Rattle.cr_binding.specs.State.{start}
use Rattle.cr_known.specs.Known.{Aiming}
use Rattle.cr_operands.specs.Operands.{seen, target_of, with_operands}
use Rattle.std.proofs.Common.{ap, sym, ◌∙◌}
use Rattle.cr_acting.proofs.binding.Binding.save.Goals as goal

pub returns-in-AfterList-clause-saved : goal.returns-in-AfterList-clause-saved
returns-in-AfterList-clause-saved c =
    ap Aiming (c.target_after_list.ensures.target (state_of c.args.self.now) ∙ ap (λ x. item_within (seen c.args.self.now.types x c.args.self.now.operands (state_of c.args.self.now)) InBraces (target_of c.args.self.now.types c.args.self.now.operands.target)) c.records.ensures) ∙ sym (c.in-AfterList.ensures (state_of c.args.self.now))

pub returns-in-Nothing-clause-saved : goal.returns-in-Nothing-clause-saved
returns-in-Nothing-clause-saved c =
    c.save.ensures.saved c.args.self.now.types (with_operands c.args.self.now.types c.args.self.now.operands start) ∙ sym (c.in-Nothing.ensures (state_of c.args.self.now))
