use Rattle.cr_acting.proofs.Parts.{leads_grown, same_records}
use Rattle.cr_acting.proofs.binding.Binding.last_type.Goals as goal

pub returns-in_ok-ty-in-None-clause-same : goal.returns-in_ok-ty-in-None-clause-same
returns-in_ok-ty-in-None-clause-same c =
    leads_grown c.args.self.now.types _ c.args.self.now.bound c.args.self.now.operands c.stay.ensures c.operands_stay.ensures c.in_ok-ty-in-None.ensures.keeps (same_records c.args.self.now.types _ _ c.in_ok-ty-in-None.ensures.ok) c.requires
