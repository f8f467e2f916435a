use Rattle.cr_acting.proofs.Parts.{does_from, found, not_selected}
use Rattle.cr_acting.specs.Acting.{designating_last}
use Rattle.cr_acting.specs.Binding.{source_by, state_of}
use Rattle.cr_binding.specs.State.{start}
use Rattle.cr_operands.specs.Operands.{designates, may_select}
use Rattle.std.proofs.Common.{ap, ◌∙◌}
use Rattle.cr_acting.proofs.binding.Binding.designate.Goals as goal

pub returns-in-Ok : goal.returns-in-Ok
returns-in-Ok c =
    does_from (source_by c.args.spot.words) c.args.self.now _ _ designating_last _ _ c.growths_follow.ensures c.in-Ok.ensures.grows (ap (λ i. designates (source_by c.args.spot.words) i (state_of c.args.self.now)) (c.last-token.ensures c.args.self.now.types start) ∙ found (source_by c.args.spot.words) c.args.self.now.types c.args.self.now.bound c.args.self.now.operands c.requires designates (may_select c.in-Ok.member) c.last-token.result c.name_at-name.result _ _ c.in-Ok.ensures.grows c.records.ensures c.name_at-name.ensures c.in-Ok.ensures.ok) c.note_designated.ensures

pub returns-in-Err-Ill : goal.returns-in-Err-Ill
returns-in-Err-Ill c =
    ap (λ i. (designates (source_by c.args.spot.words) i (state_of c.args.self.now)).fault) (c.last-token.ensures c.args.self.now.types start) ∙ not_selected (source_by c.args.spot.words) c.args.self.now.types c.args.self.now.bound c.args.self.now.operands c.requires designates _ c.last-token.result c.name_at-name.result _ _ c.in-Err-Ill.field-0-is c.records.ensures c.name_at-name.ensures c.in-Err-Ill.ensures.ill
