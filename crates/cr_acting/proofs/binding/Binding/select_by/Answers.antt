use Rattle.cr_acting.proofs.Parts.{becomes_as, not_selected, selected}
use Rattle.cr_acting.specs.Acting.{selecting_by}
use Rattle.cr_acting.specs.Binding.{source_by, state_of}
use Rattle.cr_binding.specs.Expressions.{selection}
use Rattle.cr_binding.specs.State.{start}
use Rattle.std.proofs.Common.{ap, sym, ◌∙◌}
use Rattle.cr_acting.proofs.binding.Binding.select_by.Goals as goal

pub returns-in_ok-select-in-Ok : goal.returns-in_ok-select-in-Ok
returns-in_ok-select-in-Ok c =
    becomes_as (source_by c.args.spot.words) c.args.self.now _ (λ w. (selection c.args.arrow) w c.last-token.result) (selecting_by c.args.arrow) (ap (λ i. (selection c.args.arrow) (source_by c.args.spot.words) i (state_of c.args.self.now)) (sym (c.last-token.ensures c.args.self.now.types start)))
    (selected (source_by c.args.spot.words) c.args.self.now.types c.args.self.now.bound c.args.self.now.operands c.requires (selection c.args.arrow) _ c.last-token.result c.name_at-name.result _ _ _ c.records.ensures c.name_at-name.ensures c.in-Ok.ensures.ok (c.in_ok-select-in-Ok.ensures.ok c.args.self.now.types) (c.in_ok-select-in-Ok.ensures.typed c.args.self.now.types c.requires.whole.typed) c.in-Ok.ensures.grows)

pub returns-in-Err-Ill : goal.returns-in-Err-Ill
returns-in-Err-Ill c =
    ap (λ i. ((selection c.args.arrow) (source_by c.args.spot.words) i (state_of c.args.self.now)).fault) (c.last-token.ensures c.args.self.now.types start) ∙ not_selected (source_by c.args.spot.words) c.args.self.now.types c.args.self.now.bound c.args.self.now.operands c.requires (selection c.args.arrow) _ c.last-token.result c.name_at-name.result _ _ c.in-Err-Ill.field-0-is c.records.ensures c.name_at-name.ensures c.in-Err-Ill.ensures.ill
