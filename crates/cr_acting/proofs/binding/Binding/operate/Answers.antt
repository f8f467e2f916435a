use Rattle.cr_acting.proofs.Parts.{becomes_as, by_operands}
use Rattle.cr_acting.specs.Acting.{operating}
use Rattle.cr_acting.specs.Binding.{source_by, state_of}
use Rattle.cr_binding.specs.Expressions.{operated}
use Rattle.cr_binding.specs.Source.{text_at}
use Rattle.cr_operands.specs.Operands.{changing}
use Rattle.std.proofs.Common.{ap, sym, ◌∙◌}
use Rattle.cr_acting.proofs.binding.Binding.operate.Goals as goal

pub returns : goal.returns
returns c =
    becomes_as (source_by c.args.spot.words) c.args.self.now _ (λ _. changing (operated c.args.spot.node c.text_at-text.result.now)) (operating c.args.spot.node c.args.spot.first) (ap (λ x. changing (operated c.args.spot.node x) (state_of c.args.self.now)) (sym c.text_at-text.ensures ∙ ap (text_at (source_by c.args.spot.words)) c.first.ensures))
    (by_operands (source_by c.args.spot.words) c.args.self.now.types c.args.self.now.bound c.args.self.now.operands c.requires (changing (operated c.args.spot.node _)) _ _ c.stay.ensures c.in_ok-operate.ensures.over.records c.in_ok-operate.ensures.grows c.in_ok-operate.ensures.ok)
