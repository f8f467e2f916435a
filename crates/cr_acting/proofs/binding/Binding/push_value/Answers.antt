use Rattle.cr_acting.proofs.Parts.{becomes_as, by_operands_alone}
use Rattle.cr_acting.specs.Acting.{pushing_value}
use Rattle.cr_acting.specs.Binding.{source_by, state_of}
use Rattle.cr_binding.specs.Expressions.{push, value_type}
use Rattle.cr_binding.specs.State.{start}
use Rattle.std.proofs.Common.{ap, sym}
use Rattle.cr_acting.proofs.binding.Binding.push_value.Goals as goal

pub returns : goal.returns
returns c =
    becomes_as (source_by c.args.spot.words) c.args.self.now _ (λ _. push (value_type (source_by c.args.spot.words) c.last.result)) pushing_value (ap (λ i. push (value_type (source_by c.args.spot.words) i) (state_of c.args.self.now)) (sym (c.last.ensures c.args.self.now.types start)))
    (by_operands_alone (source_by c.args.spot.words) c.args.self.now.types c.args.self.now.bound c.args.self.now.operands c.requires (push (value_type (source_by c.args.spot.words) c.last.result)) _ (c.in_ok-push_value.ensures.grows c.args.self.now.types c.requires.whole.held) (c.in_ok-push_value.ensures.ok c.args.self.now.types (source_by c.args.spot.words) c.last.result c.requires.whole.held c.kind_at-kind.ensures))
