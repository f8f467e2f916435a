use Rattle.cr_acting.proofs.Parts.{by_bound_alone}
use Rattle.cr_acting.specs.Acting.{asking}
use Rattle.cr_acting.specs.Binding.{source_by}
use Rattle.cr_binding.specs.State.{start}
use Rattle.cr_bound.specs.Bound.{Any}
use Rattle.std.proofs.Common.{sym}
use Rattle.cr_acting.proofs.binding.Binding.ask.Goals as goal

pub returns-clause-answer : goal.returns-clause-answer
returns-clause-answer c =
    sym (c.in_ok-answer.ensures.answer c.args.self.now.types (source_by c.args.words) start c.name_at.ensures c.requires.spelled.0)

pub returns-clause-asked : goal.returns-clause-asked
returns-clause-asked c =
    by_bound_alone (source_by c.args.words) c.args.self.now.types c.args.self.now.bound c.args.self.now.operands c.requires Any (asking c.args.token _) _ c.operands_stay.ensures tt (c.in_ok-answer.ensures.ok c.args.self.now.types) (c.in_ok-answer.ensures.typed c.args.self.now.types c.requires.whole.typed)
