use Rattle.cr_typing.specs.declared.expressions.Op.TheVariants as op
use Rattle.cr_acting.proofs.Parts.{leads_as, leads_by_bound, leads_by_operands, leads_same}
use Rattle.cr_acting.specs.Binding.{state_of}
use Rattle.cr_acting.specs.Ends.{ending_alone}
use Rattle.cr_binding.specs.Expressions.{on_two}
use Rattle.cr_binding.specs.Specifying.{words_ended}
use Rattle.cr_operands.specs.Operands.{changing}
use Rattle.cr_typing.specs.ExpressionTypes.{binary_type}
use Rattle.std.proofs.Common.{sym}
use Rattle.cr_acting.proofs.binding.Binding.end_alone.Goals as goal

pub returns-in_ok-join_results-in-Results : goal.returns-in_ok-join_results-in-Results
returns-in_ok-join_results-in-Results c =
    leads_as c.args.self.now _ (λ _. changing (on_two (binary_type op.Generic))) (ending_alone c.args.node c.args.childless) (λ source. sym (c.in-Results.ensures (state_of c.args.self.now)))
    (leads_by_operands c.args.self.now.types c.args.self.now.bound c.args.self.now.operands c.requires (changing (on_two (binary_type op.Generic))) _ _ c.stay.ensures c.in_ok-join_results-in-Results.ensures.over.records c.in_ok-join_results-in-Results.ensures.grows c.in_ok-join_results-in-Results.ensures.ok)

pub returns-in-Words : goal.returns-in-Words
returns-in-Words c =
    leads_as c.args.self.now _ (λ _. words_ended) (ending_alone c.args.node c.args.childless) (λ source. sym (c.in-Words.ensures (state_of c.args.self.now)))
    (leads_by_bound c.args.self.now.types c.args.self.now.bound c.args.self.now.operands c.requires words_ended _ c.operands_stay.ensures (c.end_words.ensures.ok c.args.self.now.types) (c.end_words.ensures.typed c.args.self.now.types c.requires.typed))

pub returns-in-Nothing : goal.returns-in-Nothing
returns-in-Nothing c =
    leads_same c.args.self.now (ending_alone c.args.node c.args.childless) c.operands_stay.ensures c.requires (λ source. sym (c.in-Nothing.ensures (state_of c.args.self.now)))
