use Rattle.std.proofs.Common.{rules, tests, ◌∙◌, sym, ap, Some, [], false, List, Bool}
use Rattle.std.specs.Prelude.{codes, fold, option_map}
use Rattle.std.proofs.lemmas.Iterator.Splits.{YieldsList-from_slice_split}
use Rattle.std.proofs.lemmas.Iterator.Consumers.{YieldsList-end}
use Rattle.cr_base.specs.declared.token.Name.{Name}
use Rattle.cr_macros.specs.declared.definition.ParamList.{ParamList}
use Rattle.cr_macros.specs.Definition.{is_mark, after_piece}
use Rattle.cr_macros.proofs.Pieces.{pieces_of_some, mapped_if}
use Rattle.cr_macros.proofs.definition.params.Goals as goal

pub returns : goal.returns
returns c =
    let y = rw c.into_iter-piece-iterator.ensures.into_iter_gives at c.loop-piece.yielded_by in
    let e = YieldsList-end (YieldsList-from_slice_split _ (is_mark c.args.names.now (codes ",")) _ c.split-piece-items.ensures.rest c.split-piece-items.ensures.done c.split-piece-items.ensures.closure (λ x b q k. search (rules, tests))) c.loop-piece.yielded _ y _ _ c.in-None.is c.next.ensures.steps in
    ap (option_map {T = ParamList} {U = List Name × Bool} (λ p. (p.names.keys, p.variadic))) c.only_if.ensures
    ∙ mapped_if c.loop-piece.good c.loop-piece.list
    ∙ c.loop-piece.invariant
    ∙ ap (fold (λ params piece. after_piece c.args.names.now piece params) (Some ([], false))) (e.0 ∙ sym (pieces_of_some c.args.names.now c.args.inside.now (sym c.is_empty.ensures ∙ c.if-is_empty.false)))
