use Rattle.std.proofs.Common.{◌∙◌, ap}
use Rattle.std.specs.Prelude.{option_and_then, slice_get}
use Rattle.cr_binding.specs.WellFormed.{is_some_typedef}
use Rattle.cr_names.specs.Names.{with_names}
use Rattle.cr_names.proofs.Doing.{asked_at}
use Rattle.cr_names.proofs.names.Names.ask.Goals as goal

pub returns-clause-answer : goal.returns-clause-answer
returns-clause-answer c t source s named spelled =
    ap (λ r. is_some_typedef (option_and_then (slice_get (with_names t c.args.self.now s).declarations) r)) (c.meaning-meaning.ensures t source s c.args.token named spelled)
    ∙ ap is_some_typedef (c.get.ensures.found t s)
    ∙ c.is_typedef-answer.ensures t c.args.self.now.declared.paths

pub returns-clause-ok : goal.returns-clause-ok
returns-clause-ok c =
    asked_at _ _ c.self.view_is c.self.invariant _ _ _ _ c.place-place.ensures.path c.len-before.ensures c.is_typedef-answer.result c.in_ok-push.ensures.ok
