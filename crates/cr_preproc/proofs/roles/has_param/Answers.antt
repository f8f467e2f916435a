use Rattle.std.proofs.Common.{ap, sym, ◌∙◌, map, Some}
use Rattle.std.specs.Prelude.{is_some}
use Rattle.std.specs.Option.{option_map}
use Rattle.cr_macros.specs.Definition.{text_of}
use Rattle.cr_macros.specs.Substitution.{index_of, named_params}
use Rattle.cr_preproc.proofs.Marked.{has_some}
use Rattle.cr_preproc.proofs.roles.has_param.Goals as goal

pub returns-in-Some : goal.returns-in-Some
returns-in-Some c =
    c.is_named.ensures
    ∙ has_some c.args.names.now c.items.result.now c.args.m.now.variadic c.args.word.now
    ∙ ap (λ ps. is_some (index_of (named_params c.args.m.now.variadic (option_map (map (text_of c.args.names.now)) ps)) c.args.word.now)) (ap (λ ps. Some ps) c.items.ensures ∙ sym c.in-Some.is)
