use Rattle.std.proofs.Common.{[], sym, ◌∙◌}
use Rattle.cr_macros.specs.Tokens.{token_of}
use Rattle.cr_preproc.proofs.ConditionalSteps.{not_named_led}
use Rattle.cr_preproc.proofs.conditional.begin_by.Goals as goal

pub returns-else-is_ident-clause-led : goal.returns-else-is_ident-clause-led
returns-else-is_ident-clause-led c path ts =
    let p = c.args.progress.now in
    not_named_led c.args.wanted path c.args.hash (token_of p.names [] c.args.name) ts c.args.open_ifs.now p c.bad_directive.result c.bad_directive.ensures c.requires.live (sym c.is_ident.ensures ∙ c.if-is_ident.false)
