use Rattle.std.proofs.Common.{◌∙◌, sym, ap}
use Rattle.std.specs.Option.{option_copied}
use Rattle.cr_macros.specs.Expansion as spec
use Rattle.cr_expand.proofs.Headings.{use_none, use_named}
use Rattle.cr_expand.proofs.head.named.Goals as goal

pub returns-in-None-lookup-clause-means : goal.returns-in-None-lookup-clause-means
returns-in-None-lookup-clause-means c = λ file hide rest.
    use_none c.args.names.now c.args.macros.now file hide c.args.h.token rest c.requires.distinct c.requires.macros c.requires.token
    (ap spec.predefined_named (sym c.text.ensures) ∙ sym c.predefined_named.ensures ∙ c.in-None.is)
    (sym c.lookup.ensures ∙ ap option_copied c.in-None-lookup.is)

pub returns-in-Some-lookup-clause-means : goal.returns-in-Some-lookup-clause-means
returns-in-Some-lookup-clause-means c = λ file hide rest.
    use_named c.args.names.now c.args.macros.now file hide c.args.h.token rest c.requires.distinct c.requires.macros c.requires.token c.in-Some-lookup.m.now
    (ap spec.predefined_named (sym c.text.ensures) ∙ sym c.predefined_named.ensures ∙ c.in-None.is)
    (sym c.lookup.ensures ∙ ap option_copied c.in-Some-lookup.is)

pub returns-in-Some-lookup-clause-looked_up : goal.returns-in-Some-lookup-clause-looked_up
returns-in-Some-lookup-clause-looked_up c = sym c.lookup.ensures ∙ ap option_copied c.in-Some-lookup.is
