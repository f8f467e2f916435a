use Rattle.std.proofs.Common.{◌≡◌, length, map, refl, ap, ◌++◌, ◌∙◌, rules}
use Rattle.cr_base.specs.declared.cause.Role.TheVariants as role
use Rattle.cr_macros.specs.Definition.{text_of}
use Rattle.cr_macros.specs.Tokens.{tokens_of}
use Rattle.cr_phase4.specs.Traces.{all_seen_as}
use Rattle.cr_preproc.proofs.Notings.{opaque_did, rest_of}
use Rattle.cr_preproc.proofs.progress.Progress.note_opaque.Goals as goal

pub returns-clause-did : goal.returns-clause-did
returns-clause-did c =
    let p = c.args.self.now in
    let more = all_seen_as (text_of p.names p.renaming.old) (text_of p.names p.renaming.new) role.Opaque (tokens_of p.names c.args.tokens.now) in
    let before : c.len-before.result ≡ length p.trace.seen.items = search rules in
    opaque_did p _ (tokens_of p.names c.args.tokens.now) more c.requires.good refl c.in_ok-note_all.ensures
    (c.in_ok-note_seen_places.ensures
    ∙ ap (λ l. p.trace.opaque.items ++ map (λ s. s.place) l)
    (rest_of c.len-before.result c.deref.result.now p.trace.seen.items more (c.deref.ensures.value ∙ c.in_ok-note_all.ensures) before))
    refl
