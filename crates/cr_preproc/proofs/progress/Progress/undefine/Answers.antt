use Rattle.std.proofs.Common.{[], None, sym, subst}
use Rattle.cr_macros.specs.Tokens.{token_of, tokens_of}
use Rattle.cr_phase4.specs.Definition as spec
use Rattle.cr_macros.specs.Definition.{text_of}
use Rattle.cr_preproc.specs.Seen.{SetsText}
use Rattle.cr_preproc.proofs.Definings.{undefined_did}
use Rattle.cr_preproc.proofs.progress.Progress.undefine.Goals as goal

pub returns-clause-carried : goal.returns-clause-carried
returns-clause-carried c h hash =
    let p = c.args.self.now in
    let q = c.note.new.self in
    let t = token_of p.names [] c.in-Some.name in
    let did = c.in_ok-note.ensures.did in
    undefined_did p q c.undefine.new.macros hash (spec.undefined_name (tokens_of p.names c.args.tokens.now)) t
    (sym c.in-Some.ensures.name)
    c.requires.good did
    (c.defined_macros_are_known.ensures.undefined q.names c.in-Some.name.text q.macros c.undefine.new.macros did.good.macros c.undefine.ensures.by_number)
    c.undefine.ensures.named
    (subst (λ ns. SetsText q.names q.macros (text_of ns c.in-Some.name.text) None c.undefine.new.macros) c.in_ok-note.ensures.names c.undefine.ensures.sets)
