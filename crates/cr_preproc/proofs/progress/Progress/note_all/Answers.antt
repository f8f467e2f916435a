use Rattle.std.proofs.Common.{refl, sym, ap, ◌++◌, ◌∙◌}
use Rattle.cr_macros.specs.Definition.{text_of}
use Rattle.cr_macros.specs.Tokens.{tokens_of}
use Rattle.cr_phase4.specs.Directives.{all_marks}
use Rattle.cr_preproc.specs.Progressing.{IsNotOpaque}
use Rattle.cr_preproc.proofs.Marked.{all_told}
use Rattle.cr_preproc.proofs.Progresses.{taking_all}
use Rattle.cr_preproc.proofs.Notings.{seen_did}
use Rattle.cr_preproc.proofs.progress.Progress.note_all.Goals as goal

pub returns-clause-did : goal.returns-clause-did
returns-clause-did c =
    let p = c.args.self.now in
    let ts = tokens_of p.names c.args.tokens.now in
    seen_did p _ (all_marks c.args.role ts) c.requires.good (taking_all IsNotOpaque c.args.role ts c.requires.role)
    (record {
      seen = c.in_ok-note_all.ensures ∙ ap (λ l. p.trace.seen.items ++ l) (sym (all_told (text_of p.names p.renaming.old) (text_of p.names p.renaming.new) c.args.role ts));
      same = refl;
    })
