use Rattle.std.proofs.Common.{[], refl, sym, ap, ◌++◌, ◌∙◌}
use Rattle.cr_macros.specs.Definition.{text_of}
use Rattle.cr_macros.specs.Tokens.{takes, token_of}
use Rattle.cr_phase4.specs.Tasks.{marks}
use Rattle.cr_preproc.specs.Progressing.{IsNotOpaque}
use Rattle.cr_preproc.proofs.Marked.{told}
use Rattle.cr_preproc.proofs.Progresses.{taking_marks}
use Rattle.cr_preproc.proofs.Notings.{seen_did}
use Rattle.cr_preproc.proofs.progress.Progress.note.Goals as goal

pub returns-clause-did : goal.returns-clause-did
returns-clause-did c =
    let p = c.args.self.now in
    let t = token_of p.names [] c.args.t in
    seen_did p _ (marks c.args.role t) c.requires.good (taking_marks IsNotOpaque c.args.role t c.requires.role)
    (record {
      seen = c.in_ok-note.ensures ∙ ap (λ l. p.trace.seen.items ++ l) (sym (told (text_of p.names p.renaming.old) (text_of p.names p.renaming.new) (takes c.args.role t)));
      same = refl;
    })
