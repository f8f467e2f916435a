use Rattle.std.proofs.Common.{ap, ◌-◌, ◌∙◌}
use Rattle.cr_macros.specs.Definition.{text_of}
use Rattle.cr_macros.specs.MacroTables.{table_of}
use Rattle.cr_macros.specs.Tokens.{tokens_of}
use Rattle.cr_expand.specs.Ahead.{next_token}
use Rattle.cr_expand.specs.declared.machine.TheConstants.{LIMIT}
use Rattle.cr_preproc.specs.OpenFiles.{reading_of}
use Rattle.cr_preproc.specs.Turning.{then_left}
use Rattle.cr_preproc.proofs.LineTurns.{run_begins}
use Rattle.cr_preproc.proofs.turning.expand_run.Goals as goal

pub returns-clause-left : goal.returns-clause-left
returns-clause-left c w u files k o =
    let p = c.args.progress.now in
    let made = c.in_ok-expansion.ensures in
    ap (then_left w u (reading_of p.names files c.args.file.now) k c.args.then)
    (run_begins p files c.args.file.now c.in_ok-expansion.expansion.value o made.literal
    (made.ahead ∙ ap (λ ts. next_token (table_of p.names p.macros (text_of p.names c.args.file.now.literal)) (tokens_of p.names ts) (LIMIT - p.used)) c.deref-2.ensures.value))
