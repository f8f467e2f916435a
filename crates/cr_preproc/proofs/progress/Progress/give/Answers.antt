use Rattle.std.proofs.Common.{◌<◌, length, refl, arith}
use Rattle.cr_preproc.specs.declared.progress.TheConstants.{MOST_TOKENS}
use Rattle.cr_preproc.proofs.Givings.{given_did}
use Rattle.cr_preproc.proofs.progress.Progress.give.Goals as goal

pub returns-clause-given : goal.returns-clause-given
returns-clause-given c h hide =
    let few : length c.args.self.now.tokens.items < MOST_TOKENS = omega arith in
    given_did c.args.self.now c.note.new.self _ c.args.t hide c.requires.good c.requires.name few c.in_ok-note.ensures.seen c.in_ok-push.ensures.items refl
