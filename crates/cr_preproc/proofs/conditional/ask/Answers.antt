use Rattle.std.proofs.Common.{refl}
use Rattle.cr_preproc.proofs.Expandings.{progress_more, state_more}
use Rattle.cr_preproc.proofs.NamesGrow.{known_later}
use Rattle.cr_preproc.proofs.ConditionalSteps.{grows_digits, asked_led}
use Rattle.cr_preproc.proofs.conditional.ask.Goals as goal

pub text-requires : goal.text-requires
text-requires c =
    let p = c.args.progress.now in
    known_later p.names c.answer_defined.new.names p.renaming.old (grows_digits p.names c.answer_defined.new.names c.in_ok-answered.ensures.names) c.requires.good.old

pub returns-clause-led : goal.returns-clause-led
returns-clause-led c path hash cs =
    let p = c.args.progress.now in
    let names = c.answer_defined.new.names in
    let trace = record p.trace { seen = c.note_asked.new.seen } in
    let g = grows_digits p.names names c.in_ok-answered.ensures.names in (
      asked_led p names trace c.args.list.now c.in_ok-answered.answered.items path hash c.args.decision cs c.defined_macros_are_known.ensures c.requires.good c.requires.list g
          (record { seen = c.in_ok-note_asked.ensures; same = refl })
          c.in_ok-answered.ensures.made,
      refl,
      state_more p names trace c.defined_macros_are_known.ensures c.requires.good g,
      c.in_ok-answered.ensures.named,
    )

pub returns-clause-good : goal.returns-clause-good
returns-clause-good c =
    let p = c.args.progress.now in
    let names = c.answer_defined.new.names in
    let trace = record p.trace { seen = c.note_asked.new.seen } in
    progress_more p names trace c.defined_macros_are_known.ensures c.requires.good (grows_digits p.names names c.in_ok-answered.ensures.names) c.text.ensures.distinct
