use Rattle.std.proofs.Common.{refl, sym, subst, ◌∙◌}
use Rattle.cr_preproc.specs.declared.turning.Then.TheVariants as then
use Rattle.cr_preproc.specs.OpenFiles.{reading_of}
use Rattle.cr_preproc.specs.OpenFileSteps.{TellsLine, TellsNext}
use Rattle.cr_preproc.specs.Progressing.{state_of}
use Rattle.cr_phase4.specs.Search.{world_of}
use Rattle.cr_preproc.proofs.NextTurns.{as_read, next_turn, fault_next, end_next}
use Rattle.cr_preproc.proofs.OpenLater.{named_of}
use Rattle.cr_preproc.proofs.Falls.{reads_some, begun_most, falls_to, run_falls}
use Rattle.cr_preproc.proofs.turning.read.Goals as goal

pub carry_out-requires-clause-literal : goal.carry_out-requires-clause-literal
carry_out-requires-clause-literal c = c.requires.working.file.literal

pub carry_out-requires-clause-run : goal.carry_out-requires-clause-run
carry_out-requires-clause-run c = c.requires.working.file.run

pub carry_out-requires-clause-line : goal.carry_out-requires-clause-line
carry_out-requires-clause-line c = named_of c.args.progress.now.names c.args.file.now.number c.args.file.now.line.items c.requires.working.file.line

pub returns-then-has_line : goal.returns-then-has_line
returns-then-has_line c = record {
  turned = λ u.
      let files = c.args.snapshot.now in
      let p = c.args.progress.now in
      let f = c.args.file.now in
      next_turn (world_of files) u files p c.carry_out.new.progress f c.carry_out.new.file c.args.doing.now c.in_ok-doing.field-0 c.requires.reads
      (c.in_ok-doing.ensures.next (world_of files) u files (as_read files p f c.args.doing.now c.requires.working)
      (subst (TellsLine (reading_of p.names files f)) c.if-has_line.true (c.has_line.ensures.line p.names files c.requires.working.file)));
  falls =
      falls_to c.args.progress.now c.carry_out.new.progress c.args.file.now c.carry_out.new.file c.args.doing.now c.in_ok-doing.field-0 c.in_ok-doing.ensures.reading 6 c.in_ok-doing.ensures.falls
      (begun_most c.args.file.now c.args.doing.now (sym c.has_line.ensures.says ∙ c.if-has_line.true) c.requires.reads);
}

pub take-requires-clause-line : goal.take-requires-clause-line
take-requires-clause-line c =
    let p = c.args.progress.now in
    let r = reading_of p.names c.args.snapshot.now c.args.file.now in
    subst (TellsLine r) c.if-has_line.false (c.has_line.ensures.line p.names c.args.snapshot.now c.requires.working.file)

pub take-requires-clause-token : goal.take-requires-clause-token
take-requires-clause-token c =
    let p = c.args.progress.now in
    let r = reading_of p.names c.args.snapshot.now c.args.file.now in
    subst (TellsNext r) c.in-Token.is (c.coming.ensures p.names c.args.snapshot.now c.requires.working.file)

pub expand_run-requires-clause-literal : goal.expand_run-requires-clause-literal
expand_run-requires-clause-literal c = c.requires.working.file.literal

pub expand_run-requires-clause-run : goal.expand_run-requires-clause-run
expand_run-requires-clause-run c = c.requires.working.file.run

pub expand_run-requires-in-End-clause-literal : goal.expand_run-requires-in-End-clause-literal
expand_run-requires-in-End-clause-literal c = c.requires.working.file.literal

pub expand_run-requires-in-End-clause-run : goal.expand_run-requires-in-End-clause-run
expand_run-requires-in-End-clause-run c = c.requires.working.file.run

pub returns-in-Token : goal.returns-in-Token
returns-in-Token c = record { turned = λ u. c.take.ensures.turned u; falls = c.take.ensures.falls }

pub returns-in_ok-doing-in-Fault : goal.returns-in_ok-doing-in-Fault
returns-in_ok-doing-in-Fault c = record {
  turned = λ u.
      let files = c.args.snapshot.now in
      let p = c.args.progress.now in
      let f = c.args.file.now in
      let r = reading_of p.names files f in
      let works = as_read files p f c.args.doing.now c.requires.working in
      let tells = subst (TellsNext r) c.in-Fault.is (c.coming.ensures p.names files works.file) in
      next_turn (world_of files) u files p p f f c.args.doing.now c.in_ok-doing-in-Fault.field-0 c.requires.reads
      (fault_next (world_of files) u files p f works c.in_ok-doing-in-Fault.field-0 (then.Fails c.lex_fault.result)
      (λ k. c.in_ok-doing-in-Fault.ensures.left (world_of files) u files k works.file) c.in_ok-doing-in-Fault.ensures.does
      tells.0 c.lex_fault.result
      (subst (TellsLine r) c.if-has_line.false (c.has_line.ensures.line p.names files works.file))
      tells.1 (c.lex_fault.ensures r.number tells.0 tells.2) refl);
  falls =
      run_falls c.args.progress.now c.args.progress.now c.args.file.now c.args.file.now c.args.doing.now c.in_ok-doing-in-Fault.field-0 refl
      (c.in_ok-doing-in-Fault.ensures.falls c.args.file.now) (reads_some c.args.file.now c.args.doing.now c.requires.reads);
}

pub returns-in_ok-doing-in-End : goal.returns-in_ok-doing-in-End
returns-in_ok-doing-in-End c = record {
  turned = λ u.
      let files = c.args.snapshot.now in
      let p = c.args.progress.now in
      let f = c.args.file.now in
      let r = reading_of p.names files f in
      let works = as_read files p f c.args.doing.now c.requires.working in
      next_turn (world_of files) u files p p f f c.args.doing.now c.in_ok-doing-in-End.field-0 c.requires.reads
      (end_next (world_of files) u files p f works c.in_ok-doing-in-End.field-0 c.closing.result
      (λ k. c.in_ok-doing-in-End.ensures.left (world_of files) u files k works.file) c.in_ok-doing-in-End.ensures.does
      (subst (TellsLine r) c.if-has_line.false (c.has_line.ensures.line p.names files works.file))
      (subst (TellsNext r) c.in-End.is (c.coming.ensures p.names files works.file))
      (λ k. c.closing.ensures.left (world_of files) u r k f.path r.run (state_of p)));
  falls =
      run_falls c.args.progress.now c.args.progress.now c.args.file.now c.args.file.now c.args.doing.now c.in_ok-doing-in-End.field-0 refl
      (c.in_ok-doing-in-End.ensures.falls c.args.file.now ∙ c.closing.ensures.falls) (reads_some c.args.file.now c.args.doing.now c.requires.reads);
}
