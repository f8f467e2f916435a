use Rattle.std.proofs.Common.{◌≤◌, List, [], sym, ap, ◌∙◌, subst, arith}
use Rattle.cr_macros.specs.Tokens.{Token, tokens_of}
use Rattle.cr_phase4.specs.Runs.{runs}
use Rattle.cr_preproc.specs.declared.progress.Progress.{Progress}
use Rattle.cr_preproc.specs.declared.turning.Doing.TheVariants as doing
use Rattle.cr_preproc.specs.Expanding.{still_in}
use Rattle.cr_preproc.specs.Listings.{IsListed, IsOneMore, IsListEnd, IsListFault}
use Rattle.cr_preproc.specs.OpenFiles.{reading_of, IsOpen}
use Rattle.cr_preproc.specs.Progressing.{state_of}
use Rattle.cr_preproc.specs.Turning.{IsFitting}
use Rattle.cr_preproc.proofs.DecideTurns.{decides_more, fails_next, ends_next}
use Rattle.cr_preproc.proofs.Falls.{falls_to, run_falls}
use Rattle.cr_preproc.proofs.IncludeTurns.{noted_working}
use Rattle.cr_preproc.proofs.ListsLeft.{noted_state}
use Rattle.cr_preproc.proofs.NamesGrow.{tokens_later}
use Rattle.cr_preproc.proofs.OpenLater.{open_later}
use Rattle.cr_preproc.proofs.turning.decide_turn.Goals as goal

pub returns-in-Goes : goal.returns-in-Goes
returns-in-Goes c = record {
  turned = λ w u files open1 fits.
      let p = c.args.progress.now in
      let q = c.step.new.progress in
      let f = c.args.file.now in
      let l = c.args.listing in
      let m = c.step.new.self in
      let more : IsOneMore p q l m = subst (IsListed p q l m) c.in-Goes.is c.in_ok-step.ensures.listed in (
        decides_more c.defined_macros_are_known.ensures w u files p q f l m c.args.decision c.requires.good open1 more,
        noted_working files p q f more.told (doing.Decides m c.args.decision) open1 fits more.noted c.in_ok-step.ensures.good (more.listing, more.literal ∙ c.requires.literal),
      );
  falls = tt;
}

pub returns-in_ok-doing-in-Fails : goal.returns-in_ok-doing-in-Fails
returns-in_ok-doing-in-Fails c = record {
  turned = λ w u files open1 fits.
      let p = c.args.progress.now in
      let q = c.step.new.progress in
      let f = c.args.file.now in
      let l = c.args.listing in
      let bad : IsListFault p q l _ = subst (IsListed p q l c.step.new.self) c.in-Fails.is c.in_ok-step.ensures.listed in
      let g = bad.noted.told.names in
      let open2 : IsOpen q.names files f = open_later p.names q.names files f g open1 in (
        (λ k. fails_next w u (reading_of p.names files f) k c.args.decision l.hash p q (state_of p) (tokens_of p.names l.given.items) (still_in p l.expansion.value) bad.cause c.in-Fails.fault
            (runs f.path (tokens_of q.names f.run.items) (state_of q)) _ bad.stops bad.moves
            (ap (λ (ts : List Token). runs f.path ts (state_of q)) (tokens_later p.names q.names f.run.items g c.requires.run)
            ∙ ap (runs f.path (tokens_of p.names f.run.items)) (noted_state p q [] c.defined_macros_are_known.ensures c.requires.good bad.noted))
            (c.in_ok-doing-in-Fails.ensures.left w u files k open2) bad.noted.told),
        noted_working files p q f [] c.in_ok-doing-in-Fails.field-0 open1 fits bad.noted c.in_ok-step.ensures.good c.in_ok-doing-in-Fails.ensures.does,
      );
  falls =
      let p = c.args.progress.now in
      let q = c.step.new.progress in
      let f = c.args.file.now in
      let bad : IsListFault p q c.args.listing _ = subst (IsListed p q c.args.listing c.step.new.self) c.in-Fails.is c.in_ok-step.ensures.listed in
      run_falls p q f f (doing.Decides c.args.listing c.args.decision) c.in_ok-doing-in-Fails.field-0 bad.noted.reading (c.in_ok-doing-in-Fails.ensures.falls f) (let h : 2 ≤ 5 = omega arith in h);
}

pub returns-in_ok-doing-in-Ends : goal.returns-in_ok-doing-in-Ends
returns-in_ok-doing-in-Ends c = record {
  turned = λ w u files open1 fits.
      let p = c.args.progress.now in
      let q = c.step.new.progress in
      let f = c.args.file.now in
      let l = c.args.listing in
      let m = c.step.new.self in
      let end : IsListEnd p q l m = subst (IsListed p q l m) c.in-Ends.is c.in_ok-step.ensures.listed in
      let open2 : IsOpen q.names files f = subst (λ (y : Progress). IsOpen y.names files f) (sym end.same) open1 in
      let fits2 : IsFitting q f = subst (λ (y : Progress). IsFitting y f) (sym end.same) fits in
      ends_next w u files p q c.after_decision.new.progress f c.after_decision.new.file l m c.args.decision c.deref.result.now c.used-progress.result c.in_ok-doing-in-Ends.field-0
      c.used-progress.ensures end c.deref.ensures.value (c.in_ok-doing-in-Ends.ensures.next w u files open2 fits2);
  falls =
      let p = c.args.progress.now in
      let q = c.step.new.progress in
      let f = c.args.file.now in
      let end : IsListEnd p q c.args.listing c.step.new.self = subst (IsListed p q c.args.listing c.step.new.self) c.in-Ends.is c.in_ok-step.ensures.listed in
      falls_to p c.after_decision.new.progress f c.after_decision.new.file (doing.Decides c.args.listing c.args.decision) c.in_ok-doing-in-Ends.field-0 (c.in_ok-doing-in-Ends.ensures.reading ∙ ap (λ x. x.reading) end.same) 5 c.in_ok-doing-in-Ends.ensures.falls (let h : 5 ≤ 5 = omega arith in h);
}
